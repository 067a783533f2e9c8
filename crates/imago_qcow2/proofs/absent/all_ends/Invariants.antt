-- SPDX-License-Identifier: MIT
use Rattle.std.proofs.Common.{◌≡◌, length}
use Rattle.imago_qcow2.specs.Absent.{AreEndsOf}
use Rattle.imago_qcow2.proofs.absent.all_ends.Given as goal

abbrev pub invariant-loop-number : goal.invariant-loop-number
invariant-loop-number l = record {
  count : length l.ends.items ≡ l.number;
  ends : AreEndsOf l.l2 l.ends.items;
}
