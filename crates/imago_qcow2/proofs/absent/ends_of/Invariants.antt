-- SPDX-License-Identifier: MIT
use Rattle.std.proofs.Common.{◌≡◌, ◌+◌, ◌*◌, length}
use Rattle.imago_qcow2.specs.Absent.{AreAbsentEntries, AreEnds}
use Rattle.imago_qcow2.proofs.absent.ends_of.Given as goal

abbrev pub invariant-loop-group : goal.invariant-loop-group
invariant-loop-group l = record {
  count : l.group + length l.ends.items ≡ l.groups;
  ends : AreEnds l.table l.groups l.ends.items;
  next : AreAbsentEntries l.table (16 * l.group) l.next;
}

abbrev pub decreases-loop-group : goal.decreases-loop-group
decreases-loop-group l = l.group
