-- SPDX-License-Identifier: MIT
use Rattle.std.proofs.Common.{◌+◌, ◌-◌, ◌≤◌, ◌≡◌, None}
use Rattle.std.specs.Prelude.{IfSome, IsTrue}
use Rattle.imago_qcow2.specs.Backing.{format_from}
use Rattle.imago_qcow2.proofs.backing.find_format.Given as goal

abbrev pub invariant-loop-at : goal.invariant-loop-at
invariant-loop-at g l = record {
  last : IsTrue (g.S.Storage.features l.storage).tells_bytes → format_from (g.S.Storage.bytes l.storage) l.found l.at l.end ≡ format_from (g.S.Storage.bytes l.storage) None l.start l.end;
  inside : IfSome l.found (λ p. p.0 + p.1 ≤ l.end);
}

abbrev pub decreases-loop-at : goal.decreases-loop-at
decreases-loop-at g l = l.end - l.at
