-- SPDX-License-Identifier: MIT
use Rattle.std.proofs.Common.{◌-◌, ◌≡◌}
use Rattle.std.specs.Prelude.{IsTrue}
use Rattle.imago_qcow2_check.specs.Known.{known_from}
use Rattle.imago_qcow2_check.specs.Bitmaps.{extension_from}
use Rattle.imago_qcow2_check.proofs.head.check_extensions.Given as goal

abbrev pub invariant-loop-at : goal.invariant-loop-at
invariant-loop-at g l = record {
  known : IsTrue (g.S.Storage.features l.storage).tells_bytes → known_from (g.S.Storage.bytes l.storage) l.at l.end ≡ known_from (g.S.Storage.bytes l.storage) l.start l.end;
  bitmaps : IsTrue (g.S.Storage.features l.storage).tells_bytes → extension_from (g.S.Storage.bytes l.storage) l.bitmaps l.at l.end ≡ extension_from (g.S.Storage.bytes l.storage) 0 l.start l.end;
}

abbrev pub decreases-loop-at : goal.decreases-loop-at
decreases-loop-at g l = l.end - l.at
