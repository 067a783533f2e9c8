-- SPDX-License-Identifier: MIT
use Rattle.std.specs.Prelude.{Decides, IsTrue}
use Rattle.imago_img_checks.specs.VettedParts.{AreEntriesSafe}
use Rattle.imago_img_checks.proofs.vet_tables.look_at_l1.Given as goal

abbrev pub invariant-loop-index : goal.invariant-loop-index
invariant-loop-index g l = IsTrue (g.S.Storage.features l.storage).tells_bytes
    → Decides l.safe (AreEntriesSafe l.shape (g.S.Storage.bytes l.storage) l.entries l.index)
