-- SPDX-License-Identifier: MIT
use Rattle.std.proofs.Common.{ℕ, ◌*◌, ◌<◌}
use Rattle.std.specs.Prelude.{Decides}
use Rattle.imago_qcow2.specs.Numbers.{be64}
use Rattle.imago_img_checks.specs.VettedParts.{IsEntrySafe}
use Rattle.imago_img_checks.proofs.vet_tables.look_at_entries.Given as goal

abbrev pub invariant-loop-index : goal.invariant-loop-index
invariant-loop-index l =
    Decides l.safe ((j : ℕ) → j < l.index → IsEntrySafe l.shape (be64 l.table (8 * j)))
