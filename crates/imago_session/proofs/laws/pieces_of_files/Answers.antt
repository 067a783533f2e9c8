-- SPDX-License-Identifier: MIT
use Rattle.std.proofs.Common.{refl, sym, ◌∙◌, ◌+◌}
use Rattle.imago_access.specs.Target.{target}
use Rattle.imago_plan.proofs.Disks.{stands_shown}
use Rattle.imago_session.proofs.LayerSteps.{view_of, layers_show, stands_no_special, source_is}
use Rattle.imago_session.proofs.laws.pieces_of_files.Goals as goal

pub returns : goal.returns
returns c = λ permitted files at piece layers is i lt.
    let image = c.args.image.now in
    let t = target view_of image (at + i) in
    sym (layers_show c.same_tables_stand_alike.ensures.places permitted (λ k s. (files (k + s)).bytes) files (λ k s. refl) image layers (at + i) (stands_no_special piece.source i t (is.2 i lt)))
    ∙ stands_shown (λ k s. (files (k + s)).bytes) piece.source i t (is.2 i lt)
    ∙ source_is files piece.source i
