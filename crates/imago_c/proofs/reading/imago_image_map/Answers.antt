-- SPDX-License-Identifier: MIT
use Rattle.std.proofs.Common.{◌≡◌, ◌∙◌, ℕ, Some, sym, ap}
use Rattle.imago_plan.specs.Pieces.{IsNoPiece}
use Rattle.imago_session.proofs.LayerSteps.{view_of}
use Rattle.imago_c.proofs.Refusals.{map_refused}
use Rattle.imago_c.proofs.reading.imago_image_map.Goals as goal

pub returns-in-Err-clause-cause : goal.returns-in-Err-clause-cause
returns-in-Err-clause-cause c = λ some.
    let s = c.deref.result.now in
    let old : c.args.image.now.handle.value ≡ Some s = c.in-Some.ensures.session ∙ ap Some (sym c.deref.ensures) in
    map_refused c.args.image.now.handle.value s (λ x (n : ℕ) e. IsNoPiece view_of x c.args.offset n e) c.max.result _ c.in-Err.refusal c.code-in-Err.result old c.max.ensures c.code-in-Err.ensures c.in-Err.ensures.refused
