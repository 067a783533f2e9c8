-- SPDX-License-Identifier: MIT
use Rattle.std.proofs.Common.{refl, inl, inr, ⊎_elim}
use Rattle.std.specs.List.{sum_by}
use Rattle.std.proofs.lemmas.Result.{err_from_is_err_and}
use Rattle.imago_vmdk.specs.Reading.{size_of}
use Rattle.imago_vmdk.specs.Image.{extents_in}
use Rattle.imago_vmdk.proofs.vmdk.Vmdk.open_with_extents.Goals as goal

pub returns-in_err-image : goal.returns-in_err-image
returns-in_err-image g c =
    let p = err_from_is_err_and c.from_residual.result c.from_residual.ensures.1 in
    rw (p.1, p.2) (⊎_elim
    (λ reading. inl (refl, reading))
    (λ reasons. inr (inl (refl, reasons)))
    c.in_err-image.ensures.refused)

pub returns-in_err-open_implicit_dependencies_gated : goal.returns-in_err-open_implicit_dependencies_gated
returns-in_err-open_implicit_dependencies_gated g c =
    let p = err_from_is_err_and c.from_residual-in_err-open_implicit_dependencies_gated.result c.from_residual-in_err-open_implicit_dependencies_gated.ensures.1 in
    let o = c.in_ok-image.ensures.opened in
    let v = c.in_ok-image.image in
    rw (p.1, p.2) (inr (inr (extents_in v, sum_by size_of (extents_in v), o.4, rw (o.0, o.2) at c.in_err-open_implicit_dependencies_gated.ensures.refusals)))
