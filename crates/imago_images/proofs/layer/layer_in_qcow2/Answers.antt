-- SPDX-License-Identifier: MIT
use Rattle.std.proofs.Common.{ℕ, List, ap, refl, ◌∙◌, subst, IfSome, Some, Err}
use Rattle.std.proofs.lemmas.Result.{err_from_is_err_and}
use Rattle.std.specs.Prelude.{option_map}
use Rattle.imago_qcow2.specs.Entry.{disk_size, qcow2_place}
use Rattle.imago_images.specs.Formats.{SaysFormat}
use Rattle.imago_images.specs.Images.{LeadsTo}
use Rattle.imago_images.specs.Refusals.{IsRefused, IsUnopened}
use Rattle.imago_images.proofs.ImageSteps.{refused_with}
use Rattle.imago_images.proofs.PartSteps.{path_in, format_in}
use Rattle.imago_images.proofs.NamedSteps.{only}
use Rattle.imago_images.proofs.layer.layer_in_qcow2.Goals as goal

pub returns-clause-driver : goal.returns-clause-driver
returns-clause-driver g c = λ bytes told. (
  c.image_of_bytes.ensures.size told.0 ∙ ap disk_size told.1,
  told.0,
  λ p. ap (λ (f : ℕ → _). f p) (c.image_of_bytes.ensures.places told.0)
      ∙ ap (λ (xs : List ℕ). qcow2_place xs p) told.1,
)

pub returns-clause-below : goal.returns-clause-below
returns-clause-below g c = λ bytes told.
    subst (λ (xs : List ℕ). LeadsTo xs c.args.path.now (option_map path_in c.in_ok-below.below))
    told.1 (c.in_ok-below.ensures.below told.0)

pub returns-clause-format : goal.returns-clause-format
returns-clause-format g c = λ bytes told.
    subst (λ (xs : List ℕ). IfSome c.in_ok-below.below (λ b. SaysFormat xs (format_in b)))
    told.1 (c.in_ok-below.ensures.format told.0)

pub returns-in_err-below-clause-refused : goal.returns-in_err-below-clause-refused
returns-in_err-below-clause-refused g c = λ limit bytes told.
    let e = c.in_err-below.field-0.0 in
    let p = err_from_is_err_and c.from_residual.result c.from_residual.ensures.1 in
    refused_with c.from_residual.result e _ (p.1 ∙ ap (λ x. Err x) p.2)
    (subst (λ (xs : List ℕ). IsRefused c.args.path.now (IsUnopened limit xs) e) told.1
    (c.in_err-below.ensures.refused limit told.0))

pub returns-clause-files : goal.returns-clause-files
returns-clause-files g c = λ named.
    (refl, λ i less. named ∙ ap Some (only c.args.path.now i less))
