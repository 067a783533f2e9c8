-- SPDX-License-Identifier: MIT
use Rattle.std.proofs.Common.{◌∙◌, ap, Err}
use Rattle.std.proofs.lemmas.Result.{err_from_is_err_and}
use Rattle.imago_images.specs.declared.opening.OtherFiles.TheVariants as Others
use Rattle.imago_images.specs.Alone.{IsOfAnother}
use Rattle.imago_images.proofs.ImageSteps.{refused_with}
use Rattle.imago_images.proofs.RefusalSteps.{by_read}
use Rattle.imago_images.proofs.alone.refuse_two.Goals as goal

pub returns-in_err-found-clause-refused : goal.returns-in_err-found-clause-refused
returns-in_err-found-clause-refused g c = λ bytes told.
    let e = c.in_err-found.field-0.0 in
    let p = err_from_is_err_and c.from_residual.result c.from_residual.ensures.1 in
    refused_with c.from_residual.result e _ (p.1 ∙ ap (λ x. Err x) p.2)
    (by_read c.args.path.now (IsOfAnother Others.None c.args.said bytes) (λ answer. tt) (λ error ext. ext) e
    c.in_err-found.ensures.refused)

pub returns-in_err-other_signature_of-clause-refused : goal.returns-in_err-other_signature_of-clause-refused
returns-in_err-other_signature_of-clause-refused g c = λ bytes told.
    let e = c.in_err-other_signature_of.field-0.0 in
    let p = err_from_is_err_and c.from_residual-in_err-other_signature_of.result c.from_residual-in_err-other_signature_of.ensures.1 in
    refused_with c.from_residual-in_err-other_signature_of.result e _ (p.1 ∙ ap (λ x. Err x) p.2)
    (by_read c.args.path.now (IsOfAnother Others.None c.args.said bytes) (λ answer. tt) (λ error ext. ext) e
    c.in_err-other_signature_of.ensures.refused)
