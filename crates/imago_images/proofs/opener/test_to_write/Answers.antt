-- SPDX-License-Identifier: MIT
use Rattle.std.proofs.Common.{◌∙◌, ap, true, Err}
use Rattle.std.proofs.lemmas.Result.{err_from_is_err_and}
use Rattle.imago_images.proofs.ImageSteps.{refused_with}
use Rattle.imago_images.proofs.opener.test_to_write.Goals as goal

pub returns-in_err-format-clause-refused : goal.returns-in_err-format-clause-refused
returns-in_err-format-clause-refused g c =
    let e = c.in_err-format.field-0.0 in
    let p = err_from_is_err_and c.from_residual.result c.from_residual.ensures.1 in
    refused_with c.from_residual.result e _ (p.1 ∙ ap (λ x. Err x) p.2) (c.in_err-format.ensures.refused true)
