-- SPDX-License-Identifier: MIT
use Rattle.std.proofs.Common.{◌∙◌, ap, Err}
use Rattle.std.proofs.lemmas.Result.{err_from_is_err_and}
use Rattle.imago_images.proofs.ImageSteps.{refused_with}
use Rattle.imago_images.proofs.LongestSteps.{large_unknown}
use Rattle.imago_images.proofs.longest.refuse_long_l1.Goals as goal

pub returns-in_err-taken-in-Qcow2-clause-refused : goal.returns-in_err-taken-in-Qcow2-clause-refused
returns-in_err-taken-in-Qcow2-clause-refused g c = λ longest accepted bytes told.
    let e = c.in_err-taken-in-Qcow2.field-0.0 in
    let p = err_from_is_err_and c.from_residual.result c.from_residual.ensures.1 in
    refused_with c.from_residual.result e _ (p.1 ∙ ap (λ x. Err x) p.2)
    (large_unknown c.args.path.now bytes longest accepted c.args.format e c.in-Qcow2.is
    (c.in_err-taken-in-Qcow2.ensures.refused accepted bytes told))
