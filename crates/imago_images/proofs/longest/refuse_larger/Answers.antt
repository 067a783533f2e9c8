-- SPDX-License-Identifier: MIT
use Rattle.std.proofs.Common.{◌∙◌, ap, Err}
use Rattle.std.proofs.lemmas.Result.{err_from_is_err_and}
use Rattle.imago_images.proofs.ImageSteps.{refused_with}
use Rattle.imago_images.proofs.LongestSteps.{large_long}
use Rattle.imago_images.proofs.longest.refuse_larger.Goals as goal

pub returns-in_err-refuse_longer-clause-refused : goal.returns-in_err-refuse_longer-clause-refused
returns-in_err-refuse_longer-clause-refused g c = λ bytes told.
    let e = c.in_err-refuse_longer.field-0.0 in
    let p = err_from_is_err_and c.from_residual.result c.from_residual.ensures.1 in
    refused_with c.from_residual.result e _ (p.1 ∙ ap (λ x. Err x) p.2)
    (large_long c.args.path.now bytes c.args.how.longest c.args.how.accepted c.args.format e
    (c.in_err-refuse_longer.ensures.refused bytes told))

pub returns-clause-refused : goal.returns-clause-refused
returns-clause-refused g c = λ bytes told.
    c.refuse_long_l1.ensures.refused c.args.how.longest c.args.how.accepted bytes told
