-- SPDX-License-Identifier: MIT
use Rattle.std.proofs.Common.{◌∙◌, ◌^◌, ◌<◌, ap, Err, arith}
use Rattle.std.proofs.lemmas.Result.{err_from_is_err_and}
use Rattle.imago_images.specs.declared.format.ImageFormat.TheVariants.{Vmdk}
use Rattle.imago_images.proofs.ImageSteps.{refused_with}
use Rattle.imago_images.proofs.LongestSteps.{unknown_by_read, unknown_by_cause, long_text}
use Rattle.imago_images.proofs.longest.descriptor_text.Goals as goal

pub returns-in_err-count-clause-refused : goal.returns-in_err-count-clause-refused
returns-in_err-count-clause-refused g c = λ accepted bytes told.
    let e = c.in_err-count.field-0.0 in
    let p = err_from_is_err_and c.from_residual.result c.from_residual.ensures.1 in
    refused_with c.from_residual.result e _ (p.1 ∙ ap (λ x. Err x) p.2)
    (unknown_by_read c.args.path.now bytes accepted Vmdk e c.in_err-count.ensures.refused)

pub returns-then-count-gt-LONGEST_TEXT-clause-refused : goal.returns-then-count-gt-LONGEST_TEXT-clause-refused
returns-then-count-gt-LONGEST_TEXT-clause-refused g c = λ accepted bytes told.
    let long : 2 ^ 21 < c.in_ok-count.count = grind (arith, c.if-count-gt-LONGEST_TEXT.true) in
    long_text c.args.path.now bytes accepted c.in_ok-count.count c.of_file.result
    (c.in_ok-count.ensures.told bytes told) long c.of_file.ensures

pub returns-in-Err-clause-refused : goal.returns-in-Err-clause-refused
returns-in-Err-clause-refused g c = λ accepted bytes told.
    unknown_by_cause c.args.path.now bytes accepted Vmdk c.in-Err.cause c.in-Err.ensures.only c.unread.result
    c.unread.ensures
