-- SPDX-License-Identifier: MIT
use Rattle.std.proofs.Common.{◌∙◌, sym, ap, Err}
use Rattle.std.proofs.lemmas.Result.{err_from_is_err_and}
use Rattle.imago_images.specs.declared.format.ImageFormat.TheVariants.{Qcow2}
use Rattle.imago_images.proofs.ImageSteps.{refused_with}
use Rattle.imago_images.proofs.LongestSteps.{l1_in_head, faulty_head, unknown_by_read}
use Rattle.imago_images.proofs.longest.l1_length_told.Goals as goal

pub returns-in_err-length-clause-refused : goal.returns-in_err-length-clause-refused
returns-in_err-length-clause-refused g c = λ accepted bytes told.
    let e = c.in_err-length.field-0.0 in
    let p = err_from_is_err_and c.from_residual.result c.from_residual.ensures.1 in
    refused_with c.from_residual.result e _ (p.1 ∙ ap (λ x. Err x) p.2)
    (unknown_by_read c.args.path.now bytes accepted Qcow2 e c.in_err-length.ensures.refused)

pub returns-in_err-read_block-clause-refused : goal.returns-in_err-read_block-clause-refused
returns-in_err-read_block-clause-refused g c = λ accepted bytes told.
    let e = c.in_err-read_block.field-0.0 in
    let p = err_from_is_err_and c.from_residual-in_err-read_block.result c.from_residual-in_err-read_block.ensures.1 in
    refused_with c.from_residual-in_err-read_block.result e _ (p.1 ∙ ap (λ x. Err x) p.2)
    (unknown_by_read c.args.path.now bytes accepted Qcow2 e c.in_err-read_block.ensures.refused)

pub returns-in-Ok-clause-told : goal.returns-in-Ok-clause-told
returns-in-Ok-clause-told g c = λ bytes told.
    l1_in_head bytes c.read_block.new.buf c.l1_length.result (c.in_ok-read_block.ensures.told bytes told)
    c.l1_length.ensures

pub returns-in-Err-clause-refused : goal.returns-in-Err-clause-refused
returns-in-Err-clause-refused g c = λ accepted bytes told.
    faulty_head c.args.path.now bytes c.read_block.new.buf c.in_ok-length.length c.in-Err.fault c.of_file.result
    (c.in_ok-read_block.ensures.told bytes told) (c.in_ok-length.ensures.told bytes told)
    (sym c.in-Err.ensures.header) c.of_file.ensures accepted
