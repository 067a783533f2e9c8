-- SPDX-License-Identifier: MIT
use Rattle.std.proofs.Common.{◌∙◌, ap, Err, map}
use Rattle.std.specs.String.{string_bytes}
use Rattle.std.proofs.lemmas.Result.{err_from_is_err_and}
use Rattle.imago_vmdk.specs.Line.{extent_with}
use Rattle.imago_images.proofs.ImageSteps.{refused_with}
use Rattle.imago_images.proofs.LongestSteps.{text_refused}
use Rattle.imago_images.proofs.longest.described_size.Goals as goal

pub returns-in_err-text-clause-refused : goal.returns-in_err-text-clause-refused
returns-in_err-text-clause-refused g c = λ bytes told.
    let e = c.in_err-text.field-0.0 in
    let p = err_from_is_err_and c.from_residual.result c.from_residual.ensures.1 in
    refused_with c.from_residual.result e _ (p.1 ∙ ap (λ x. Err x) p.2)
    (c.in_err-text.ensures.refused c.args.accepted bytes told)

pub returns-clause-refused : goal.returns-clause-refused
returns-clause-refused g c = λ bytes told.
    text_refused (λ d. (map (extent_with string_bytes) d.extents.items, d.size)) c.args.path.now bytes
    c.deref.result.now c.args.accepted c.read.result c.in-Err.cause c.of_file.result c.in-Err.is
    (c.deref.ensures.value ∙ c.in_ok-text.ensures.told bytes told) c.read.ensures.reading c.of_file.ensures
