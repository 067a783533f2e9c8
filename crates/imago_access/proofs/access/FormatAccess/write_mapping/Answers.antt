-- SPDX-License-Identifier: MIT
use Rattle.std.proofs.lemmas.Result.{err_from_is_err_and}
use Rattle.imago_access.specs.Chain.{backing}
use Rattle.imago_access.specs.Performed.{IsThroughBy}
use Rattle.imago_access.specs.Writing.{commits}
use Rattle.imago_access.proofs.MadeSteps.{by_driver}
use Rattle.imago_access.proofs.Images.{lent_is, image_mapped, failed_mapped}
use Rattle.imago_access.proofs.access.FormatAccess.write_mapping.Goals as goal

pub returns-clause-mapped : goal.returns-clause-mapped
returns-clause-mapped g c =
    let v = g.D.FormatDriverInstance.view in
    let x = c.args.self.now in
    let t = c.in_ok-test_range.ensures.passed in
    image_mapped v x c.write_through.new.inner c.args.request.offset c.args.request.count c.args.request.overwrite c.args.source.now (commits c.args.spending) c.write_through.result _ (lent_is v c.below-lower.result (backing x) c.below-lower.ensures) t.0 t.1 c.write_through.ensures.told c.write_through.ensures.mapped

pub returns-in_err-test_range-clause-mapped : goal.returns-in_err-test_range-clause-mapped
returns-in_err-test_range-clause-mapped g c =
    let p = err_from_is_err_and c.from_residual.result c.from_residual.ensures.1 in
    rw (p.1, p.2) (failed_mapped g.D.FormatDriverInstance.view c.args.self.now c.args.request.offset c.args.request.count c.args.request.overwrite c.args.source.now (commits c.args.spending) c.in_err-test_range.field-0.0 c.in_err-test_range.ensures.failed c.requires)

pub returns-clause-performed : goal.returns-clause-performed
returns-clause-performed g c =
    let v = g.D.FormatDriverInstance.view in
    let x = c.args.self.now in
    λ passed. by_driver v x c.write_through.new.inner _ (lent_is v c.below-lower.result (backing x) c.below-lower.ensures)
    (λ l a b. IsThroughBy g.D.FormatDriverInstance.calls l c.args.request.offset c.args.request.count c.args.request.overwrite c.args.source.now (commits c.args.spending) a b c.write_through.result) c.write_through.ensures.performed

pub returns-in_err-test_range-clause-performed : goal.returns-in_err-test_range-clause-performed
returns-in_err-test_range-clause-performed g c = λ passed. absurd (passed c.in_err-test_range.field-0.0 c.in_err-test_range.ensures.failed)
