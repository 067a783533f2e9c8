-- SPDX-License-Identifier: MIT
use Rattle.std.proofs.lemmas.Result.{err_from_is_err_and, IfOk-weaker}
use Rattle.imago_access.specs.Chain.{backing}
use Rattle.imago_access.proofs.MadeSteps.{by_driver}
use Rattle.imago_access.proofs.Images.{lent_is, image_prepared, image_preparing, failed_preparing}
use Rattle.imago_access.proofs.access.FormatAccess.prepare_data_mapping.Goals as goal

pub returns-clause-prepared : goal.returns-clause-prepared
returns-clause-prepared g c =
    let v = g.D.FormatDriverInstance.view in
    let x = c.args.self.now in
    let r = c.prepare_data_mapping in
    IfOk-weaker r.result _ _ (λ m h. image_prepared v x r.new.self c.args.offset c.args.count c.args.overwrite m _ (lent_is v c.below-lower.result (backing x) c.below-lower.ensures) h) r.ensures.prepared

pub returns-clause-call : goal.returns-clause-call
returns-clause-call g c =
    let v = g.D.FormatDriverInstance.view in
    let x = c.args.self.now in
    let t = c.in_ok-test_range.ensures.passed in
    let r = c.prepare_data_mapping in
    image_preparing v x r.new.self c.args.offset c.args.count r.result _ (lent_is v c.below-lower.result (backing x) c.below-lower.ensures) t.0 t.1 r.ensures.call.unchanged r.ensures.call.refused r.ensures.call.causes r.ensures.call.lengths r.ensures.call.faults r.ensures.call.refusals

pub returns-in_err-test_range-clause-call : goal.returns-in_err-test_range-clause-call
returns-in_err-test_range-clause-call g c =
    let p = err_from_is_err_and c.from_residual.result c.from_residual.ensures.1 in
    rw (p.1, p.2) (failed_preparing g.D.FormatDriverInstance.view c.args.self.now c.args.offset c.args.count c.in_err-test_range.field-0.0 c.in_err-test_range.ensures.failed c.requires)

pub returns-clause-performed : goal.returns-clause-performed
returns-clause-performed g c =
    let v = g.D.FormatDriverInstance.view in
    let x = c.args.self.now in
    let r = c.prepare_data_mapping in
    λ passed. by_driver v x r.new.self _ (lent_is v c.below-lower.result (backing x) c.below-lower.ensures)
    (λ l a b. g.D.FormatDriverInstance.calls.prepared l c.args.offset c.args.count c.args.overwrite a b r.result) r.ensures.performed

pub returns-in_err-test_range-clause-performed : goal.returns-in_err-test_range-clause-performed
returns-in_err-test_range-clause-performed g c = λ passed. absurd (passed c.in_err-test_range.field-0.0 c.in_err-test_range.ensures.failed)
