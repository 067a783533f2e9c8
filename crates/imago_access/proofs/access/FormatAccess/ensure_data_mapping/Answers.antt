-- SPDX-License-Identifier: MIT
use Rattle.std.proofs.Common.{refl, inr}
use Rattle.std.proofs.lemmas.Result.{err_from_is_err_and}
use Rattle.imago_drivers.specs.Operation.{Write}
use Rattle.imago_access.proofs.Weaker.{and_left, and_right}
use Rattle.imago_access.specs.Chain.{backing}
use Rattle.imago_access.proofs.Written.{stays}
use Rattle.imago_access.proofs.Images.{lent_is, image_ensured, failed_call, same_lengths}
use Rattle.imago_access.proofs.MadeSteps.{by_driver}
use Rattle.imago_access.proofs.access.FormatAccess.ensure_data_mapping.Goals as goal

pub returns-clause-call : goal.returns-clause-call
returns-clause-call g c =
    let v = g.D.FormatDriverInstance.view in
    let x = c.args.self.now in
    let t = c.in_ok-test_range.ensures.passed in
    let r = c.ensure_data_mapping in
    image_ensured v x r.new.self c.args.offset c.args.count c.args.overwrite r.result _ (lent_is v c.below-lower.result (backing x) c.below-lower.ensures) t.0 t.1 (λ k. (r.ensures.call.changed (and_left _ _ k) (and_right _ _ k)).done) (λ k. (r.ensures.call.changed (and_left _ _ k) (and_right _ _ k)).torn) r.ensures.call.leaves.reaches r.ensures.call.causes (stays _ _ r.ensures.call.framed r.ensures.call.storages.lengths.no_shorter) r.ensures.call.outside r.ensures.call.leaves.nothing_pending r.ensures.call.storages.faults r.ensures.call.refusals

pub returns-in_err-test_range-clause-call : goal.returns-in_err-test_range-clause-call
returns-in_err-test_range-clause-call g c =
    let p = err_from_is_err_and c.from_residual.result c.from_residual.ensures.1 in
    rw (p.1, p.2) (failed_call g.D.FormatDriverInstance.view c.args.self.now Write c.args.offset c.args.count _ _ _ _ _ _ _ _ c.in_err-test_range.field-0.0 c.in_err-test_range.ensures.failed (record { inside = λ k h. inr refl; before = λ p h. refl; behind = λ p h. refl }) c.requires)

pub returns-clause-performed : goal.returns-clause-performed
returns-clause-performed g c =
    let v = g.D.FormatDriverInstance.view in
    let x = c.args.self.now in
    let r = c.ensure_data_mapping in
    λ passed. by_driver v x r.new.self _ (lent_is v c.below-lower.result (backing x) c.below-lower.ensures)
    (λ l a b. g.D.FormatDriverInstance.calls.ensured l c.args.offset c.args.count c.args.overwrite a b r.result) r.ensures.performed

pub returns-in_err-test_range-clause-performed : goal.returns-in_err-test_range-clause-performed
returns-in_err-test_range-clause-performed g c = λ passed. absurd (passed c.in_err-test_range.field-0.0 c.in_err-test_range.ensures.failed)

pub returns-in_err-test_range-clause-lengths : goal.returns-in_err-test_range-clause-lengths
returns-in_err-test_range-clause-lengths g c = same_lengths _ _
