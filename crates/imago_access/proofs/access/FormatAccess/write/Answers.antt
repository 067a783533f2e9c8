-- SPDX-License-Identifier: MIT
use Rattle.std.proofs.Common.{refl, inl, length}
use Rattle.std.proofs.lemmas.Result.{err_from_is_err_and}
use Rattle.imago_drivers.specs.Operation.{Write}
use Rattle.imago_access.specs.Chain.{backing}
use Rattle.imago_access.specs.Performed.{AllWrittenBy}
use Rattle.imago_access.proofs.Images.{lent_is, image_write, failed_call}
use Rattle.imago_access.proofs.MadeSteps.{by_driver}
use Rattle.imago_access.proofs.Flat.{write_listed}
use Rattle.imago_access.proofs.access.FormatAccess.write.Goals as goal

pub returns-clause-written : goal.returns-clause-written
returns-clause-written g c =
    let v = g.D.FormatDriverInstance.view in
    let x = c.args.self.now in
    let t = c.in_ok-test_range.ensures.passed in
    image_write v x c.write_all.new.inner c.args.offset c.args.source.now c.write_all.result _ (lent_is v c.below.result (backing x) c.below.ensures) t.0 t.1 c.write_all.ensures.empty c.write_all.ensures.written

pub returns-in_err-test_range-clause-written : goal.returns-in_err-test_range-clause-written
returns-in_err-test_range-clause-written g c =
    let p = err_from_is_err_and c.from_residual.result c.from_residual.ensures.1 in
    rw (p.1, p.2) (failed_call g.D.FormatDriverInstance.view c.args.self.now Write c.args.offset (length c.args.source.now) _ _ _ _ _ _ _ _ c.in_err-test_range.field-0.0 c.in_err-test_range.ensures.failed (record { inside = λ k h. inl refl; before = λ p h. refl; behind = λ p h. refl }) c.requires)

pub returns-clause-performed : goal.returns-clause-performed
returns-clause-performed g c =
    let v = g.D.FormatDriverInstance.view in
    let x = c.args.self.now in
    λ passed. by_driver v x c.write_all.new.inner _ (lent_is v c.below.result (backing x) c.below.ensures)
    (λ l a b. AllWrittenBy g.D.FormatDriverInstance.calls l c.args.offset c.args.source.now a b c.write_all.result) c.write_all.ensures.performed

pub returns-in_err-test_range-clause-performed : goal.returns-in_err-test_range-clause-performed
returns-in_err-test_range-clause-performed g c = λ passed. absurd (passed c.in_err-test_range.field-0.0 c.in_err-test_range.ensures.failed)

pub returns-clause-disk : goal.returns-clause-disk
returns-clause-disk g c = λ keeps. write_listed g.D.FormatDriverInstance.view g.met.D.FormatDriverInstance.lawful g.met.D.FormatDriverInstance.causes_lawful _ _ _ _ _ keeps (returns-clause-written g c)

pub returns-in_err-test_range-clause-disk : goal.returns-in_err-test_range-clause-disk
returns-in_err-test_range-clause-disk g c = λ keeps. write_listed g.D.FormatDriverInstance.view g.met.D.FormatDriverInstance.lawful g.met.D.FormatDriverInstance.causes_lawful _ _ _ _ _ keeps (returns-in_err-test_range-clause-written g c)
