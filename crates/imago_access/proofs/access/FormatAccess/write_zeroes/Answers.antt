-- SPDX-License-Identifier: MIT
use Rattle.std.proofs.Common.{arith, refl, inl}
use Rattle.std.proofs.lemmas.Result.{err_from_is_err_and}
use Rattle.imago_drivers.specs.Operation.{Zero}
use Rattle.imago_access.proofs.Images.{failed_call}
use Rattle.imago_access.proofs.ZeroSteps.{zero_call}
use Rattle.imago_access.proofs.Flat.{zero_listed, zero_cases}
use Rattle.imago_access.proofs.access.FormatAccess.write_zeroes.Goals as goal

pub returns-clause-zeroed : goal.returns-clause-zeroed
returns-clause-zeroed g c =
    let t = c.in_ok-test_end.ensures.passed in
    zero_call g.D.FormatDriverInstance.view Zero c.args.self.now c.zero_range.new.self c.args.offset c.args.count c.zero_range.result t.0 t.1 (λ big. omega (arith, t.2, big)) tt c.zero_range.ensures.empty c.zero_range.ensures.zeroed

pub returns-in_err-test_end-clause-zeroed : goal.returns-in_err-test_end-clause-zeroed
returns-in_err-test_end-clause-zeroed g c =
    let p = err_from_is_err_and c.from_residual.result c.from_residual.ensures.1 in
    rw (p.1, p.2) (failed_call g.D.FormatDriverInstance.view c.args.self.now Zero c.args.offset c.args.count _ _ _ _ _ _ _ _ c.in_err-test_end.field-0.0 c.in_err-test_end.ensures.failed (record { inside = λ k h. inl refl; before = λ p h. refl; behind = λ p h. refl }) c.requires)

pub returns-clause-performed : goal.returns-clause-performed
returns-clause-performed g c = λ passed. c.zero_range.ensures.performed

pub returns-in_err-test_end-clause-performed : goal.returns-in_err-test_end-clause-performed
returns-in_err-test_end-clause-performed g c = λ passed. absurd (passed c.in_err-test_end.field-0.0 c.in_err-test_end.ensures.failed)

pub returns-clause-disk : goal.returns-clause-disk
returns-clause-disk g c = λ keeps. zero_listed g.D.FormatDriverInstance.view g.met.D.FormatDriverInstance.lawful g.met.D.FormatDriverInstance.causes_lawful _ _ Zero c.args.offset c.args.count (zero_cases c.args.offset c.args.count) _ keeps (returns-clause-zeroed g c)

pub returns-in_err-test_end-clause-disk : goal.returns-in_err-test_end-clause-disk
returns-in_err-test_end-clause-disk g c = λ keeps. zero_listed g.D.FormatDriverInstance.view g.met.D.FormatDriverInstance.lawful g.met.D.FormatDriverInstance.causes_lawful _ _ Zero c.args.offset c.args.count (zero_cases c.args.offset c.args.count) _ keeps (returns-in_err-test_end-clause-zeroed g c)
