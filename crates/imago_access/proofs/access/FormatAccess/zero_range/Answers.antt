-- SPDX-License-Identifier: MIT
use Rattle.std.proofs.Common.{arith, inl, refl}
use Rattle.std.proofs.lemmas.Result.{err_from_is_err_and}
use Rattle.imago_access.specs.Zeroing.{operation_of}
use Rattle.imago_access.proofs.ZeroLoops.{zeroed_next, range_refused, once_next, nothing_zeroed, all_zeroed}
use Rattle.imago_access.proofs.ZeroSteps.{zeroes_range}
use Rattle.imago_access.specs.ZeroCalls.{behind, IsNextZeroed}
use Rattle.imago_access.proofs.MadeSteps.{made_none, made_more, made_refused, made_all}
use Rattle.imago_access.proofs.access.FormatAccess.zero_range.Goals as goal

pub loop-done-init : goal.loop-done-init
loop-done-init g c = (nothing_zeroed g.D.FormatDriverInstance.view c.args.self.now c.args.offset c.args.count (g.met.D.FormatDriverInstance.causes_lawful _) c.requires.takes.spent, λ free. inl (refl, refl), (λ z. refl), made_none (behind (IsNextZeroed g.D.FormatDriverInstance.view g.D.FormatDriverInstance.calls c.args.call) c.args.offset c.args.count) c.args.count c.args.self.now)

pub loop-done-preserved : goal.loop-done-preserved
loop-done-preserved g c =
    let i = c.loop-done.invariant in (
      zeroed_next g.D.FormatDriverInstance.view c.args.self.now c.args.offset c.args.count c.loop-done.self c.zero_next.new.self c.loop-done.done i.0 _ c.in_ok-done.field-0 (c.in_ok-done.ensures.some.1) c.in_ok-done.ensures.zeroed,
      once_next g.D.FormatDriverInstance.view (operation_of c.args.call) (zeroes_range c.args.call) c.args.self.now c.loop-done.self c.zero_next.new.self c.args.offset c.args.count c.loop-done.done i.0 i.1 c.in_ok-done.field-0 c.loop-done-test.true c.in_ok-done.ensures.whole,
      (λ z. absurd (omega (arith, c.in_ok-done.ensures.some.0, z))),
      made_more (behind (IsNextZeroed g.D.FormatDriverInstance.view g.D.FormatDriverInstance.calls c.args.call) c.args.offset c.args.count) c.args.count c.args.self.now c.loop-done.self c.zero_next.new.self c.loop-done.done i.3 c.in_ok-done.field-0 c.loop-done-test.true c.in_ok-done.ensures.some.0 c.in_ok-done.ensures.performed,
    )

pub returns-in_err-done-clause-zeroed : goal.returns-in_err-done-clause-zeroed
returns-in_err-done-clause-zeroed g c =
    let p = err_from_is_err_and c.from_residual.result c.from_residual.ensures.1 in
    let i = c.loop-done.invariant in
    rw (p.1, p.2) (range_refused g.D.FormatDriverInstance.view (operation_of c.args.call) (zeroes_range c.args.call) c.args.self.now c.loop-done.self c.zero_next.new.self c.args.offset c.args.count c.loop-done.done i.0 i.1 _ _ c.in_err-done.field-0.0 c.loop-done-test.true c.in_err-done.ensures.zeroed)

pub returns-in_err-done-clause-empty : goal.returns-in_err-done-clause-empty
returns-in_err-done-clause-empty g c = λ none. absurd (omega (arith, c.loop-done-test.true, none))

pub returns-clause-empty : goal.returns-clause-empty
returns-clause-empty g c = λ none. (refl, c.loop-done.invariant.2 (omega (arith, c.loop-done.invariant.0.within, none)))

pub returns-clause-zeroed : goal.returns-clause-zeroed
returns-clause-zeroed g c = all_zeroed g.D.FormatDriverInstance.view c.args.self.now c.args.offset c.args.count tt c.loop-done.self c.loop-done.done _ (omega (arith, c.loop-done.invariant.0.within)) c.loop-done.invariant.0

pub returns-in_err-done-clause-performed : goal.returns-in_err-done-clause-performed
returns-in_err-done-clause-performed g c =
    let p = err_from_is_err_and c.from_residual.result c.from_residual.ensures.1 in
    rw (p.1, p.2) (made_refused (behind (IsNextZeroed g.D.FormatDriverInstance.view g.D.FormatDriverInstance.calls c.args.call) c.args.offset c.args.count) c.args.count c.args.self.now c.loop-done.self c.zero_next.new.self c.loop-done.done c.loop-done.invariant.3 c.in_err-done.field-0.0 c.loop-done-test.true c.in_err-done.ensures.performed)

pub returns-clause-performed : goal.returns-clause-performed
returns-clause-performed g c = made_all (behind (IsNextZeroed g.D.FormatDriverInstance.view g.D.FormatDriverInstance.calls c.args.call) c.args.offset c.args.count) c.args.count c.args.self.now c.loop-done.self c.loop-done.done c.loop-done.invariant.3 (omega (arith, c.loop-done-test.false))
