-- SPDX-License-Identifier: MIT
use Rattle.std.proofs.Common.{rules, arith, inl, inr, refl, ◌∙◌, ◌+◌, ◌-◌}
use Rattle.std.proofs.lemmas.Result.{err_from_is_err_and}
use Rattle.imago_access.proofs.ZeroLoops.{nothing_zeroed, all_zeroed, zeroed_next, refused_next}
use Rattle.imago_access.specs.ZeroCalls.{behind, IsZeroPiece}
use Rattle.imago_access.proofs.ZeroCallSteps.{lacks_rest, piece_done}
use Rattle.imago_access.proofs.MadeSteps.{made_none, made_more, made_refused, made_all}
use Rattle.imago_access.proofs.access.FormatAccess.zero_as_data.Goals as goal

pub returns-in_err-done-clause-zeroed : goal.returns-in_err-done-clause-zeroed
returns-in_err-done-clause-zeroed g c =
    let p = err_from_is_err_and c.from_residual.result c.from_residual.ensures.1 in
    rw (p.1, p.2) (refused_next g.D.FormatDriverInstance.view c.args.self.now c.args.offset c.args.count c.loop-done.self c.zero_first.new.self c.loop-done.done c.loop-done.invariant.0 _ _ c.in_err-done.field-0.0 c.in_err-done.ensures.zeroed)

pub loop-done-preserved : goal.loop-done-preserved
loop-done-preserved g c = (
  zeroed_next g.D.FormatDriverInstance.view c.args.self.now c.args.offset c.args.count c.loop-done.self c.zero_first.new.self c.loop-done.done c.loop-done.invariant.0 _ c.in_ok-done.field-0 (c.in_ok-done.ensures.some.1) c.in_ok-done.ensures.zeroed,
  made_more (behind (IsZeroPiece g.D.FormatDriverInstance.view g.D.FormatDriverInstance.calls) c.args.offset c.args.count) c.args.count c.args.self.now c.loop-done.self c.zero_first.new.self c.loop-done.done c.loop-done.invariant.1 c.in_ok-done.field-0 c.loop-done-test.true c.in_ok-done.ensures.some.0 (piece_done g.D.FormatDriverInstance.view g.D.FormatDriverInstance.calls (c.args.offset + c.loop-done.done) (c.args.count - c.loop-done.done) c.loop-done.self c.zero_first.new.self _ c.in_ok-done.field-0 c.in_ok-done.ensures.performed),
  c.zero_first.ensures.zeroes,
  λ none. (c.zero_first.ensures.lazy none).1 ∙ c.loop-done.invariant.3 (c.zero_first.ensures.lazy none).0,
)

pub loop-done-init : goal.loop-done-init
loop-done-init g c = (
  nothing_zeroed g.D.FormatDriverInstance.view c.args.self.now c.args.offset c.args.count (g.met.D.FormatDriverInstance.causes_lawful _) c.requires.takes.spent,
  made_none (behind (IsZeroPiece g.D.FormatDriverInstance.view g.D.FormatDriverInstance.calls) c.args.offset c.args.count) c.args.count c.args.self.now,
  search rules,
  λ none. refl,
)

pub returns-clause-zeroed : goal.returns-clause-zeroed
returns-clause-zeroed g c = all_zeroed g.D.FormatDriverInstance.view c.args.self.now c.args.offset c.args.count tt c.loop-done.self c.loop-done.done _ (omega (arith, c.loop-done.invariant.0.within)) c.loop-done.invariant.0

pub returns-in_err-done-clause-performed : goal.returns-in_err-done-clause-performed
returns-in_err-done-clause-performed g c =
    let v = g.D.FormatDriverInstance.view in
    let its = g.D.FormatDriverInstance.calls in
    let p = err_from_is_err_and c.from_residual.result c.from_residual.ensures.1 in
    rw (p.1, p.2) (elim c.in_err-done.ensures.performed [
      | inl piece ↦ inr (made_refused (behind (IsZeroPiece v its) c.args.offset c.args.count) c.args.count c.args.self.now c.loop-done.self c.zero_first.new.self c.loop-done.done c.loop-done.invariant.1 c.in_err-done.field-0.0 c.loop-done-test.true piece)
      | inr lack ↦ inl (lacks_rest v c.args.offset c.args.count c.loop-done.done c.args.self.now c.loop-done.self c.zero_first.new.self c.in_err-done.field-0.0 (c.loop-done.invariant.3 lack.0) (omega arith) lack.1)
    ])

pub returns-clause-performed : goal.returns-clause-performed
returns-clause-performed g c = inr (made_all (behind (IsZeroPiece g.D.FormatDriverInstance.view g.D.FormatDriverInstance.calls) c.args.offset c.args.count) c.args.count c.args.self.now c.loop-done.self c.loop-done.done c.loop-done.invariant.1 (omega (arith, c.loop-done-test.false)))
