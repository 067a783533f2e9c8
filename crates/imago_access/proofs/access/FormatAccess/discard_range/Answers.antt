-- SPDX-License-Identifier: MIT
use Rattle.std.proofs.Common.{arith, refl}
use Rattle.std.proofs.lemmas.Result.{err_from_is_err_and}
use Rattle.imago_access.specs.Chain.{driver}
use Rattle.imago_access.specs.DiscardParts.{discard_by}
use Rattle.imago_access.proofs.DiscardSteps.{nothing_discarded, loosened_next, loosened_last, loosened_refused, all_discarded}
use Rattle.imago_access.proofs.PartSteps.{begins, goes_on, stops, gives_up, ends}
use Rattle.imago_access.proofs.access.FormatAccess.discard_range.Goals as goal

pub loop-done-init : goal.loop-done-init
loop-done-init g c = (
  nothing_discarded g.D.FormatDriverInstance.view c.args.call c.args.offset c.args.count c.args.self.now (g.met.D.FormatDriverInstance.causes_lawful _) c.requires.takes.spent,
  begins (discard_by g.D.FormatDriverInstance.calls c.args.call) c.args.offset c.args.count (driver c.args.self.now),
  λ z. refl,
)

pub loop-done-preserved : goal.loop-done-preserved
loop-done-preserved g c =
    let e = c.in_ok-start.ensures in (
      loosened_next g.D.FormatDriverInstance.view c.args.call c.args.offset c.args.count c.args.self.now c.loop-done.self c.discard_part.new.self c.loop-done.done c.loop-done.invariant.0 c.in_ok-start.start c.in_ok-start.length e.loosened c.if-length-eq0.false c.loop-done-test.true,
      goes_on (discard_by g.D.FormatDriverInstance.calls c.args.call) c.args.offset c.args.count (driver c.args.self.now) (driver c.loop-done.self) (driver c.discard_part.new.self) c.loop-done.done c.loop-done.invariant.1 c.in_ok-start.start c.in_ok-start.length c.loop-done-test.true c.if-length-eq0.false e.loosened.inside e.performed,
      λ z. absurd (c.if-length-eq0.false (omega (arith, z))),
    )

pub returns-then-length-eq0-clause-loosened : goal.returns-then-length-eq0-clause-loosened
returns-then-length-eq0-clause-loosened g c = loosened_last g.D.FormatDriverInstance.view c.args.call c.args.offset c.args.count c.args.self.now c.loop-done.self c.discard_part.new.self c.loop-done.done c.loop-done.invariant.0 tt c.in_ok-start.start c.in_ok-start.length c.in_ok-start.ensures.loosened

pub returns-then-length-eq0-clause-performed : goal.returns-then-length-eq0-clause-performed
returns-then-length-eq0-clause-performed g c = stops (discard_by g.D.FormatDriverInstance.calls c.args.call) c.args.offset c.args.count (driver c.args.self.now) (driver c.loop-done.self) (driver c.discard_part.new.self) c.loop-done.done c.loop-done.invariant.1 c.in_ok-start.start c.in_ok-start.length c.loop-done-test.true c.if-length-eq0.true c.in_ok-start.ensures.performed

pub returns-in_err-start-clause-loosened : goal.returns-in_err-start-clause-loosened
returns-in_err-start-clause-loosened g c =
    let p = err_from_is_err_and c.from_residual.result c.from_residual.ensures.1 in
    rw (p.1, p.2) (loosened_refused g.D.FormatDriverInstance.view c.args.call c.args.offset c.args.count c.args.self.now c.loop-done.self c.discard_part.new.self c.loop-done.done c.loop-done.invariant.0 c.in_err-start.field-0.0 c.loop-done-test.true c.in_err-start.ensures.loosened)

pub returns-in_err-start-clause-performed : goal.returns-in_err-start-clause-performed
returns-in_err-start-clause-performed g c =
    let p = err_from_is_err_and c.from_residual.result c.from_residual.ensures.1 in
    rw (p.1, p.2) (gives_up (discard_by g.D.FormatDriverInstance.calls c.args.call) c.args.offset c.args.count (driver c.args.self.now) (driver c.loop-done.self) (driver c.discard_part.new.self) c.loop-done.done c.loop-done.invariant.1 c.in_err-start.field-0.0 c.loop-done-test.true c.in_err-start.ensures.performed)

pub returns-clause-empty : goal.returns-clause-empty
returns-clause-empty g c = λ none. (refl, c.loop-done.invariant.2 (omega (arith, none)))

pub returns-clause-loosened : goal.returns-clause-loosened
returns-clause-loosened g c = all_discarded g.D.FormatDriverInstance.view c.args.call c.args.offset c.args.count c.args.self.now c.loop-done.self c.loop-done.self c.loop-done.done c.loop-done.invariant.0 tt

pub returns-clause-performed : goal.returns-clause-performed
returns-clause-performed g c = ends (discard_by g.D.FormatDriverInstance.calls c.args.call) c.args.offset c.args.count (driver c.args.self.now) (driver c.loop-done.self) c.loop-done.done c.loop-done.invariant.1 (omega (arith, c.loop-done-test.false))
