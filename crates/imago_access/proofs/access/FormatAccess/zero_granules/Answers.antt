-- SPDX-License-Identifier: MIT
use Rattle.std.proofs.Common.{arith, ◌-◌, ⊎_elim}
use Rattle.imago_drivers.specs.Operation.{Zero}
use Rattle.imago_access.proofs.ZeroLoops.{driver_next}
use Rattle.imago_access.specs.declared.zero.ZeroCall.TheVariants as Call
use Rattle.imago_access.specs.ZeroCalls.{zero_by}
use Rattle.imago_access.proofs.ZeroCallSteps.{granules_more, granules_over, granules_end}
use Rattle.imago_access.proofs.access.FormatAccess.zero_granules.Goals as goal

pub loop-done-preserved : goal.loop-done-preserved
loop-done-preserved g c =
    let s = c.loop-done.invariant.0 in
    let lt = c.loop-done-test.true in (
      ⊎_elim (λ none. absurd (omega (arith, c.if-length-gt0.true))) (λ some. omega (arith, some.0)) c.in-Ok.ensures.zeroed.inside,
      driver_next g.D.FormatDriverInstance.view Zero c.args.start c.args.end c.args.self.now c.loop-done.self c.zero_part.new.self c.loop-done.done (c.args.end - c.loop-done.done) c.zero_part.result s (omega arith) c.loop-done.invariant.1 c.zero_part.ensures.zeroed,
      granules_more (zero_by g.D.FormatDriverInstance.calls Call.EnsureZero) c.args.start c.args.end c.args.self.now c.loop-done.self c.zero_part.new.self c.loop-done.done c.loop-done.invariant.2 c.in-Ok.from c.in-Ok.length lt c.if-length-gt0.true c.in-Ok.ensures.performed,
    )

pub returns-in_default-clause-zeroed : goal.returns-in_default-clause-zeroed
returns-in_default-clause-zeroed g c =
    let s = c.loop-done.invariant.0 in
    let lt = c.loop-done-test.true in
    driver_next g.D.FormatDriverInstance.view Zero c.args.start c.args.end c.args.self.now c.loop-done.self c.zero_part.new.self c.loop-done.done (c.args.end - c.loop-done.done) c.zero_part.result s (omega arith) c.loop-done.invariant.1 c.zero_part.ensures.zeroed

pub returns-in_default-2-clause-zeroed : goal.returns-in_default-2-clause-zeroed
returns-in_default-2-clause-zeroed g c =
    let s = c.loop-done.invariant.0 in
    let lt = c.loop-done-test.true in
    driver_next g.D.FormatDriverInstance.view Zero c.args.start c.args.end c.args.self.now c.loop-done.self c.zero_part.new.self c.loop-done.done (c.args.end - c.loop-done.done) c.zero_part.result s (omega arith) c.loop-done.invariant.1 c.zero_part.ensures.zeroed

pub returns-in_default-clause-performed : goal.returns-in_default-clause-performed
returns-in_default-clause-performed g c =
    granules_over (zero_by g.D.FormatDriverInstance.calls Call.EnsureZero) c.args.start c.args.end c.args.self.now c.loop-done.self c.zero_part.new.self c.loop-done.done c.loop-done.invariant.2 c.zero_part.result c.loop-done-test.true c.zero_part.ensures.performed
    (rw c.in-Ok.is (omega (arith, c.if-length-gt0.false)))

pub returns-in_default-2-clause-performed : goal.returns-in_default-2-clause-performed
returns-in_default-2-clause-performed g c =
    granules_over (zero_by g.D.FormatDriverInstance.calls Call.EnsureZero) c.args.start c.args.end c.args.self.now c.loop-done.self c.zero_part.new.self c.loop-done.done c.loop-done.invariant.2 c.zero_part.result c.loop-done-test.true c.zero_part.ensures.performed
    (rw c.in_default.is tt)

pub returns-clause-performed : goal.returns-clause-performed
returns-clause-performed g c =
    granules_end (zero_by g.D.FormatDriverInstance.calls Call.EnsureZero) c.args.start c.args.end c.args.self.now c.loop-done.self c.loop-done.done c.loop-done.invariant.2 (omega (arith, c.loop-done-test.false))
