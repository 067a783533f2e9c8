-- SPDX-License-Identifier: MIT
use Rattle.std.proofs.Common.{arith, ◌+◌, ◌≤◌, sym, subst, ◌∙◌}
use Rattle.imago_access.specs.Target.{target}
use Rattle.imago_copy.specs.Runs.{IsRunAt}
use Rattle.imago_copy.proofs.RunSteps.{joined_run}
use Rattle.imago_copy.proofs.runs.longest.Goals as goal

pub loop-run-preserved : goal.loop-run-preserved
loop-run-preserved g c =
    let leads = target g.D.FormatDriverInstance.view c.args.image.now in
    let l = c.loop-run in
    let next = c.in_ok-next.next in
    let inside : l.run.at + l.run.count + next.count ≤ c.size-size.result =
    subst (λ n. l.run.at + l.run.count + next.count ≤ n) (sym l.invariant.size) c.in_ok-next.ensures.inside in
    let joined : IsRunAt leads l.run.at (record l.run { count = l.run.count + next.count }) =
    joined_run leads l.run.at l.run next (sym c.goes_on.ensures ∙ c.if-not-goes_on.false) l.invariant.run c.in_ok-next.ensures.run in
    rw c.longer-run.ensures (record {
      size = l.invariant.size;
      at = l.invariant.at;
      kind = l.invariant.kind;
      inside = omega (arith, inside);
      way = c.in_ok-next.ensures.way;
      run = joined;
    })
