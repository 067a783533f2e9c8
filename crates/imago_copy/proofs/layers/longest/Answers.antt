-- SPDX-License-Identifier: MIT
use Rattle.std.proofs.Common.{arith, ◌+◌, ◌≤◌, sym, subst}
use Rattle.imago_access.specs.Target.{target}
use Rattle.imago_copy.specs.LayerRuns.{IsLayerRunAt}
use Rattle.imago_copy.proofs.LayerSteps.{joined_layer_run}
use Rattle.imago_copy.proofs.layers.longest.Goals as goal

pub loop-run-preserved : goal.loop-run-preserved
loop-run-preserved g c =
    let leads = target g.D.FormatDriverInstance.view c.args.image.now in
    let l = c.loop-run in
    let next = c.in_ok-next.next in
    let inside : l.run.run.at + l.run.run.count + next.run.count ≤ c.size-size.result =
    subst (λ n. l.run.run.at + l.run.run.count + next.run.count ≤ n) (sym l.invariant.size) c.in_ok-next.ensures.inside in
    let joined : IsLayerRunAt leads l.run.run.at (record l.run { run = record l.run.run { count = l.run.run.count + next.run.count } }) =
    joined_layer_run leads l.run.run.at l.run next (c.goes_on.ensures.0 c.if-not-goes_on.false) l.invariant.run c.in_ok-next.ensures.run in
    rw c.longer-run.ensures (record {
      size = l.invariant.size;
      at = l.invariant.at;
      inside = omega (arith, inside);
      way = c.in_ok-next.ensures.way;
      run = joined;
    })
