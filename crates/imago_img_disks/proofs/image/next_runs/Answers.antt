-- SPDX-License-Identifier: MIT
use Rattle.std.proofs.Common.{◌∙◌, List, Option, Some, sym, subst, arith}
use Rattle.imago_access.specs.declared.access.FormatAccess.{FormatAccess}
use Rattle.imago_access.specs.Target.{target}
use Rattle.imago_copy.specs.declared.layers.LayerRun.{LayerRun}
use Rattle.imago_copy.specs.LayerRuns.{image_of, at_of, IsNextLayerRun, AreLayerRuns}
use Rattle.imago_copy.proofs.LayerSteps.{one_more}
use Rattle.imago_img_disks.proofs.image.next_runs.Goals as goal

pub loop-runs-preserved : goal.loop-runs-preserved
loop-runs-preserved g c =
    let view = g.D.FormatDriverInstance.view in
    let l = c.loop-runs in
    let first = c.args.runs.now in
    let new = c.next_run.new.self in
    let run = c.in-Some.run' in
    let x = image_of first in
    let some = subst (λ (z : Option LayerRun). IsNextLayerRun view (image_of l.runs) (at_of l.runs) z (at_of new)) c.in-Some.is c.in_ok-run.ensures.run in
    let next = subst (λ (z : FormatAccess _). IsNextLayerRun view z (at_of l.runs) (Some run) (at_of new)) l.invariant.image some in
    let items = c.in_ok-push-in-Some.ensures.items in
    record {
      image = c.in_ok-run.ensures.same ∙ l.invariant.image;
      ready = c.in_ok-run.ensures.ready;
      runs = subst (λ (rs : List LayerRun). AreLayerRuns (target view x) (at_of first) rs (at_of new)) (sym items)
          (one_more (target view x) (at_of first) (at_of l.runs) (at_of new) l.some.items run l.invariant.runs next.0 next.1);
      further = grind (arith, items, l.invariant.further, next);
    }
