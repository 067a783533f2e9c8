-- SPDX-License-Identifier: MIT
use Rattle.std.proofs.Common.{◌≡◌, ℕ, ◌+◌, ◌<◌, ◌∷◌, [], Bool, List, ◌∙◌, refl, sym, subst, arith}
use Rattle.imago_copy.specs.LayerRuns.{AreLayerRuns}
use Rattle.imago_copy.specs.declared.layers.LayerRun.{LayerRun}
use Rattle.imago_img_disks.specs.Rows.{HasRows}
use Rattle.imago_img_disks.proofs.RowSteps.{both_rows, runs_end, runs_further}
use Rattle.imago_img_disks.proofs.map.print_runs.Goals as goal

pub loop-run-preserved : goal.loop-run-preserved
loop-run-preserved g c = record {
  json = c.print_run.ensures.json ∙ c.loop-run.invariant.json;
  rows = λ leads value p q are small shows.
      let before = c.loop-run in
      let json = c.args.printer.now.json in
      let (mid, rest, has) = before.invariant.rows leads value p q are small shows in
      let (is, behind) = subst (λ (rs : List LayerRun). AreLayerRuns leads mid rs q) c.in-Some.ensures.cases.0 rest in
      let next = mid + c.in-Some.run'.now.run.count in
      let further = runs_further leads next c.in-Some.behind.now q behind in
      let old = g.W.Write.contents c.args.output.now in
      let now = g.W.Write.contents before.output in
      let new = g.W.Write.contents c.print_run.new.output in
      let one : HasRows before.printer.json before.printer.is_first c.print_run.new.printer.is_first value mid next now new
      = c.in_ok-print_run.ensures.rows leads value mid next (is, refl) (omega (arith, small, further)) shows in (
        next,
        behind,
        both_rows json value c.args.printer.now.is_first before.printer.is_first c.print_run.new.printer.is_first p mid next old now new has
            (subst (λ (b : Bool). HasRows b before.printer.is_first c.print_run.new.printer.is_first value mid next now new) before.invariant.json one),
      );
}

pub returns-clause-rows : goal.returns-clause-rows
returns-clause-rows g c = λ leads value p q are small shows.
    let (mid, rest, has) = c.loop-run.invariant.rows leads value p q are small shows in
    let end = runs_end leads mid c.loop-run.rest.now q c.in_default.ensures.cases rest in
    subst (λ (n : ℕ). HasRows c.args.printer.now.json c.args.printer.now.is_first c.loop-run.printer.is_first value p n
    (g.W.Write.contents c.args.output.now) (g.W.Write.contents c.loop-run.output)) end has
