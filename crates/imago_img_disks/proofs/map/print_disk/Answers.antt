-- SPDX-License-Identifier: MIT
use Rattle.std.proofs.Common.{rules, ◌≡◌, ℕ, ◌+◌, ◌<◌, ◌≤◌, true, Bool, List, length, ◌∙◌, refl, sym, ap, subst, arith}
use Rattle.std.specs.Prelude.{◌^◌}
use Rattle.imago_access.specs.declared.access.FormatAccess.{FormatAccess}
use Rattle.imago_access.specs.Chain.{driver, disk_value}
use Rattle.imago_access.specs.Target.{target}
use Rattle.imago_copy.specs.declared.layers.LayerRun.{LayerRun}
use Rattle.imago_copy.specs.LayerRuns.{at_of, AreLayerRuns}
use Rattle.imago_img_disks.specs.Rows.{HasRows}
use Rattle.imago_img_files.proofs.PrintedSteps.{on_ok}
use Rattle.imago_img_disks.proofs.RowSteps.{all_rows, both_rows, runs_end, zeroes_shown}
use Rattle.imago_img_disks.proofs.map.print_disk.Goals as goal

pub loop-runs-preserved : goal.loop-runs-preserved
loop-runs-preserved g c =
    let view = g.D.FormatDriverInstance.view in
    let image = c.args.image.now in
    let before = c.loop-runs in
    let q = at_of before.runs in
    let (p, pending, has) = before.invariant.rows in
    let some = c.deref.ensures.value in
    let next = c.in_ok-next_runs-in-Ok-print_runs.ensures in
    let old = g.W.Write.contents c.print_heading.new.output in
    let now = g.W.Write.contents before.output in
    let new = g.W.Write.contents c.print_runs.new.output in
    let f = before.printer.is_first in
    let h = c.print_runs.new.printer.is_first in
    let most : q ≤ (view (driver image)).size = subst (λ (x : FormatAccess g.row.D.Denot). q ≤ (view (driver x)).size) before.invariant.image before.invariant.ready.1 in
    let fits : (view (driver image)).size < 2 ^ 64 = search rules in
    let small : q < 2 ^ 64 = omega (arith, most, fits) in
    let one : HasRows before.printer.json f h (disk_value view image) p q now new
    = c.in-Ok-print_runs.ensures.rows (target view image) (disk_value view image) p q
    (subst (λ (rs : List LayerRun). AreLayerRuns (target view image) p rs q) (sym some) pending) small (zeroes_shown view image) in
    record {
      image = next.image ∙ before.invariant.image;
      ready = next.ready;
      json = c.in-Ok-print_runs.ensures.json ∙ before.invariant.json;
      all = subst (λ (x : FormatAccess g.row.D.Denot). length c.next_runs-in-Ok-print_runs.new.some.items < 1024 → (view (driver x)).size ≤ at_of c.next_runs-in-Ok-print_runs.new.runs) before.invariant.image next.all;
      rows = (
        q,
        subst (λ (x : FormatAccess g.row.D.Denot). AreLayerRuns (target view x) q c.next_runs-in-Ok-print_runs.new.some.items (at_of c.next_runs-in-Ok-print_runs.new.runs)) before.invariant.image next.runs,
        both_rows c.args.json (disk_value view image) true f h 0 p q old now new has
            (subst (λ (b : Bool). HasRows b f h (disk_value view image) p q now new) before.invariant.json one),
      );
    }

pub returns : goal.returns
returns g c =
    let view = g.D.FormatDriverInstance.view in
    let image = c.args.image.now in
    let size = (view (driver image)).size in
    let last = c.loop-runs in
    let (p, pending, has) = last.invariant.rows in
    let none : length last.some.items ≡ 0 = search rules in
    let end : p ≡ at_of last.runs = runs_end (target view image) p last.some.items (at_of last.runs) none pending in
    let most : at_of last.runs ≤ size = subst (λ (x : FormatAccess g.row.D.Denot). at_of last.runs ≤ (view (driver x)).size) last.invariant.image last.invariant.ready.1 in
    let least : size ≤ at_of last.runs = last.invariant.all (omega (arith, none)) in
    let whole : p ≡ size = omega (arith, end, most, least) in
    let begun = g.W.Write.contents c.print_heading.new.output in
    let now = g.W.Write.contents last.output in
    on_ok c.print_ending.result (λ ended. all_rows c.args.json (disk_value view image) last.printer.is_first size (g.W.Write.contents c.args.output.now) begun now
    (g.W.Write.contents c.print_ending.new.output) c.in-Ok.ensures
    (subst (λ (n : ℕ). HasRows c.args.json true last.printer.is_first (disk_value view image) 0 n begun now) whole has) ended) c.print_ending.ensures
