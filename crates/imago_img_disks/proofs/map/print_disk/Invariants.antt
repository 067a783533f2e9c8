-- SPDX-License-Identifier: MIT
use Rattle.std.proofs.Common.{◌≡◌, ℕ, ◌+◌, ◌-◌, ◌<◌, ◌≤◌, length, true}
use Rattle.imago_access.specs.Chain.{driver, disk_value}
use Rattle.imago_access.specs.Target.{target}
use Rattle.imago_copy.specs.LayerRuns.{image_of, at_of, AreReady, AreLayerRuns}
use Rattle.imago_img_disks.specs.Rows.{HasRows}
use Rattle.imago_img_disks.proofs.map.print_disk.Given as goal

abbrev pub invariant-loop-runs : goal.invariant-loop-runs
invariant-loop-runs g l =
    let contents = g.W.Write.contents in
    let view = g.D.FormatDriverInstance.view in record {
      image : image_of l.runs ≡ l.image;
      ready : AreReady view l.runs;
      json : l.printer.json ≡ l.json;
      all : length l.some.items < 1024 → (view (driver l.image)).size ≤ at_of l.runs;
      rows : (p : ℕ) × AreLayerRuns (target view l.image) p l.some.items (at_of l.runs)
          × HasRows l.json true l.printer.is_first (disk_value view l.image) 0 p (contents l.initial.output) (contents l.output);
    }

abbrev pub decreases-loop-runs : goal.decreases-loop-runs
decreases-loop-runs g l =
    let view = g.D.FormatDriverInstance.view in
    (view (driver l.image)).size - at_of l.runs + length l.some.items
