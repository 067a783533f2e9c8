-- SPDX-License-Identifier: MIT
use Rattle.std.proofs.Common.{◌≡◌, ℕ, ◌<◌, length}
use Rattle.std.specs.Prelude.{◌^◌}
use Rattle.imago_access.specs.Target.{Target}
use Rattle.imago_copy.specs.LayerRuns.{AreLayerRuns}
use Rattle.imago_drivers.specs.Place.{Value}
use Rattle.imago_img_disks.specs.Rows.{HasRows, ShowsZeroes}
use Rattle.imago_img_disks.proofs.map.print_runs.Given as goal

abbrev pub invariant-loop-run : goal.invariant-loop-run
invariant-loop-run g l =
    let contents = g.W.Write.contents in record {
      json : l.printer.json ≡ l.initial.printer.json;
      rows : (leads : ℕ → Target) (value : ℕ → Value) (p q : ℕ) → AreLayerRuns leads p l.runs q → q < 2 ^ 64 → ShowsZeroes leads value
          → (mid : ℕ) × AreLayerRuns leads mid l.rest q
          × HasRows l.initial.printer.json l.initial.printer.is_first l.printer.is_first value p mid
          (contents l.initial.output) (contents l.output);
    }

abbrev pub decreases-loop-run : goal.decreases-loop-run
decreases-loop-run g l = length l.rest
