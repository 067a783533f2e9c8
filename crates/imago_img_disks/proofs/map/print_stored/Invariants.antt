-- SPDX-License-Identifier: MIT
use Rattle.std.proofs.Common.{◌≡◌, ℕ, ◌+◌, ◌-◌, ◌<◌, ◌≤◌}
use Rattle.std.specs.Prelude.{◌^◌}
use Rattle.imago_drivers.specs.Place.{Value}
use Rattle.imago_img_disks.specs.Rows.{HasRows}
use Rattle.imago_img_disks.proofs.map.print_stored.Given as goal

abbrev pub invariant-loop-done : goal.invariant-loop-done
invariant-loop-done g l =
    let contents = g.W.Write.contents in record {
      within : l.done ≤ l.run.count;
      json : l.printer.json ≡ l.initial.printer.json;
      rows : (value : ℕ → Value) → l.run.at + l.run.count < 2 ^ 64
          → HasRows l.initial.printer.json l.initial.printer.is_first l.printer.is_first value l.run.at (l.run.at + l.done)
          (contents l.initial.output) (contents l.output);
    }

abbrev pub decreases-loop-done : goal.decreases-loop-done
decreases-loop-done g l = l.run.count - l.done
