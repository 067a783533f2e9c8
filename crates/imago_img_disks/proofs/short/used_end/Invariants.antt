-- SPDX-License-Identifier: MIT
use Rattle.std.proofs.Common.{◌≡◌, ◌-◌}
use Rattle.imago_access.specs.Chain.{driver}
use Rattle.imago_copy.specs.RunsOf.{image_of, at_of, IsReady}
use Rattle.imago_img_disks.proofs.short.used_end.Given as goal

abbrev pub invariant-loop-run : goal.invariant-loop-run
invariant-loop-run g l =
    let view = g.D.FormatDriverInstance.view in record {
      image : image_of l.runs ≡ l.image;
      ready : IsReady view l.runs;
    }

abbrev pub decreases-loop-run : goal.decreases-loop-run
decreases-loop-run g l =
    let view = g.D.FormatDriverInstance.view in
    (view (driver l.image)).size - at_of l.runs
