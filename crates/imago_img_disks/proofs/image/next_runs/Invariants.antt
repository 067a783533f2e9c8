-- SPDX-License-Identifier: MIT
use Rattle.std.proofs.Common.{◌≡◌, ◌+◌, ◌-◌, ◌≤◌, length}
use Rattle.imago_access.specs.Chain.{driver}
use Rattle.imago_access.specs.Target.{target}
use Rattle.imago_copy.specs.LayerRuns.{image_of, at_of, AreReady, AreLayerRuns}
use Rattle.imago_img_disks.proofs.image.next_runs.Given as goal

abbrev pub invariant-loop-runs : goal.invariant-loop-runs
invariant-loop-runs g l =
    let view = g.D.FormatDriverInstance.view in record {
      image : image_of l.runs ≡ image_of l.initial.runs;
      ready : AreReady view l.runs;
      runs : AreLayerRuns (target view (image_of l.initial.runs)) (at_of l.initial.runs) l.some.items (at_of l.runs);
      further : at_of l.initial.runs + length l.some.items ≤ at_of l.runs;
    }

abbrev pub decreases-loop-runs : goal.decreases-loop-runs
decreases-loop-runs g l = (g.D.FormatDriverInstance.view (driver (image_of l.initial.runs))).size - at_of l.runs
