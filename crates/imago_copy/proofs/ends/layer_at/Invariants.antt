-- SPDX-License-Identifier: MIT
use Rattle.std.proofs.Common.{◌-◌, ◌≤◌}
use Rattle.imago_copy.proofs.EndSteps.{LiesBelow}
use Rattle.imago_copy.proofs.ends.layer_at.Given as goal

abbrev pub invariant-loop-done : goal.invariant-loop-done
invariant-loop-done g l = (l.done ≤ l.depth) × LiesBelow g.D.FormatDriverInstance.view l.image l.done l.layer

abbrev pub decreases-loop-done : goal.decreases-loop-done
decreases-loop-done g l = l.depth - l.done
