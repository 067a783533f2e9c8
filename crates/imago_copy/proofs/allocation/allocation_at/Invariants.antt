-- SPDX-License-Identifier: MIT
use Rattle.std.proofs.Common.{◌-◌, ◌<◌, ◌≤◌}
use Rattle.imago_access.specs.Target.{target}
use Rattle.imago_copy.specs.Allocations.{AreAllocated}
use Rattle.imago_copy.specs.WayOf.{IsWayIn}
use Rattle.imago_copy.proofs.allocation.allocation_at.Given as goal

abbrev pub invariant-loop-count : goal.invariant-loop-count
invariant-loop-count g l = record {
  some : 0 < l.count;
  within : l.count ≤ l.most;
  way : IsWayIn g.D.FormatDriverInstance.view l.image l.way;
  allocated : AreAllocated (target g.D.FormatDriverInstance.view l.image) l.at l.count l.found;
}

abbrev pub decreases-loop-count : goal.decreases-loop-count
decreases-loop-count g l = l.most - l.count
