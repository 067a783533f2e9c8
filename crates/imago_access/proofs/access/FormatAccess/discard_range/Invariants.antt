-- SPDX-License-Identifier: MIT
use Rattle.std.proofs.Common.{◌≡◌, ◌-◌}
use Rattle.imago_access.specs.Chain.{driver}
use Rattle.imago_access.specs.DiscardParts.{discard_by}
use Rattle.imago_access.proofs.DiscardSteps.{IsDiscardingOn}
use Rattle.imago_access.proofs.PartSteps.{Continues}
use Rattle.imago_access.proofs.access.FormatAccess.discard_range.Given as goal

abbrev pub invariant-loop-done : goal.invariant-loop-done
invariant-loop-done g l = IsDiscardingOn g.D.FormatDriverInstance.view l.call l.offset l.count l.fn.self l.self l.done
    × Continues (discard_by g.D.FormatDriverInstance.calls l.call) l.offset l.count (driver l.fn.self) l.done (driver l.self)
    × (l.done ≡ 0 → l.self ≡ l.fn.self)

abbrev pub decreases-loop-done : goal.decreases-loop-done
decreases-loop-done g l = l.count - l.done
