-- SPDX-License-Identifier: MIT
use Rattle.std.proofs.Common.{◌≡◌, ◌⊎◌, ◌-◌}
use Rattle.imago_access.specs.Chain.{driver}
use Rattle.imago_access.specs.Zeroing.{operation_of}
use Rattle.imago_access.proofs.ZeroLoops.{IsZeroingOn}
use Rattle.imago_access.specs.ZeroCalls.{behind, IsNextZeroed}
use Rattle.imago_access.proofs.MadeSteps.{GoesOn}
use Rattle.imago_access.proofs.access.FormatAccess.zero_range.Given as goal

abbrev pub invariant-loop-done : goal.invariant-loop-done
invariant-loop-done g l =
    IsZeroingOn g.D.FormatDriverInstance.view l.offset l.count l.fn.self l.self l.done
    × ((g.D.FormatDriverInstance.view (driver l.fn.self)).limits.whole (operation_of l.call) l.offset l.count → ((l.done ≡ 0) × (l.self ≡ l.fn.self)) ⊎ (l.done ≡ l.count))
    × (l.done ≡ 0 → l.self ≡ l.fn.self)
    × GoesOn (behind (IsNextZeroed g.D.FormatDriverInstance.view g.D.FormatDriverInstance.calls l.call) l.offset l.count) l.count l.fn.self l.done l.self

abbrev pub decreases-loop-done : goal.decreases-loop-done
decreases-loop-done g l = l.count - l.done
