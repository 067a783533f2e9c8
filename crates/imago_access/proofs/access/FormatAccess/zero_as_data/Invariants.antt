-- SPDX-License-Identifier: MIT
use Rattle.std.proofs.Common.{◌-◌, ◌≡◌, length}
use Rattle.imago_access.proofs.ZeroLoops.{IsZeroingOn}
use Rattle.imago_access.specs.ZeroCalls.{behind, IsZeroPiece, AreNull}
use Rattle.imago_access.proofs.MadeSteps.{GoesOn}
use Rattle.imago_access.proofs.access.FormatAccess.zero_as_data.Given as goal

abbrev pub invariant-loop-done : goal.invariant-loop-done
invariant-loop-done g l =
    IsZeroingOn g.D.FormatDriverInstance.view l.offset l.count l.fn.self l.self l.done
    × GoesOn (behind (IsZeroPiece g.D.FormatDriverInstance.view g.D.FormatDriverInstance.calls) l.offset l.count) l.count l.fn.self l.done l.self
    × AreNull l.zeroes.items
    × (length l.zeroes.items ≡ 0 → l.self ≡ l.fn.self)

abbrev pub decreases-loop-done : goal.decreases-loop-done
decreases-loop-done g l = l.count - l.done
