-- SPDX-License-Identifier: MIT
use Rattle.std.proofs.Common.{◌-◌, ◌≤◌}
use Rattle.imago_access.specs.Zeroing.{IsZeroedByDriver}
use Rattle.imago_access.specs.declared.zero.ZeroCall.TheVariants as Call
use Rattle.imago_access.specs.ZeroCalls.{zero_by}
use Rattle.imago_access.proofs.ZeroCallSteps.{GranulesGoOn}
use Rattle.imago_access.proofs.access.FormatAccess.zero_granules.Given as goal

abbrev pub invariant-loop-done : goal.invariant-loop-done
invariant-loop-done g l =
    (l.start ≤ l.done) × IsZeroedByDriver g.D.FormatDriverInstance.view l.start (l.end - l.start) l.fn.self l.self
    × GranulesGoOn (zero_by g.D.FormatDriverInstance.calls Call.EnsureZero) l.start l.end l.fn.self l.done l.self

abbrev pub decreases-loop-done : goal.decreases-loop-done
decreases-loop-done g l = l.end - l.done
