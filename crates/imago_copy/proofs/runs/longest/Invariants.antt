-- SPDX-License-Identifier: MIT
use Rattle.std.proofs.Common.{◌≡◌, ◌+◌, ◌-◌, ◌≤◌}
use Rattle.imago_access.specs.Chain.{driver}
use Rattle.imago_access.specs.Target.{target}
use Rattle.imago_copy.specs.Runs.{IsRunAt}
use Rattle.imago_copy.specs.WayOf.{IsWayIn}
use Rattle.imago_copy.proofs.runs.longest.Given as goal

abbrev pub invariant-loop-run : goal.invariant-loop-run
invariant-loop-run g l =
    let view = g.D.FormatDriverInstance.view in
    record {
      size : l.size ≡ (view (driver l.image)).size;
      at : l.run.at ≡ l.fn.first.at;
      kind : l.run.kind ≡ l.fn.first.kind;
      inside : l.run.at + l.run.count ≤ l.size;
      way : IsWayIn view l.image l.way;
      run : IsRunAt (target view l.image) l.run.at l.run;
    }

abbrev pub decreases-loop-run : goal.decreases-loop-run
decreases-loop-run g l = l.size - (l.run.at + l.run.count)
