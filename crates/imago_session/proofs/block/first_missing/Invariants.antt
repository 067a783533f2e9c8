-- SPDX-License-Identifier: MIT
use Rattle.std.proofs.Common.{ℕ, ◌-◌, ◌/◌, ◌<◌, ◌≤◌}
use Rattle.imago_session.specs.Loaded.{IsThere}
use Rattle.imago_session.proofs.block.first_missing.Given as goal

abbrev pub invariant-loop-number : goal.invariant-loop-number
invariant-loop-number l = record {
  order : l.at / l.block ≤ l.number;
  within : l.number ≤ l.last;
  there : (q : ℕ) → l.at / l.block ≤ q → q < l.number → IsThere l.file q;
}

abbrev pub decreases-loop-number : goal.decreases-loop-number
decreases-loop-number l = l.last - l.number
