-- What the comparison of counts and uses adds.
-- SPDX-License-Identifier: MIT
use Rattle.std.specs.Prelude.{◌≡◌, ◌<◌, ℕ, ◌+◌}
use Rattle.imago_qcow2_check.specs.declared.tally.Tally.{Tally}
use Rattle.imago_qcow2_check.specs.Sums.{total}
use Rattle.imago_qcow2_check.specs.CountParts.{most_counted}
use Rattle.imago_qcow2_check.specs.Faults.{is_overused, is_leaked}

-- the first clusters were compared, so many of them
pub record IsCompared (counts uses : ℕ → ℕ) (n : ℕ) (old new : Tally) : Type 0 where
  pub same : new.uses.items ≡ old.uses.items
  pub corruptions : new.corruptions ≡ old.corruptions + total (is_overused counts uses) n
  pub leaks : new.leaks ≡ old.leaks + total (is_leaked counts uses) n
  pub counted : (i : ℕ) → i < n → uses i < most_counted
