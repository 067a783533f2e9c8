-- What is counted while a file is looked at.
-- SPDX-License-Identifier: MIT
use Rattle.std.specs.Prelude.{◌≡◌, ◌<◌, ℕ, ◌+◌, List, length, slice_index, nat_eq}
use Rattle.imago_qcow2_check.specs.declared.shape.Shape.{Shape}
use Rattle.imago_qcow2_check.specs.declared.tally.Tally.{Tally}
use Rattle.imago_qcow2_check.specs.Clusters.{Setting}

-- what entries are looked at by, in a file of that shape with these counts
abbrev pub setting_of : Shape → List ℕ → Setting
setting_of shape counts = record {
  file = shape.file;
  cluster = shape.cluster;
  version = shape.version;
  once = λ n. nat_eq (slice_index counts n) 1;
}

-- the counts of uses grew by these
pub record AddsUses (old new : List ℕ) (more : ℕ → ℕ) : Type 0 where
  pub len : length new ≡ length old
  pub each : (n : ℕ) → n < length old → slice_index new n ≡ slice_index old n + more n

-- these uses came to those that were counted, and so many faults
pub record Adds (old new : Tally) (more : ℕ → ℕ) (found : ℕ) : Type 0 where
  pub uses : AddsUses old.uses.items new.uses.items more
  pub faults : new.corruptions ≡ old.corruptions + found
  pub leaks : new.leaks ≡ old.leaks
