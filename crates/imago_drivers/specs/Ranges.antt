-- SPDX-License-Identifier: MIT
use Rattle.std.specs.Prelude.{◌≡◌, ℕ, ◌+◌, ◌-◌, ◌<◌, ◌≤◌, ◌⊎◌, Bool, true, List, slice_index}
use Rattle.imago_storage.specs.Features.{IsAlignedTo}
use Rattle.imago_storage.specs.Padding.{aligned_start, aligned_end}

-- A part of the range wraps around.
pub record HasWrappingPart (range_wraps : ℕ → ℕ → Type 0) (o n : ℕ) : Type 0 where
  pub from : ℕ
  pub count : ℕ
  pub above : o ≤ from
  pub below : from + count ≤ o + n
  pub wraps : range_wraps from count

-- The part is the one of the range that is aligned, or nothing.
pub record IsPartAlignedTo (align o n part_start part_length : ℕ) : Type 0 where
  pub len : part_length ≡ aligned_end align o n - aligned_start align o
  pub start : 0 < part_length → part_start ≡ aligned_start align o

-- The answered part is the one of the range that is aligned, or nothing. It lies in the range, and
-- is the whole of one that is aligned itself.
pub record IsAnsweredPart (align o n part_start part_length : ℕ) : Type 0 where
  pub part : IsPartAlignedTo align o n part_start part_length
  pub inside : (part_length ≡ 0) ⊎ ((o ≤ part_start) × (part_start + part_length ≤ o + n))
  pub whole : IsAlignedTo align o n → (part_start ≡ o) × (part_length ≡ n)

-- The n bytes from the offset on are those, or, where the change was torn, each maybe its old one;
-- all others are as they were.
pub record HasBytes (torn : Bool) (at n : ℕ) (byte : ℕ → ℕ) (old now : List ℕ) : Type 0 where
  pub inside : (k : ℕ) → k < n → (slice_index now (at + k) ≡ byte k)
      ⊎ ((torn ≡ true) × (slice_index now (at + k) ≡ slice_index old (at + k)))
  pub before : (p : ℕ) → p < at → slice_index now p ≡ slice_index old p
  pub behind : (p : ℕ) → at + n ≤ p → slice_index now p ≡ slice_index old p
