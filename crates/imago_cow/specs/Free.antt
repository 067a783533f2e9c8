-- SPDX-License-Identifier: MIT
use Rattle.std.specs.Prelude.{◌≡◌, ℕ, ◌+◌, ◌-◌, ◌^◌, ◌<◌, ◌≤◌, ◌==◌, sum_by, if◌then◌else◌}
use Rattle.std.specs.BinaryHeap.{heap_items, heap_len, heap_capacity}
use Rattle.imago_cow.specs.declared.free.FreeBlocks.{FreeBlocks}

-- 1 where the two numbers are one, else 0
abbrev pub one_if_same : ℕ → ℕ → ℕ
one_if_same k j = if k == j then 1 else 0

-- how often the number is among the free ones
abbrev pub times_free : ℕ → FreeBlocks → ℕ
times_free j free = sum_by (λ x. one_if_same (x + j) (2 ^ 64 - 1)) (heap_items free.distances)

-- how many free ones there are
abbrev pub free_count : FreeBlocks → ℕ
free_count free = heap_len free.distances

-- how many there is room for
abbrev pub free_room : FreeBlocks → ℕ
free_room free = heap_capacity free.distances

-- None is free.
pub record IsEmpty (free : FreeBlocks) : Type 0 where
  pub count : free_count free ≡ 0
  pub none : (j : ℕ) → times_free j free ≡ 0

-- The number is the lowest of the free ones.
pub record IsLowest (free : FreeBlocks) (j : ℕ) : Type 0 where
  pub among : 1 ≤ times_free j free
  pub none_lower : (k : ℕ) → k < j → times_free k free ≡ 0

-- Without that number these are the others.
pub record IsWithout (j : ℕ) (with others : FreeBlocks) : Type 0 where
  pub counts : (k : ℕ) → times_free k with ≡ one_if_same j k + times_free k others
  pub count : free_count with ≡ free_count others + 1

-- These are the same numbers.
pub record IsSame (old new : FreeBlocks) : Type 0 where
  pub counts : (j : ℕ) → times_free j new ≡ times_free j old
  pub count : free_count new ≡ free_count old
