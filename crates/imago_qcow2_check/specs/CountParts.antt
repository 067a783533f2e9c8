-- Reference counts as they are read, one block after the other.
-- SPDX-License-Identifier: MIT
use Rattle.std.specs.Prelude.{◌≡◌, ◌<◌, ℕ, ◌+◌, ◌*◌, ◌/◌, ◌%◌, List, length, slice_index, min}
use Rattle.std.specs.Prelude.{nat_lt, if◌then◌else◌}
use Rattle.imago_qcow2.specs.Numbers.{be64}
use Rattle.imago_qcow2_check.specs.Counts.{per_block, count_by}

-- the greatest number that is kept of a count, which stands for each that is greater: 2^32 - 1
abbrev pub most_counted : ℕ
most_counted = 4294967295

-- so many counts were put behind others, each as a number of 32 bits, or the greatest of these
pub record AppendsCounts (count : ℕ → ℕ) (n : ℕ) (old new : List ℕ) : Type 0 where
  pub len : length new ≡ length old + n
  pub kept : (i : ℕ) → i < length old → slice_index new i ≡ slice_index old i
  pub added : (i : ℕ) → i < n → slice_index new (length old + i) ≡ min (count i) most_counted

-- entry i of the table of blocks that was read, or 0 past its end
abbrev pub block_in : List ℕ → ℕ → ℕ
block_in table i = if nat_lt i (length table / 8) then be64 table (8 * i) else 0

-- the count of cluster n, by that table
abbrev pub count_from : ℕ → ℕ → List ℕ → List ℕ → ℕ → ℕ
count_from order cluster bytes table n = count_by order cluster bytes
    (block_in table (n / per_block order cluster)) (n % per_block order cluster)
