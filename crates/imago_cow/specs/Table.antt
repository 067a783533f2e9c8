-- SPDX-License-Identifier: MIT
use Rattle.std.specs.Prelude.{◌≡◌, ℕ, ◌+◌, ◌*◌, ◌%◌, ◌<◌, ◌≤◌, List, sum_by, Option, Some, None}
use Rattle.std.specs.Prelude.{nat_lt, if◌then◌else◌, Bool, true, false}
use Rattle.imago_cow.specs.declared.free.FreeBlocks.{FreeBlocks}
use Rattle.imago_cow.specs.declared.table.GuestBlock.{GuestBlock}
use Rattle.imago_cow.specs.declared.table.GuestBlock.TheVariants as G
use Rattle.imago_cow.specs.declared.table.WithoutData.{WithoutData}
use Rattle.imago_cow.specs.declared.table.WithoutData.TheVariants as W
use Rattle.imago_cow.specs.Free.{one_if_same, times_free}

-- 1 where the guest block is in data block j, else 0
abbrev pub names : ℕ → GuestBlock → ℕ
names j G.Absent = 0
names j G.Zero = 0
names j (G.Data k) = one_if_same k j

-- 1 where the guest block is in a data block, else 0
abbrev pub names_any : GuestBlock → ℕ
names_any G.Absent = 0
names_any G.Zero = 0
names_any (G.Data k) = 1

-- how many entries name data block j
abbrev pub times_named : ℕ → List GuestBlock → ℕ
times_named j entries = sum_by (names j) entries

-- how many entries name a data block
abbrev pub named_count : List GuestBlock → ℕ
named_count entries = sum_by names_any entries

-- 1 where data block j is held, else 0
abbrev pub times_held : ℕ → Option ℕ → ℕ
times_held j None = 0
times_held j (Some k) = one_if_same k j

-- 1 where a data block is held, else 0
abbrev pub held_count : Option ℕ → ℕ
held_count None = 0
held_count (Some k) = 1

-- how often data block j is named or held
abbrev pub times_used : ℕ → List GuestBlock → Option ℕ → ℕ
times_used j entries held = times_named j entries + times_held j held

-- 1 below the count, else 0
abbrev pub one_below : ℕ → ℕ → ℕ
one_below j count = if nat_lt j count then 1 else 0

-- Each data block below the count is exactly one of these: free, named by one entry, held. No other
-- number is any of them.
abbrev pub IsEachOnce : FreeBlocks → List GuestBlock → Option ℕ → ℕ → Type 0
IsEachOnce free entries held count = (j : ℕ) → times_free j free + times_used j entries held
    ≡ one_below j count

-- The lowest number that is neither named nor held: that of a free data block, or else the count.
pub record IsLowestUnused (entries : List GuestBlock) (held : Option ℕ) (count next : ℕ) : Type 0
  where
    pub within : next ≤ count
    pub unused : times_used next entries held ≡ 0
    pub lowest : (j : ℕ) → j < next → times_used j entries held ≡ 1

-- An offset of the disk stands there in the lowest data block that no guest block is in: as far
-- from its beginning as the offset is from that of its guest block.
pub record StandsInLowest (entries : List GuestBlock) (count block offset at : ℕ) : Type 0 where
  pub number : ℕ
  pub lowest : IsLowestUnused entries None count number
  pub stands : at ≡ number * block + offset % block

-- the entry of a guest block without data
abbrev pub without_data : WithoutData → GuestBlock
without_data W.Absent = GuestBlock.Absent
without_data W.Zero = GuestBlock.Zero

-- a guest block of that kind leads to the layer below
abbrev pub is_absent : WithoutData → Bool
is_absent W.Absent = true
is_absent W.Zero = false
