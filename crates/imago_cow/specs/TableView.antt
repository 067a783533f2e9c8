-- SPDX-License-Identifier: MIT
use Rattle.std.specs.Prelude.{◌≡◌, ℕ, ◌+◌, ◌*◌, ◌^◌, ◌<◌, ◌≤◌, max, List, Option, None}
use Rattle.imago_cow.specs.declared.free.FreeBlocks.{FreeBlocks}
use Rattle.imago_cow.specs.declared.table.GuestBlock.{GuestBlock}
use Rattle.imago_cow.specs.declared.table.Table.{Table}
use Rattle.imago_cow.specs.Entries.{listed, listed_room}
use Rattle.imago_cow.specs.Table.{named_count}
use Rattle.imago_cow.specs.Guest.{IsExact}

-- one entry for each guest block
abbrev pub entries_of : Table → List GuestBlock
entries_of t = listed t.entries

-- the data block that is held, if one is
abbrev pub held_of : Table → Option ℕ
held_of t = t.held

-- how many data blocks there are, free ones too
abbrev pub count_of : Table → ℕ
count_of t = t.count

-- the data blocks that are free
abbrev pub free_of : Table → FreeBlocks
free_of t = t.free

-- how many entries there is room for
abbrev pub room_of : Table → ℕ
room_of t = listed_room t.entries

-- the room for entries is never lessened
abbrev pub KeepsRoom : Table → Table → Type 0
KeepsRoom old new = room_of old ≤ room_of new

-- entries, held block and count are what they were
abbrev pub IsUnchanged : Table → Table → Type 0
IsUnchanged old new = (entries_of new ≡ entries_of old) × (held_of new ≡ held_of old)
    × (count_of new ≡ count_of old) × KeepsRoom old new

-- The table may take a data block of that length: none is held, and those that there are end by the
-- greatest offset.
pub record IsReady (block : ℕ) (table : Table) : Type 0 where
  pub positive : 0 < block
  pub spent : held_of table ≡ None
  pub addressed : count_of table * block < 2 ^ 64

-- The table is that of a disk of that size, on which nothing waits.
pub record IsIdle (size block : ℕ) (table : Table) : Type 0 where
  pub ready : IsReady block table
  pub exact : IsExact size block (entries_of table)

-- One data block was added at most, and none where one was free. The room for entries isn't less.
pub record TakesOne (old new : Table) : Type 0 where
  pub added : count_of new ≤ max (count_of old) (named_count (entries_of old) + 1)
  pub room : KeepsRoom old new

-- Guest blocks are what they were. One data block was added at most, and none where one was free,
-- and all end by the greatest offset.
pub record HasTaken (block : ℕ) (old new : Table) : Type 0 where
  pub entries : entries_of new ≡ entries_of old
  pub added : count_of new ≤ max (count_of old) (named_count (entries_of old) + 1)
  pub addressed : count_of new * block < 2 ^ 64
