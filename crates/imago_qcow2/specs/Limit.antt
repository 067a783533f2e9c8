-- How many bytes the tables of an image have, and what a limit on them leaves.
-- SPDX-License-Identifier: MIT
use Rattle.std.specs.Prelude.{◌≡◌, ◌≤◌, ◌<◌, ◌⊎◌, ◌||◌, ℕ, zero, suc, ◌+◌, ◌-◌, ◌*◌, Bool, false}
use Rattle.std.specs.Prelude.{List, [], ◌∷◌, length, Option, Some, None, is_some, nat_eq}
use Rattle.std.specs.Prelude.{if◌then◌else◌}
use Rattle.std.specs.BTreeMap.{get}
use Rattle.std.specs.Ordering.{nat_cmp}
use Rattle.imago_storage.specs.Features.{Features}
use Rattle.imago_qcow2.specs.declared.header.Header.{Header}
use Rattle.imago_qcow2.specs.declared.entry.L2Table.{L2Table}
use Rattle.imago_qcow2.specs.declared.entry.L2Table.TheVariants as T
use Rattle.imago_qcow2.specs.declared.table.Loaded.{Loaded}
use Rattle.imago_qcow2.specs.Tables.{LoadedImage, says_entry, header_cluster, header_tables}
use Rattle.imago_qcow2.specs.Tables.{AreEntriesRead, IsAccepted}
use Rattle.imago_qcow2.specs.Entry.{cluster_length, table_of}
use Rattle.imago_qcow2.specs.Numbers.{be32}
use Rattle.imago_qcow2.specs.Opening.{table_count}

-- so many bytes are more than a limit, where there is one
abbrev pub IsBeyond : Option ℕ → ℕ → Type 0
IsBeyond None n = ⊥
IsBeyond (Some most) n = most < n

-- so many bytes are no more than a limit, where there is one
abbrev pub IsWithin : Option ℕ → ℕ → Type 0
IsWithin None n = Unit {0}
IsWithin (Some most) n = n ≤ most

-- what a limit leaves behind so many bytes
abbrev pub HasRoom : Option ℕ → ℕ → Option ℕ → Type 0
HasRoom None taken room = room ≡ None
HasRoom (Some most) taken room = (taken ≤ most) × (room ≡ Some (most - taken))

-- whether an offset is one of these
abbrev pub has_offset : ℕ → List ℕ → Bool
has_offset at [] = false
has_offset at (offset ∷ offsets) = nat_eq offset at || has_offset at offsets

-- the offsets of L2 tables, and that of one more, which is counted once
abbrev pub with_offset : ℕ → List ℕ → List ℕ
with_offset at offsets = if has_offset at offsets then offsets else at ∷ offsets

-- the same with the one that an L1 entry names, if it names one
abbrev pub with_table : L2Table → List ℕ → List ℕ
with_table T.Absent offsets = offsets
with_table (T.Stored at) offsets = with_offset at offsets
with_table T.Invalid offsets = offsets

-- the offsets of the L2 tables that the first L1 entries name, each once
unfoldable pub table_offsets : List ℕ → ℕ → List ℕ → ℕ → List ℕ
table_offsets bytes cluster entries zero = []
table_offsets bytes cluster entries (suc n) =
    with_table (says_entry bytes cluster entries n) (table_offsets bytes cluster entries n)

-- How many bytes the tables of an image have: 8 for each L1 entry, and a cluster for each L2 table
-- that the entries name, counted once.
abbrev pub tables_length : List ℕ → ℕ → List ℕ → ℕ → ℕ
tables_length bytes cluster entries count =
    8 * count + cluster * length (table_offsets bytes cluster entries count)

-- the tables of the file that were read, from the start on, have no more bytes than the limit
abbrev pub AreReadWithin : Features → List ℕ → ℕ → ℕ → ℕ → Option ℕ → Type 0
AreReadWithin f bytes start count cluster most = (entries : List ℕ)
    × AreEntriesRead f bytes start count entries
    × IsWithin most (tables_length bytes cluster entries count)

-- the offsets of the L2 tables that the first L1 entries of an image's file name, each once
unfoldable pub file_offsets : List ℕ → ℕ → List ℕ
file_offsets bytes zero = []
file_offsets bytes (suc n) = with_table (table_of bytes n) (file_offsets bytes n)

-- How many bytes the tables have that the disk of an image needs, by the bytes of its file: 8 for
-- each L1 entry, and a cluster for each L2 table that the entries name, counted once.
unfoldable pub file_tables : List ℕ → ℕ
file_tables bytes = 8 * table_count bytes
    + cluster_length bytes * length (file_offsets bytes (table_count bytes))

-- how many bytes the L1 table of a file has, by its header
abbrev pub l1_length : List ℕ → ℕ
l1_length bytes = 8 * be32 bytes 36

-- the tables of an image's file have no more bytes than the limit, where there is one
abbrev pub HasTablesWithin : Option ℕ → List ℕ → Type 0
HasTablesWithin most bytes = IsWithin most (file_tables bytes)

-- how many bytes the tables have that were loaded of an image
abbrev pub loaded_length : LoadedImage → ℕ
loaded_length loaded = 8 * length loaded.l1 + loaded.cluster * length loaded.l2

-- The tables of an image have more bytes than the limit: so many L1 entries alone have, or, with
-- the L2 tables, those that were read of the file from the start on.
abbrev pub NeedMore : Features → List ℕ → ℕ → ℕ → ℕ → Option ℕ → Type 0
NeedMore f bytes start count cluster most = IsBeyond most (8 * count)
    ⊎ ((entries : List ℕ) × AreEntriesRead f bytes start count entries
    × IsBeyond most (tables_length bytes cluster entries count))

-- the same of the tables that the header of an image names
abbrev pub TablesNeedMore : Features → List ℕ → Option ℕ → Type 0
TablesNeedMore f bytes most = (h : Header) × IsAccepted f bytes h
    × NeedMore f bytes h.l1_start (header_tables h) (header_cluster h) most

-- The L2 tables that are loaded are those at these offsets, each once, and what the limit leaves
-- behind them is kept.
pub record IsAccount (offsets : List ℕ) (limit : Option ℕ) (cluster : ℕ) (l : Loaded) : Type 0 where
  pub count : length l.tables.items ≡ length offsets
  pub known : (at : ℕ) → is_some (get nat_cmp l.numbers at) ≡ has_offset at offsets
  pub room : HasRoom limit (cluster * length offsets) l.room
