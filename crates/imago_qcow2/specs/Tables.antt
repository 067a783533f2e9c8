-- What was loaded of an image when it was opened, what that says of its disk, and how it follows
-- from the bytes of the file.
-- SPDX-License-Identifier: MIT
use Rattle.std.specs.Prelude.{◌≡◌, ℕ, ◌*◌, ◌/◌, ◌%◌, List, length, slice_get}
use Rattle.std.specs.Prelude.{Option, Some, None, IfSome, IsTrue, Ok}
use Rattle.std.specs.Int.{div_ceil}
use Rattle.std.specs.declared.sync.ArcSlice.{ArcSlice}
use Rattle.std.specs.Arc.{arc_slice_items}
use Rattle.std.specs.declared.alloc.Global.{Global}
use Rattle.std.specs.BTreeMap.{get}
use Rattle.std.specs.Ordering.{nat_cmp}
use Rattle.imago_storage.specs.Bytes.{IsReadAt}
use Rattle.imago_storage.specs.Features.{Features}
use Rattle.imago_drivers.specs.Place.{Place}
use Rattle.imago_qcow2.specs.declared.header.Header.{Header}
use Rattle.imago_qcow2.specs.declared.header.Compression.{Compression}
use Rattle.imago_qcow2.specs.declared.entry.L2Table.{L2Table}
use Rattle.imago_qcow2.specs.declared.entry.GuestCluster.{GuestCluster}
use Rattle.imago_qcow2.specs.declared.table.HeldTable.{HeldTable}
use Rattle.imago_qcow2.specs.declared.table.Loaded.{Loaded}
use Rattle.imago_qcow2.specs.declared.table.Tables.{Tables}
use Rattle.imago_qcow2.specs.declared.table.HeldTable.TheVariants as H
use Rattle.imago_qcow2.specs.Numbers.{be64}
use Rattle.imago_qcow2.specs.Header.{header_of, IsSound}
use Rattle.imago_qcow2.specs.Entry.{table_in_entry, cluster_in_entry, GuestDisk, disk_place}

-- What was loaded of an image: its version, how compressed clusters are made, the lengths of a
-- cluster and of the disk in bytes, what is held of each L1 entry, and the L2 tables.
pub record LoadedImage : Type 0 where
  pub version : ℕ
  pub compression : Compression
  pub cluster : ℕ
  pub size : ℕ
  pub l1 : List HeldTable
  pub l2 : List (ArcSlice ℕ Global)

-- what was loaded, from a header, the length of a cluster, and the tables in memory
abbrev pub loaded_of : Header → ℕ → Tables → LoadedImage
loaded_of h cluster tables = record {
  version = h.version;
  compression = h.compression;
  cluster = cluster;
  size = h.size;
  l1 = tables.l1.items;
  l2 = tables.l2.items;
}

-- guest cluster k by its L2 table: what its entry there says
abbrev pub entry_cluster : LoadedImage → ℕ → Option (ArcSlice ℕ Global) → GuestCluster
entry_cluster loaded k None = GuestCluster.Invalid
entry_cluster loaded k (Some table) = cluster_in_entry loaded.version loaded.cluster
    (be64 (arc_slice_items table) (8 * (k % (loaded.cluster / 8))))

-- guest cluster k by what is held of its L1 entry: absent without a table, and invalid with an
-- invalid one
abbrev pub held_cluster : LoadedImage → ℕ → Option HeldTable → GuestCluster
held_cluster loaded k None = GuestCluster.Invalid
held_cluster loaded k (Some H.Absent) = GuestCluster.Absent
held_cluster loaded k (Some (H.Loaded number)) = entry_cluster loaded k (slice_get loaded.l2 number)
held_cluster loaded k (Some H.Invalid) = GuestCluster.Invalid

-- what guest cluster k is
unfoldable pub loaded_cluster : LoadedImage → ℕ → GuestCluster
loaded_cluster loaded k = held_cluster loaded k (slice_get loaded.l1 (k / (loaded.cluster / 8)))

-- the disk, by what was loaded
abbrev pub loaded_disk : LoadedImage → GuestDisk
loaded_disk loaded = record {
  size = loaded.size;
  cluster = loaded.cluster;
  compression = loaded.compression;
  clusters = loaded_cluster loaded;
}

-- The place of an offset of the disk, by what was loaded. The bytes of the file give those that
-- stand there, and what the streams there put out.
abbrev pub loaded_place : Features → LoadedImage → List ℕ → ℕ → Place
loaded_place f loaded bytes p = disk_place f.tells_bytes bytes (loaded_disk loaded) p

-- a cluster's length, and how many L2 tables the disk has, as the header says
abbrev pub header_cluster : Header → ℕ
header_cluster h = h.cluster_size

abbrev pub header_tables : Header → ℕ
header_tables h = div_ceil h.size (header_cluster h / 8 * header_cluster h)

-- These were read as the first 112 bytes of the file: they are its bytes, where it tells these.
pub record IsHeadRead (f : Features) (bytes head : List ℕ) : Type 0 where
  pub len : length head ≡ 112
  pub read : IsTrue f.tells_bytes → IsReadAt bytes 0 head

-- The header that was read of the file has no fault, and says this.
pub record IsAccepted (f : Features) (bytes : List ℕ) (h : Header) : Type 0 where
  pub head : List ℕ
  pub is_head : IsHeadRead f bytes head
  pub says : header_of head (length bytes) ≡ Ok h
  pub sound : IsSound head (length bytes) h

-- These were read as so many L1 entries of the file, from the start on: they are its bytes, where
-- it tells these.
pub record AreEntriesRead (f : Features) (bytes : List ℕ) (start count : ℕ) (entries : List ℕ)
    : Type 0 where
  pub len : length entries ≡ 8 * count
  pub read : IsTrue f.tells_bytes → IsReadAt bytes start entries

-- The L2 table at that offset of the file is loaded under that number: as many bytes as its cluster
-- has, which are those of the file, where it tells these.
pub record IsLoaded (f : Features) (bytes : List ℕ) (cluster : ℕ) (l2 : List (ArcSlice ℕ Global))
    (number at : ℕ) : Type 0 where
  pub table : ArcSlice ℕ Global
  pub there : slice_get l2 number ≡ Some table
  pub whole : length (arc_slice_items table) ≡ cluster
  pub read : IsTrue f.tells_bytes → IsReadAt bytes at (arc_slice_items table)

-- what is held in memory of an L1 entry is what it says
abbrev pub IsHeld : Features → List ℕ → ℕ → List (ArcSlice ℕ Global) → L2Table → HeldTable → Type 0
IsHeld f bytes cluster l2 says H.Absent = says ≡ L2Table.Absent
IsHeld f bytes cluster l2 says (H.Loaded number) = (at : ℕ) × (says ≡ L2Table.Stored at)
    × IsLoaded f bytes cluster l2 number at
IsHeld f bytes cluster l2 says H.Invalid = says ≡ L2Table.Invalid

-- what L1 entry i says, of the entries that were read
abbrev pub says_entry : List ℕ → ℕ → List ℕ → ℕ → L2Table
says_entry bytes cluster entries i = table_in_entry (length bytes) cluster (be64 entries (8 * i))

-- the first L1 entries are held, in order
abbrev pub AreHeld : Features → List ℕ → ℕ → List ℕ → List HeldTable → List (ArcSlice ℕ Global) → Type 0
AreHeld f bytes cluster entries l1 l2 = (i : ℕ)
    → IfSome (slice_get l1 i) (IsHeld f bytes cluster l2 (says_entry bytes cluster entries i))

-- The tables in memory are those of the file whose L1 table has so many entries from the start on.
pub record AreTables (f : Features) (bytes : List ℕ) (start count cluster : ℕ) (l1 : List HeldTable)
    (l2 : List (ArcSlice ℕ Global)) : Type 0 where
  pub entries : List ℕ
  pub are_read : AreEntriesRead f bytes start count entries
  pub held : AreHeld f bytes cluster entries l1 l2
  pub all : length l1 ≡ count

-- The header and the tables in memory are those of the file.
abbrev pub IsLoadedImage : Features → List ℕ → Header → Tables → Type 0
IsLoadedImage f bytes h tables = IsAccepted f bytes h
    × AreTables f bytes h.l1_start (header_tables h) (header_cluster h) tables.l1.items
    tables.l2.items

-- L2 tables that are known by their offsets are loaded
abbrev pub AreKnown : Features → List ℕ → ℕ → Loaded → Type 0
AreKnown f bytes cluster l = (at : ℕ) → IfSome (get nat_cmp l.numbers at)
    (λ number. IsLoaded f bytes cluster l.tables.items number at)

-- what was loaded before is so under the same number
abbrev pub KeepsLoaded : List (ArcSlice ℕ Global) → List (ArcSlice ℕ Global) → Type 0
KeepsLoaded old new = (number : ℕ) (table : ArcSlice ℕ Global) → slice_get old number ≡ Some table
    → slice_get new number ≡ Some table
