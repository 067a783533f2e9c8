-- Where everything stands in a new file, and the words of its tables.
-- SPDX-License-Identifier: MIT
use Rattle.std.specs.Prelude.{ℕ, ◌+◌, ◌-◌, ◌*◌, ◌/◌, ◌^◌, if◌then◌else◌, nat_lt, nat_eq}
use Rattle.std.specs.Prelude.{◌≡◌, ◌<◌, ◌≤◌, ◌⊎◌, List, [], true}
use Rattle.std.specs.Int.{div_ceil, next_multiple_of}
use Rattle.imago_drivers.specs.Place.{Value, Byte}
use Rattle.imago_qcow2_new.specs.declared.format.Format.{Format}
use Rattle.imago_qcow2_new.specs.declared.format.Gaps.{Gaps}
use Rattle.imago_qcow2_new.specs.declared.format.Gaps.TheVariants as G
use Rattle.imago_qcow2_new.specs.declared.layout.Layout.{Layout}
use Rattle.imago_qcow2_new.specs.declared.extents.Extents.{Extents}
use Rattle.imago_qcow2_new.specs.Extents.{Spot, spot}
use Rattle.imago_qcow2_new.specs.Space.{stores}
use Rattle.imago_qcow2_new.specs.Words.{byte_of, words_from}
use Rattle.imago_qcow2_new.specs.Header.{header_word}

-- the L2 entry of a cluster that isn't stored
abbrev pub gap_entry : Gaps → ℕ
gap_entry G.Absent = 0
gap_entry G.Zero = 1

-- the file's length, and the disk's size, in bytes
abbrev pub file_length : Layout → ℕ
file_length l = l.end

abbrev pub size_of : Layout → ℕ
size_of l = l.header.size

-- How many L2 tables the size of a disk needs, of which each has the entries of so many bytes. The
-- L1 table has an entry for each, and so none where the disk has no byte.
abbrev pub tables_for : ℕ → ℕ → ℕ
tables_for cluster size = div_ceil size (cluster / 8 * cluster)

-- a cluster of that L2 table is stored
abbrev pub HasCluster : ℕ → Extents → ℕ → Type 0
HasCluster cluster clusters i = (k : ℕ) × (k < cluster / 8)
    × (stores clusters ((i * (cluster / 8) + k) * cluster) ≡ true)

-- The L2 table is needed: a cluster of it is stored, or the entry of one that isn't says that it is
-- zero.
abbrev pub NeedsTable : ℕ → ℕ → Extents → ℕ → Type 0
NeedsTable gap cluster clusters i = (0 < gap) ⊎ HasCluster cluster clusters i

-- Of the first L2 tables, so many of them, exactly those are there that are needed.
pub record AreNeeded (gap cluster : ℕ) (clusters tables : Extents) (count : ℕ) : Type 0 where
  pub there : (i : ℕ) → i < count → stores tables (i * cluster) ≡ true
      → NeedsTable gap cluster clusters i
  pub all : (i : ℕ) → i < count → NeedsTable gap cluster clusters i
      → stores tables (i * cluster) ≡ true

-- How many clusters of a file need a reference count, beside those of the counts themselves: the
-- header's, those of the L1 table, the L2 tables that there are, and the clusters of the disk that
-- are stored.
abbrev pub counted_clusters : Layout → ℕ
counted_clusters l = (l.tables.stored + l.clusters.stored) / l.cluster + 1
    + next_multiple_of (8 * l.header.l1_count) l.cluster / l.cluster

-- How many other clusters a block of counts counts, beside itself; and how many a cluster of the
-- table of blocks does by the blocks that it names, beside these and itself.
abbrev pub per_block : ℕ → ℕ
per_block cluster = cluster / 2 - 1

abbrev pub per_table : ℕ → ℕ
per_table cluster = per_block cluster * (cluster / 8) - 1

-- There are as few blocks of reference counts as count all clusters of a file, and the table of
-- these has as few clusters as name them.
pub record HasFewestCounts (l : Layout) : Type 0 where
  pub table : l.header.counts_clusters ≡ div_ceil (counted_clusters l) (per_table l.cluster)
  pub blocks : l.blocks
      ≡ div_ceil (counted_clusters l + l.header.counts_clusters) (per_block l.cluster)

-- so many blocks of counts count all clusters of a file, and a table of so many clusters names them
abbrev pub CountsAll : Layout → ℕ → ℕ → Type 0
CountsAll l table blocks = (blocks ≤ table * (l.cluster / 8))
    × (counted_clusters l + table + blocks ≤ blocks * (l.cluster / 2))

-- A layout is that of a disk of so many bytes, in whole sectors, and of that format. Each of its
-- tables is as small as it can be.
pub record IsLayoutOf (format : Format) (size : ℕ) (l : Layout) : Type 0 where
  pub disk : l.header.size ≡ next_multiple_of size 512
  pub version : l.header.version ≡ format.version
  pub bits : l.header.cluster_bits ≡ format.cluster_bits
  pub gaps : l.gap ≡ gap_entry format.gaps
  pub l1 : l.header.l1_count ≡ tables_for l.cluster l.header.size
  pub tables : AreNeeded l.gap l.cluster l.clusters l.tables l.header.l1_count
  pub counts : HasFewestCounts l

-- nothing of the disk is stored
abbrev pub StoresNothing : Layout → Type 0
StoresNothing l = l.clusters.extents.items ≡ []

-- all of it is
abbrev pub StoresAll : Layout → Type 0
StoresAll l = (p : ℕ) → p < l.header.size → stores l.clusters p ≡ true

-- the entry of what stands at a spot of a space whose stored bytes begin there: with the bit that
-- says that nothing else refers to it, or that word where it isn't stored
abbrev pub entry_at : ℕ → ℕ → Spot → ℕ
entry_at start gap s = if s.stored then 2 ^ 63 + (start + s.before) else gap

-- the L2 entry of a cluster of the disk
abbrev pub table_word : Layout → ℕ → ℕ
table_word l k =
    entry_at l.data_start l.gap (spot l.clusters.stored l.clusters.extents.items (k * l.cluster))

-- a byte of the space of all L2 tables
abbrev pub entry_value : Layout → ℕ → Value
entry_value l p = Byte (byte_of (table_word l) p)

-- the L1 entry of an L2 table
abbrev pub l1_word : Layout → ℕ → ℕ
l1_word l i =
    entry_at l.tables_start 0 (spot l.tables.stored l.tables.extents.items (i * l.cluster))

-- the word of the table of reference counts: where its block begins
abbrev pub count_word : Layout → ℕ → ℕ
count_word l w = if nat_lt w l.blocks then l.blocks_start + w * l.cluster else 0

-- four reference counts, of which so many are 1
abbrev pub ones : ℕ → ℕ
ones n =
    if nat_eq n 0 then 0 else
    (if nat_eq n 1 then 0x1000000000000 else
    (if nat_eq n 2 then 0x1000100000000 else
    (if nat_eq n 3 then 0x1000100010000 else 0x1000100010001)))

-- the word of the blocks of reference counts: 1 for each cluster of the file
abbrev pub block_word : Layout → ℕ → ℕ
block_word l w = ones (l.end / l.cluster - 4 * w)

-- the word of what stands before the L2 tables
unfoldable pub head_word : Layout → ℕ → ℕ
head_word l w =
    if nat_lt w (l.cluster / 8) then header_word l.header w else
    (if nat_lt w (l.blocks_start / 8) then count_word l (w - l.cluster / 8) else
    (if nat_lt w (l.header.l1_start / 8) then block_word l (w - l.blocks_start / 8)
    else l1_word l (w - l.header.l1_start / 8)))

-- the bytes of it
abbrev pub heads : Layout → List ℕ
heads l = words_from (head_word l) 0 (l.tables_start / 8)
