-- What a verdict says of a file.
-- SPDX-License-Identifier: MIT
use Rattle.std.specs.Prelude.{◌≡◌, ◌<◌, ◌≤◌, ◌⊎◌, ℕ, ◌+◌, ◌*◌, ◌/◌, true, false, List}
use Rattle.imago_qcow2.specs.Numbers.{be64}
use Rattle.imago_qcow2.specs.Entry.{l1_entry, l1_start}
use Rattle.imago_qcow2_check.specs.declared.fault.Verdict.{Verdict}
use Rattle.imago_qcow2_check.specs.declared.fault.Verdict.TheVariants as V
use Rattle.imago_qcow2_check.specs.Clusters.{Setting, cluster_count, passes}
use Rattle.imago_qcow2_check.specs.Entries.{offset_of, names_table, l1_entry_faults}
use Rattle.imago_qcow2_check.specs.Entries.{l2_entry_faults}
use Rattle.imago_qcow2_check.specs.Counts.{blocks_start, blocks_length, blocks_count}
use Rattle.imago_qcow2_check.specs.Counts.{block_entry, count_of}
use Rattle.imago_qcow2_check.specs.Snapshots.{snapshot_count, snapshots_start, snapshot_at}
use Rattle.imago_qcow2_check.specs.Snapshots.{snapshots_length, is_long_table}
use Rattle.imago_qcow2_check.specs.Bitmaps.{bitmaps_extension, bitmaps_faults}
use Rattle.imago_qcow2_check.specs.Uses.{setting, l1_count, snapshot_faults, block_faults, uses_of}
use Rattle.imago_qcow2_check.specs.Faults.{shared_fault, entry_faults}

-- The tables that the header names lie in the file, up to the end of its last cluster: the L1 table,
-- the table of snapshots, and the table of blocks of counts.
pub record HasTablesInside (s : Setting) (bytes : List ℕ) : Type 0 where
  pub l1 : passes s (l1_start bytes) (8 * l1_count bytes) ≡ false
  pub snapshots : passes s (snapshots_start bytes)
      (snapshots_length bytes (snapshots_start bytes) (snapshot_count bytes)) ≡ false
  pub blocks : passes s (blocks_start bytes) (blocks_length bytes) ≡ false

-- Every entry is valid. The tables that the header names lie in the file, and so are valid: the
-- entries of the L1 table, and of each L2 table that it names; those of each snapshot; those of
-- bitmaps that are valid; and those of the table of blocks of counts, whose blocks are used for
-- nothing else. The table of snapshots isn't longer than QEMU reads.
pub record HasValidEntries (bytes : List ℕ) : Type 0 where
  pub tables : HasTablesInside (setting bytes) bytes
  pub l1 : (i : ℕ) → i < l1_count bytes
      → l1_entry_faults (setting bytes) true (l1_entry bytes i) ≡ 0
  pub l2 : (i j : ℕ) → i < l1_count bytes
      → names_table (setting bytes) (l1_entry bytes i) ≡ true → j < (setting bytes).cluster / 8
      → l2_entry_faults (setting bytes) true (be64 bytes (offset_of (l1_entry bytes i) + 8 * j))
      ≡ 0
  pub snapshots : (i : ℕ) → i < snapshot_count bytes
      → snapshot_faults (setting bytes) bytes (snapshot_at bytes (snapshots_start bytes) i) ≡ 0
  pub short : is_long_table
      (snapshots_length bytes (snapshots_start bytes) (snapshot_count bytes)) ≡ false
  pub bitmaps : bitmaps_faults (setting bytes) bytes (bitmaps_extension bytes) ≡ 0
  pub blocks : (i : ℕ) → i < blocks_count bytes
      → block_faults (setting bytes) (block_entry bytes i) ≡ 0
  pub apart : (i : ℕ) → i < blocks_count bytes
      → shared_fault (setting bytes) (uses_of bytes) (block_entry bytes i) ≡ 0

-- Nothing is wrong: every entry is valid, and each cluster of the file is used as often as its
-- reference count says.
pub record IsFaultless (bytes : List ℕ) : Type 0 where
  pub entries : HasValidEntries bytes
  pub counts : (n : ℕ) → n < cluster_count (setting bytes) → uses_of bytes n ≡ count_of bytes n

-- an entry is invalid, or a cluster is used more often than its count says
abbrev pub IsCorrupt : List ℕ → Type 0
IsCorrupt bytes = (0 < entry_faults bytes)
    ⊎ ((n : ℕ) × (n < cluster_count (setting bytes)) × (count_of bytes n < uses_of bytes n))

-- A cluster is used less often than its count says, and nothing else is wrong.
pub record HasLeaksAlone (bytes : List ℕ) : Type 0 where
  pub entries : HasValidEntries bytes
  pub counts : (n : ℕ) → n < cluster_count (setting bytes) → uses_of bytes n ≤ count_of bytes n
  pub leak : (n : ℕ) × (n < cluster_count (setting bytes)) × (uses_of bytes n < count_of bytes n)

-- the exit status of qemu-img check for a verdict
abbrev pub status_of : Verdict → ℕ
status_of V.Faultless = 0
status_of V.Corrupt = 2
status_of V.Leaks = 3

-- what a verdict says
abbrev pub IsVerdict : List ℕ → Verdict → Type 0
IsVerdict bytes V.Faultless = IsFaultless bytes
IsVerdict bytes V.Corrupt = IsCorrupt bytes
IsVerdict bytes V.Leaks = HasLeaksAlone bytes
