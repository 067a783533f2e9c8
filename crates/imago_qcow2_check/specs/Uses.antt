-- How often each cluster of a file is used.
-- SPDX-License-Identifier: MIT
use Rattle.std.specs.Prelude.{ℕ, ◌+◌, ◌*◌, ◌%◌, Bool, ◌&&◌, ◌||◌, not, List, length, nat_lt, nat_eq}
use Rattle.std.specs.Prelude.{if◌then◌else◌, ◌/◌, false}
use Rattle.std.specs.Int.{div_ceil}
use Rattle.imago_qcow2.specs.Numbers.{be32, be64}
use Rattle.imago_qcow2.specs.Entry.{version_of, cluster_length, l1_start}
use Rattle.imago_qcow2_check.specs.Sums.{total, one_if}
use Rattle.imago_qcow2_check.specs.Clusters.{Setting, use_of, past_fault}
use Rattle.imago_qcow2_check.specs.Entries.{l1_uses, l1_faults}
use Rattle.imago_qcow2_check.specs.Counts.{blocks_start, blocks_length, count_of}
use Rattle.imago_qcow2_check.specs.Snapshots.{snapshot_count, snapshots_start, snapshot_at}
use Rattle.imago_qcow2_check.specs.Snapshots.{snapshots_length, snapshot_l1, snapshot_l1_count}
use Rattle.imago_qcow2_check.specs.Snapshots.{is_invalid_l1, has_long_extra, is_long_table}
use Rattle.imago_qcow2_check.specs.Bitmaps.{bitmaps_extension, bitmaps_uses}

-- cluster n is one of the file's, and has the reference count 1
abbrev pub is_once : List ℕ → ℕ → Bool
is_once bytes n =
    nat_lt n (div_ceil (length bytes) (cluster_length bytes)) && nat_eq (count_of bytes n) 1

-- what the entries of a file are looked at by
abbrev pub setting : List ℕ → Setting
setting bytes = record {
  file = length bytes;
  cluster = cluster_length bytes;
  version = version_of bytes;
  once = is_once bytes;
}

-- the L1 entries of the image
abbrev pub l1_count : List ℕ → ℕ
l1_count bytes = be32 bytes 36

-- what the tables of a snapshot, whose entry begins there, use, and their faults
unfoldable pub snapshot_uses : Setting → List ℕ → ℕ → ℕ → ℕ
snapshot_uses s bytes at n = if is_invalid_l1 s.cluster bytes at then 0
    else l1_uses s bytes (snapshot_l1 bytes at) (snapshot_l1_count bytes at) n

unfoldable pub snapshot_tables_faults : Setting → List ℕ → ℕ → ℕ
snapshot_tables_faults s bytes at = if is_invalid_l1 s.cluster bytes at then 1
    else l1_faults s bytes false (snapshot_l1 bytes at) (snapshot_l1_count bytes at)

-- the faults of a snapshot: those, and that its entry has too much extra data
unfoldable pub snapshot_faults : Setting → List ℕ → ℕ → ℕ
snapshot_faults s bytes at =
    one_if (has_long_extra bytes at) + snapshot_tables_faults s bytes at

-- A block of counts that an entry of the table of blocks names: how many bytes it has, none where
-- the entry is invalid or names none.
abbrev pub block_length : ℕ → ℕ → ℕ
block_length cluster entry =
    if nat_eq entry 0 || not (nat_eq (entry % cluster) 0) then 0 else cluster

unfoldable pub block_use : Setting → ℕ → ℕ → ℕ
block_use s entry n = use_of s entry (block_length s.cluster entry) n

unfoldable pub block_faults : Setting → ℕ → ℕ
block_faults s entry = one_if (not (nat_eq (entry % s.cluster) 0))
    + past_fault s entry (block_length s.cluster entry)

-- the parts of a file, in the order in which they are looked at
unfoldable pub header_use : Setting → ℕ → ℕ
header_use s n = use_of s 0 s.cluster n

unfoldable pub snapshots_uses : Setting → List ℕ → ℕ → ℕ → ℕ → ℕ
snapshots_uses s bytes start count n =
    total (λ i. snapshot_uses s bytes (snapshot_at bytes start i) n) count
    + use_of s start (snapshots_length bytes start count) n

unfoldable pub snapshots_faults : Setting → List ℕ → ℕ → ℕ → ℕ
snapshots_faults s bytes start count =
    total (λ i. snapshot_faults s bytes (snapshot_at bytes start i)) count
    + past_fault s start (snapshots_length bytes start count)
    + one_if (is_long_table (snapshots_length bytes start count))

unfoldable pub blocks_uses : Setting → List ℕ → ℕ → ℕ → ℕ → ℕ
blocks_uses s bytes start size n = use_of s start size n
    + total (λ i. block_use s (be64 bytes (start + 8 * i)) n) (size / 8)

unfoldable pub blocks_faults : Setting → List ℕ → ℕ → ℕ → ℕ
blocks_faults s bytes start size = past_fault s start size
    + total (λ i. block_faults s (be64 bytes (start + 8 * i))) (size / 8)

-- How often cluster n of a file is used: by the header; by the L1 table, the L2 tables that it
-- names, and what these name; by the same of each snapshot, and by the table of snapshots; by the
-- table of blocks of counts, and these blocks; and by the directory of bitmaps that are valid, their
-- tables, and what these name.
unfoldable pub uses_of : List ℕ → ℕ → ℕ
uses_of bytes n = header_use (setting bytes) n
    + l1_uses (setting bytes) bytes (l1_start bytes) (l1_count bytes) n
    + snapshots_uses (setting bytes) bytes (snapshots_start bytes) (snapshot_count bytes) n
    + blocks_uses (setting bytes) bytes (blocks_start bytes) (blocks_length bytes) n
    + bitmaps_uses (setting bytes) bytes (bitmaps_extension bytes) n
