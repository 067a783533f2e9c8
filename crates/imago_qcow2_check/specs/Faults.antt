-- The faults of a file, and the verdict on it.
-- SPDX-License-Identifier: MIT
use Rattle.std.specs.Prelude.{ℕ, ◌+◌, ◌/◌, ◌||◌, not, List, nat_lt, nat_eq}
use Rattle.std.specs.Prelude.{if◌then◌else◌, true}
use Rattle.imago_qcow2.specs.Entry.{l1_start}
use Rattle.imago_qcow2_check.specs.declared.fault.Verdict.{Verdict}
use Rattle.imago_qcow2_check.specs.Sums.{total, one_if}
use Rattle.imago_qcow2_check.specs.Clusters.{Setting, cluster_count, passes}
use Rattle.imago_qcow2_check.specs.Entries.{l1_faults}
use Rattle.imago_qcow2_check.specs.Counts.{blocks_start, blocks_length, blocks_count}
use Rattle.imago_qcow2_check.specs.Counts.{block_entry, count_of}
use Rattle.imago_qcow2_check.specs.Snapshots.{snapshot_count, snapshots_start}
use Rattle.imago_qcow2_check.specs.Bitmaps.{bitmaps_extension, bitmaps_faults}
use Rattle.imago_qcow2_check.specs.Uses.{setting, l1_count, snapshots_faults, blocks_faults}
use Rattle.imago_qcow2_check.specs.Uses.{block_length, uses_of}

-- A block of counts is used for nothing else, and named once.
unfoldable pub shared_fault : Setting → (ℕ → ℕ) → ℕ → ℕ
shared_fault s uses entry =
    if nat_eq (block_length s.cluster entry) 0 || passes s entry s.cluster then 0
    else one_if (not (nat_eq (uses (entry / s.cluster)) 1))

-- a cluster is used more often than its count says, or less often
abbrev pub is_overused : (ℕ → ℕ) → (ℕ → ℕ) → ℕ → ℕ
is_overused counts uses n = one_if (nat_lt (counts n) (uses n))

abbrev pub is_leaked : (ℕ → ℕ) → (ℕ → ℕ) → ℕ → ℕ
is_leaked counts uses n = one_if (nat_lt (uses n) (counts n))

-- How many faults entries have, but for blocks of counts that are shared.
unfoldable pub table_faults_of : List ℕ → ℕ
table_faults_of bytes =
    l1_faults (setting bytes) bytes true (l1_start bytes) (l1_count bytes)
    + snapshots_faults (setting bytes) bytes (snapshots_start bytes) (snapshot_count bytes)
    + blocks_faults (setting bytes) bytes (blocks_start bytes) (blocks_length bytes)
    + bitmaps_faults (setting bytes) bytes (bitmaps_extension bytes)

-- How many faults the entries of a file have.
unfoldable pub entry_faults : List ℕ → ℕ
entry_faults bytes = table_faults_of bytes
    + total (λ i. shared_fault (setting bytes) (uses_of bytes) (block_entry bytes i))
    (blocks_count bytes)

-- How many clusters are used more often than their counts say, and how many less often.
unfoldable pub overused : List ℕ → ℕ
overused bytes =
    total (is_overused (count_of bytes) (uses_of bytes)) (cluster_count (setting bytes))

unfoldable pub leaks_of : List ℕ → ℕ
leaks_of bytes =
    total (is_leaked (count_of bytes) (uses_of bytes)) (cluster_count (setting bytes))

abbrev pub corruptions_of : List ℕ → ℕ
corruptions_of bytes = entry_faults bytes + overused bytes

-- what is said of a file with so many corruptions and leaks
abbrev pub verdict_of : ℕ → ℕ → Verdict
verdict_of corruptions leaks = if nat_eq corruptions 0
    then (if nat_eq leaks 0 then Verdict.Faultless else Verdict.Leaks) else Verdict.Corrupt
