-- What the entries of L1 and L2 tables use, and their faults.
-- SPDX-License-Identifier: MIT
use Rattle.std.specs.Prelude.{ℕ, ◌+◌, ◌-◌, ◌*◌, ◌/◌, ◌%◌, ◌^◌, Bool, ◌||◌, ◌&&◌, not, nat_lt}
use Rattle.std.specs.Prelude.{nat_eq, List, if◌then◌else◌, true, false}
use Rattle.imago_qcow2.specs.declared.entry.L2Table.{L2Table}
use Rattle.imago_qcow2.specs.declared.entry.L2Table.TheVariants as T
use Rattle.imago_qcow2.specs.declared.entry.GuestCluster.{GuestCluster}
use Rattle.imago_qcow2.specs.declared.entry.GuestCluster.TheVariants as C
use Rattle.imago_qcow2.specs.Numbers.{be64}
use Rattle.imago_qcow2.specs.Entry.{low, table_in_entry, cluster_in_entry}
use Rattle.imago_qcow2_check.specs.Sums.{total, one_if}
use Rattle.imago_qcow2_check.specs.Clusters.{Setting, use_of, past_fault}

-- the offset in an entry: bits 9 to 55
abbrev pub offset_of : ℕ → ℕ
offset_of entry = low entry - low entry % 512

-- bit 63 of an entry: what it names has the reference count 1
abbrev pub is_copied : ℕ → Bool
is_copied entry = not (nat_lt entry (2 ^ 63))

-- how many bytes stand at an offset that is 0 where there is nothing
abbrev pub length_at : ℕ → ℕ → ℕ
length_at cluster offset = if nat_eq offset 0 then 0 else cluster

-- Where the data of a guest cluster stand in the file, by its entry and by what that says. An
-- explicit zero may have data, which aren't shown; and an entry that is invalid has an offset.
abbrev pub data_start : GuestCluster → ℕ → ℕ
data_start C.Absent entry = offset_of entry
data_start C.Zero entry = offset_of entry
data_start (C.Stored start) entry = offset_of entry
data_start (C.Compressed at count) entry = at
data_start C.Invalid entry = offset_of entry

-- and how many bytes of the file they have
abbrev pub data_length : ℕ → GuestCluster → ℕ → ℕ
data_length cluster C.Absent entry = length_at cluster (offset_of entry)
data_length cluster C.Zero entry = length_at cluster (offset_of entry)
data_length cluster (C.Stored start) entry = length_at cluster (offset_of entry)
data_length cluster (C.Compressed at count) entry = count
data_length cluster C.Invalid entry = length_at cluster (offset_of entry)

-- an entry that is invalid
abbrev pub invalid_cluster : GuestCluster → Bool
invalid_cluster C.Absent = false
invalid_cluster C.Zero = false
invalid_cluster (C.Stored start) = false
invalid_cluster (C.Compressed at count) = false
invalid_cluster C.Invalid = true

abbrev pub invalid_table : L2Table → Bool
invalid_table T.Absent = false
invalid_table (T.Stored start) = false
invalid_table T.Invalid = true

-- Whether bit 63 of an entry disagrees with the reference count of what it names: it is set exactly
-- where that is 1. It says nothing in a snapshot's tables.
unfoldable pub copied_fault : Setting → Bool → ℕ → ℕ → ℕ
copied_fault s active offset entry =
    if not active || nat_eq offset 0 then 0 else
    (if s.once (offset / s.cluster) then one_if (not (is_copied entry))
    else one_if (is_copied entry))

-- the same by what an L2 entry says: for a compressed cluster it is never set
abbrev pub cluster_copied_fault : Setting → Bool → ℕ → GuestCluster → ℕ
cluster_copied_fault s active entry C.Absent = copied_fault s active (offset_of entry) entry
cluster_copied_fault s active entry C.Zero = copied_fault s active (offset_of entry) entry
cluster_copied_fault s active entry (C.Stored start) =
    copied_fault s active (offset_of entry) entry
cluster_copied_fault s active entry (C.Compressed at count) = one_if (is_copied entry)
cluster_copied_fault s active entry C.Invalid = copied_fault s active (offset_of entry) entry

-- what an L2 entry uses, and how many faults it has, by what it says
abbrev pub cluster_use : Setting → ℕ → GuestCluster → ℕ → ℕ
cluster_use s entry says n = use_of s (data_start says entry) (data_length s.cluster says entry) n

abbrev pub cluster_faults : Setting → Bool → ℕ → GuestCluster → ℕ
cluster_faults s active entry says =
    past_fault s (data_start says entry) (data_length s.cluster says entry)
    + one_if (invalid_cluster says) + cluster_copied_fault s active entry says

unfoldable pub l2_entry_use : Setting → ℕ → ℕ → ℕ
l2_entry_use s entry n = cluster_use s entry (cluster_in_entry s.version s.cluster entry) n

unfoldable pub l2_entry_faults : Setting → Bool → ℕ → ℕ
l2_entry_faults s active entry =
    cluster_faults s active entry (cluster_in_entry s.version s.cluster entry)

-- the same of the L2 table that begins there
unfoldable pub l2_uses : Setting → List ℕ → ℕ → ℕ → ℕ
l2_uses s bytes start n = total (λ j. l2_entry_use s (be64 bytes (start + 8 * j)) n) (s.cluster / 8)

unfoldable pub l2_faults : Setting → List ℕ → Bool → ℕ → ℕ
l2_faults s bytes active start =
    total (λ j. l2_entry_faults s active (be64 bytes (start + 8 * j))) (s.cluster / 8)

-- An L1 entry names an L2 table by its offset, and the whole of it lies in the file. The table's
-- entries are looked at then, even if other bits of the L1 entry are invalid.
abbrev pub names_table : Setting → ℕ → Bool
names_table s entry =
    not (nat_eq (offset_of entry) 0) && not (nat_lt s.file (offset_of entry + s.cluster))

-- what an L1 entry alone uses, and how many faults it has
abbrev pub l1_entry_use : Setting → ℕ → ℕ → ℕ
l1_entry_use s entry n = use_of s (offset_of entry) (length_at s.cluster (offset_of entry)) n

abbrev pub l1_entry_faults : Setting → Bool → ℕ → ℕ
l1_entry_faults s active entry = one_if (invalid_table (table_in_entry s.file s.cluster entry))
    + copied_fault s active (offset_of entry) entry

-- the L2 table that it names, which is counted as often as it is named
abbrev pub named_use : Setting → List ℕ → ℕ → ℕ → ℕ
named_use s bytes entry n =
    if names_table s entry then l2_uses s bytes (offset_of entry) n else 0

abbrev pub named_faults : Setting → List ℕ → Bool → ℕ → ℕ
named_faults s bytes active entry =
    if names_table s entry then l2_faults s bytes active (offset_of entry) else 0

-- both
unfoldable pub table_use : Setting → List ℕ → ℕ → ℕ → ℕ
table_use s bytes entry n = l1_entry_use s entry n + named_use s bytes entry n

unfoldable pub table_faults : Setting → List ℕ → Bool → ℕ → ℕ
table_faults s bytes active entry =
    l1_entry_faults s active entry + named_faults s bytes active entry

-- The same of an L1 table of so many entries, the image's own, which is active, or a snapshot's.
-- Its own bytes are used too.
unfoldable pub l1_uses : Setting → List ℕ → ℕ → ℕ → ℕ → ℕ
l1_uses s bytes start count n = use_of s start (8 * count) n
    + total (λ i. table_use s bytes (be64 bytes (start + 8 * i)) n) count

unfoldable pub l1_faults : Setting → List ℕ → Bool → ℕ → ℕ → ℕ
l1_faults s bytes active start count = past_fault s start (8 * count)
    + total (λ i. table_faults s bytes active (be64 bytes (start + 8 * i))) count
