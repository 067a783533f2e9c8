-- The snapshot table of a file.
-- SPDX-License-Identifier: MIT
use Rattle.std.specs.Prelude.{ℕ, zero, suc, ◌+◌, ◌-◌, ◌%◌, Bool, ◌||◌, not, List, nat_lt, nat_eq}
use Rattle.std.specs.Int.{next_multiple_of}
use Rattle.imago_qcow2.specs.Numbers.{be32, be64}
use Rattle.imago_qcow2_check.specs.Counts.{be_number}

-- how many snapshots there are, and where their table begins
abbrev pub snapshot_count : List ℕ → ℕ
snapshot_count bytes = be32 bytes 60

abbrev pub snapshots_start : List ℕ → ℕ
snapshots_start bytes = be64 bytes 64

-- A snapshot's entry has 40 bytes, and then more of them, its id and its name, whose lengths are
-- among the first ones. This is where the entry ends that begins there.
abbrev pub snapshot_end : List ℕ → ℕ → ℕ
snapshot_end bytes at =
    at + 40 + be32 bytes (at + 36) + be_number bytes (at + 12) 2 + be_number bytes (at + 14) 2

-- Where the first snapshots of a table end, by where the table begins. Each but the first begins on
-- a multiple of 8 bytes behind the one before.
unfoldable pub snapshots_end : List ℕ → ℕ → ℕ → ℕ
snapshots_end bytes start zero = start
snapshots_end bytes start (suc i) =
    snapshot_end bytes (next_multiple_of (snapshots_end bytes start i) 8)

-- where snapshot i begins; the table begins where a cluster does
abbrev pub snapshot_at : List ℕ → ℕ → ℕ → ℕ
snapshot_at bytes start i = next_multiple_of (snapshots_end bytes start i) 8

-- the length of a table of so many snapshots
abbrev pub snapshots_length : List ℕ → ℕ → ℕ → ℕ
snapshots_length bytes start count = snapshots_end bytes start count - start

-- how many bytes a snapshot's entry has beside the first 40, its id and its name: QEMU reads an entry
-- with 1,024 of them at most
abbrev pub snapshot_extra : List ℕ → ℕ → ℕ
snapshot_extra bytes at = be32 bytes (at + 36)

abbrev pub has_long_extra : List ℕ → ℕ → Bool
has_long_extra bytes at = nat_lt 1024 (snapshot_extra bytes at)

-- a table of snapshots has more bytes than QEMU reads: 64 MiB
abbrev pub is_long_table : ℕ → Bool
is_long_table size = nat_lt 67108864 size

-- the L1 table of the snapshot that begins there
abbrev pub snapshot_l1 : List ℕ → ℕ → ℕ
snapshot_l1 bytes at = be64 bytes at

abbrev pub snapshot_l1_count : List ℕ → ℕ → ℕ
snapshot_l1_count bytes at = be32 bytes (at + 8)

-- It is invalid: it doesn't begin where a cluster does, or has more than 32 MiB. Nothing that it
-- names is looked at then.
abbrev pub is_invalid_l1 : ℕ → List ℕ → ℕ → Bool
is_invalid_l1 cluster bytes at = not (nat_eq (snapshot_l1 bytes at % cluster) 0)
    || nat_lt 4194304 (snapshot_l1_count bytes at)
