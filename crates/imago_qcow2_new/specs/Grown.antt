-- How long a file grows to be once each cluster of its disk is stored.
-- SPDX-License-Identifier: MIT
use Rattle.std.specs.Prelude.{ℕ, ◌+◌, ◌*◌, ◌/◌, ◌^◌, ◌<◌, ◌⊎◌}
use Rattle.std.specs.Int.{div_ceil, next_multiple_of}
use Rattle.imago_qcow2_new.specs.Layout.{per_block, per_table, tables_for}

-- How many clusters such a file has, besides those of its reference counts, of a disk of so many
-- bytes: those of its L2 tables and of the disk, the header's, and those of the L1 table.
abbrev pub clusters_of_all : ℕ → ℕ → ℕ
clusters_of_all size cluster =
    (tables_for cluster size * cluster + next_multiple_of size cluster) / cluster + 1
    + next_multiple_of (8 * tables_for cluster size) cluster / cluster

-- Of so many other clusters the table of the blocks of counts has so many, and these are so many: as
-- few as count all clusters of the file.
abbrev pub table_over : ℕ → ℕ → ℕ
table_over others cluster = div_ceil others (per_table cluster)

abbrev pub blocks_over : ℕ → ℕ → ℕ
blocks_over others cluster = div_ceil (others + table_over others cluster) (per_block cluster)

-- how many clusters there are in all
abbrev pub with_counts : ℕ → ℕ → ℕ
with_counts others cluster = others + table_over others cluster + blocks_over others cluster

-- the table of the blocks of counts is longer than QEMU opens: 8 MiB
abbrev pub HasLongCounts : ℕ → ℕ → Type 0
HasLongCounts others cluster = 8388608 / cluster < table_over others cluster

-- no such file can be made: so is it, or the file has more bytes than an entry's offset can say
abbrev pub IsTooLong : ℕ → ℕ → Type 0
IsTooLong others cluster =
    HasLongCounts others cluster ⊎ (2 ^ 56 < with_counts others cluster * cluster)

-- the length of such a file of a disk that has so many bytes, in whole sectors
abbrev pub grown_length : ℕ → ℕ → ℕ
grown_length size cluster =
    with_counts (clusters_of_all (next_multiple_of size 512) cluster) cluster * cluster
