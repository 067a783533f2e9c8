-- What the reference counts of a file say.
-- SPDX-License-Identifier: MIT
use Rattle.std.specs.Prelude.{ℕ, zero, suc, ◌+◌, ◌-◌, ◌*◌, ◌/◌, ◌%◌, ◌^◌, ◌||◌, not}
use Rattle.std.specs.Prelude.{List, slice_index, nat_lt, nat_eq, if◌then◌else◌}
use Rattle.imago_qcow2.specs.Numbers.{be32, be64}
use Rattle.imago_qcow2.specs.Entry.{version_of, cluster_length}

-- the number of the first k bytes from that offset on, the highest first; one past the end is 0
abbrev pub be_number : List ℕ → ℕ → ℕ → ℕ
be_number bytes at zero = 0
be_number bytes at (suc k) = be_number bytes at k * 256 + slice_index bytes (at + k)

-- how many bits a reference count has, by the base 2 logarithm: in version 2 all have 16
unfoldable pub count_order : List ℕ → ℕ
count_order bytes = if nat_lt (version_of bytes) 3 then 4 else be32 bytes 96

-- Count i of a block that begins there. Counts of less than 8 bits share a byte, from its lowest
-- bit on; others have their highest byte first.
unfoldable pub count_in : ℕ → List ℕ → ℕ → ℕ → ℕ
count_in order bytes start i =
    if nat_lt order 3
    then slice_index bytes (start + i * 2 ^ order / 8) / 2 ^ (i * 2 ^ order % 8) % 2 ^ (2 ^ order)
    else be_number bytes (start + i * 2 ^ (order - 3)) (2 ^ (order - 3))

-- how many counts a block has, which is one cluster
unfoldable pub per_block : ℕ → ℕ → ℕ
per_block order cluster = cluster * 8 / 2 ^ order

-- The table of blocks: where it begins, how long it is, how many entries of 8 bytes it has, and
-- entry i.
abbrev pub blocks_start : List ℕ → ℕ
blocks_start bytes = be64 bytes 48

abbrev pub blocks_length : List ℕ → ℕ
blocks_length bytes = be32 bytes 56 * cluster_length bytes

abbrev pub blocks_count : List ℕ → ℕ
blocks_count bytes = blocks_length bytes / 8

abbrev pub block_entry : List ℕ → ℕ → ℕ
block_entry bytes i = be64 bytes (blocks_start bytes + 8 * i)

-- where the block of an entry begins: bits 0 to 8 are reserved
abbrev pub block_start : ℕ → ℕ
block_start entry = entry - entry % 512

-- a block that isn't there, or doesn't begin where a cluster does, has the counts 0
abbrev pub count_by : ℕ → ℕ → List ℕ → ℕ → ℕ → ℕ
count_by order cluster bytes entry i =
    if nat_eq (block_start entry) 0 || not (nat_eq (block_start entry % cluster) 0) then 0 else
    count_in order bytes (block_start entry) i

-- the reference count of cluster n of the file; 0 past the last block of the table
unfoldable pub count_of : List ℕ → ℕ → ℕ
count_of bytes n =
    if nat_lt (n / per_block (count_order bytes) (cluster_length bytes)) (blocks_count bytes)
    then count_by (count_order bytes) (cluster_length bytes) bytes
    (block_entry bytes (n / per_block (count_order bytes) (cluster_length bytes)))
    (n % per_block (count_order bytes) (cluster_length bytes))
    else 0
