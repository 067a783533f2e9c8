-- What the bytes of a file say of its disk: the entries of its tables, and each offset's place.
-- SPDX-License-Identifier: MIT
use Rattle.std.specs.Prelude.{ℕ, ◌+◌, ◌-◌, ◌*◌, ◌%◌, ◌/◌, ◌^◌, Bool, true, false, ◌||◌, not}
use Rattle.std.specs.Prelude.{List, length, slice_index, if◌then◌else◌, nat_lt, nat_eq}
use Rattle.std.specs.Int.{w64, trailing_zeros}
use Rattle.imago_storage.specs.declared.error.Error.{Error}
use Rattle.imago_drivers.specs.Place.{Value, Place, Stored, Zeroed, Special, Lower, Refused, End}
use Rattle.imago_qcow2.specs.declared.header.Compression.{Compression}
use Rattle.imago_qcow2.specs.declared.entry.L2Table.{L2Table}
use Rattle.imago_qcow2.specs.declared.entry.L2Table.TheVariants as T
use Rattle.imago_qcow2.specs.declared.entry.GuestCluster.{GuestCluster}
use Rattle.imago_qcow2.specs.declared.entry.GuestCluster.TheVariants as C
use Rattle.imago_qcow2.specs.Numbers.{be32, be64}
use Rattle.imago_qcow2.specs.Header.{compression_of}
use Rattle.imago_qcow2.specs.Compressed.{packed_value}

-- fields of the header, by their offsets in the file
abbrev pub version_of : List ℕ → ℕ
version_of bytes = be32 bytes 4

abbrev pub disk_size : List ℕ → ℕ
disk_size bytes = be64 bytes 24

abbrev pub l1_start : List ℕ → ℕ
l1_start bytes = be64 bytes 40

-- a cluster's length in bytes; an L2 table is one cluster of entries of 8 bytes
abbrev pub cluster_length : List ℕ → ℕ
cluster_length bytes = 2 ^ be32 bytes 20

abbrev pub per_table : List ℕ → ℕ
per_table bytes = cluster_length bytes / 8

-- an entry's lower 56 bits, and its upper 8
abbrev pub low : ℕ → ℕ
low entry = entry % 2 ^ 56

abbrev pub high : ℕ → ℕ
high entry = entry / 2 ^ 56

-- What an L1 entry says of its L2 table, in a file of that length: bits 0 to 8 and 56 to 62 are
-- reserved, bit 63 says nothing here, and the bits between are the table's offset, which lies on a
-- cluster's bounds. The whole table lies in the file.
unfoldable pub table_in_entry : ℕ → ℕ → ℕ → L2Table
table_in_entry file cluster entry =
    if not (nat_eq (high entry % 128) 0)
    || not (nat_eq (low entry % cluster) 0) then L2Table.Invalid else
    (if nat_eq (low entry) 0 then L2Table.Absent else
    (if nat_lt file (low entry + cluster) then L2Table.Invalid else L2Table.Stored (low entry)))

-- how many bits an offset in a cluster has, by the cluster's length in bytes
abbrev pub cluster_bits : ℕ → ℕ
cluster_bits cluster = trailing_zeros w64 cluster

-- how many bits of a compressed cluster's entry are the offset of its stream
abbrev pub offset_bits : ℕ → ℕ
offset_bits bits = 62 - (bits - 8)

-- What an L2 entry says of a compressed cluster, in clusters of so many bits. Its lowest bits are
-- the offset in the file at which the stream begins, on any byte. The next, up to bit 61, are how
-- many sectors of 512 bytes follow the one in which that byte lies. The stream has no more bytes
-- than are left of these sectors, and others may follow it there. Bit 63 says nothing here.
unfoldable pub compressed_in_entry : ℕ → ℕ → GuestCluster
compressed_in_entry bits entry = GuestCluster.Compressed
    (entry % 2 ^ offset_bits bits)
    ((entry % 2 ^ 62 / 2 ^ offset_bits bits + 1) * 512 - entry % 2 ^ offset_bits bits % 512)

-- What an L2 entry says of its guest cluster: bit 62 is set for a compressed one. Else bits 1 to 8
-- and 56 to 61 are reserved, and bit 63 says nothing here; bit 0 says in version 3 that the guest
-- cluster is zero, and is reserved in version 2; the other bits are the offset of the cluster in
-- the file, on a cluster's bounds.
unfoldable pub cluster_in_entry : ℕ → ℕ → ℕ → GuestCluster
cluster_in_entry version cluster entry =
    if nat_eq (high entry / 64 % 2) 1 then compressed_in_entry (cluster_bits cluster) entry else
    (if not (nat_eq (high entry % 64) 0)
    || not (nat_eq ((low entry - low entry % 2) % cluster) 0) then GuestCluster.Invalid else
    (if nat_eq (low entry % 2) 1 then
    (if nat_lt version 3 then GuestCluster.Invalid else GuestCluster.Zero) else
    (if nat_eq (low entry) 0 then GuestCluster.Absent else GuestCluster.Stored (low entry))))

-- L1 entry i, and the L2 table that it says
abbrev pub l1_entry : List ℕ → ℕ → ℕ
l1_entry bytes i = be64 bytes (l1_start bytes + 8 * i)

abbrev pub table_of : List ℕ → ℕ → L2Table
table_of bytes i = table_in_entry (length bytes) (cluster_length bytes) (l1_entry bytes i)

-- guest cluster k by its L2 table: what its entry there says; absent without a table, and invalid
-- with an invalid one
abbrev pub cluster_by : List ℕ → ℕ → L2Table → GuestCluster
cluster_by bytes k T.Absent = GuestCluster.Absent
cluster_by bytes k (T.Stored table) =
    cluster_in_entry (version_of bytes) (cluster_length bytes)
    (be64 bytes (table + 8 * (k % per_table bytes)))
cluster_by bytes k T.Invalid = GuestCluster.Invalid

-- what guest cluster k is
unfoldable pub cluster_of : List ℕ → ℕ → GuestCluster
cluster_of bytes k = cluster_by bytes k (table_of bytes (k / per_table bytes))

-- A disk: its size and the length of a guest cluster in bytes, how compressed ones are made, and
-- what each guest cluster is.
pub record GuestDisk : Type 0 where
  pub size : ℕ
  pub cluster : ℕ
  pub compression : Compression
  pub clusters : ℕ → GuestCluster

-- A place by what its guest cluster is, at that offset in it. A byte of a compressed one is made
-- up, at the disk's own offset, and so given by where its stream stands.
abbrev pub place_by : (ℕ → ℕ → ℕ → Value) → List ℕ → ℕ → ℕ → GuestCluster → Place
place_by packed bytes rest p C.Absent = Lower p false
place_by packed bytes rest p C.Zero = Zeroed true
place_by packed bytes rest p (C.Stored start) =
    Stored (slice_index bytes (start + rest)) 0 (start + rest) false
place_by packed bytes rest p (C.Compressed at n) = Special (packed at n rest) p
place_by packed bytes rest p C.Invalid = Refused Error.InvalidData

-- the place of an offset of a disk whose file has these bytes, and tells them or not
unfoldable pub disk_place : Bool → List ℕ → GuestDisk → ℕ → Place
disk_place tells bytes disk p =
    if nat_lt p disk.size
    then place_by (packed_value tells disk.compression bytes disk.cluster) bytes
    (p % disk.cluster) p (disk.clusters (p / disk.cluster))
    else End

-- the disk by the bytes of the file alone
abbrev pub disk_of : List ℕ → GuestDisk
disk_of bytes = record {
  size = disk_size bytes;
  cluster = cluster_length bytes;
  compression = compression_of bytes;
  clusters = cluster_of bytes;
}

-- the place of an offset of the disk, by the same
abbrev pub qcow2_place : List ℕ → ℕ → Place
qcow2_place bytes p = disk_place true bytes (disk_of bytes) p
