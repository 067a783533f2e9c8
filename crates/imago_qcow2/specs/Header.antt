-- What the header of a file says, and its faults.
-- SPDX-License-Identifier: MIT
use Rattle.std.specs.Prelude.{◌≡◌, ◌<◌, ◌≤◌, ℕ, ◌+◌, ◌-◌, ◌*◌, ◌%◌, ◌/◌, ◌^◌, ◌||◌, not}
use Rattle.std.specs.Prelude.{Bool, List, slice_index, if◌then◌else◌, nat_lt, nat_eq, Result, Ok}
use Rattle.std.specs.Prelude.{Err}
use Rattle.imago_storage.specs.declared.error.Error.{Error}
use Rattle.imago_qcow2.specs.declared.header.Header.{Header}
use Rattle.imago_qcow2.specs.declared.header.Compression.{Compression}
use Rattle.imago_qcow2.specs.Numbers.{be32, be64}

-- the next test, where this one found no fault
abbrev pub and_then : {A : Type 0} → Result (Unit {0}) Error → Result A Error → Result A Error
and_then (Ok x) next = next
and_then (Err e) next = Err e

-- what a file begins with: 'QFI' and 251
abbrev pub magic : ℕ
magic = 0x514649fb

-- no image of the format: the file is shorter than the shortest header, or doesn't begin with 'QFI'
-- and 251
unfoldable pub magic_fault : List ℕ → ℕ → Result (Unit {0}) Error
magic_fault head file = if nat_lt file 72
    || not (nat_eq (be32 head 0) magic) then Err Error.InvalidData else Ok tt

-- the features in the word at that offset; version 2 has none
unfoldable pub features_at : List ℕ → ℕ → ℕ
features_at head at = if nat_lt (be32 head 4) 3 then 0 else be64 head at

-- a word of features has that bit
unfoldable pub has_bit : ℕ → ℕ → Bool
has_bit features bit = nat_eq (features / 2 ^ bit % 2) 1

-- What isn't offered: another version than 2 and 3, any encryption, and an incompatible feature but
-- bit 0, the image wasn't closed, and bit 3, its compressed clusters aren't deflated. So the image
-- isn't known to be corrupt, has no data file, and no extended L2 entries.
unfoldable pub support_fault : List ℕ → Result (Unit {0}) Error
support_fault head =
    if (nat_lt (be32 head 4) 2 || nat_lt 3 (be32 head 4))
    || not (nat_eq (be32 head 32) 0) then Err Error.Unsupported else
    (if nat_lt 15 (features_at head 72)
    || not (nat_eq (features_at head 72 / 2 % 4) 0) then Err Error.Unsupported else Ok tt)

-- a cluster has 512 bytes at least, and 2 MiB at most
unfoldable pub bounds_fault : List ℕ → Result (Unit {0}) Error
bounds_fault head = if nat_lt (be32 head 20) 9
    || nat_lt 21 (be32 head 20) then Err Error.InvalidData else Ok tt

-- the number of the kind of compression, where the header is long enough to have one: 0 is deflate,
-- and 1 is Zstandard
abbrev pub compression_type : List ℕ → ℕ
compression_type head = if nat_lt 104 (be32 head 100) then slice_index head 104 else 0

-- The numbers that version 3 adds: the header's own length, the width of a reference count, and the
-- kind of compression, which is one of the two that there are, and another than 0 exactly where bit
-- 3 of the incompatible features says so.
unfoldable pub added_fault : List ℕ → ℕ → Result (Unit {0}) Error
added_fault head cluster =
    if nat_lt (be32 head 4) 3 then Ok tt else
    (if nat_lt (be32 head 100) 104 || not (nat_eq (be32 head 100 % 8) 0)
    || nat_lt cluster (be32 head 100) || nat_lt 6 (be32 head 96) then Err Error.InvalidData else
    (if nat_lt 1 (compression_type head) then Err Error.Unsupported else
    (if not (nat_eq (compression_type head) 0) then
    (if nat_lt (be64 head 72) 8 then Err Error.InvalidData else Ok tt)
    else (if nat_lt (be64 head 72) 8 then Ok tt else Err Error.InvalidData))))

-- how compressed clusters are made; in version 2 all are deflated
unfoldable pub compression_of : List ℕ → Compression
compression_of head =
    if nat_lt (be32 head 4) 3 || nat_eq (compression_type head) 0
    then Compression.Deflate else Compression.Zstd

-- the backing file's name, if there is one, stands in the first cluster, in 1023 bytes at most
unfoldable pub name_fault : List ℕ → ℕ → Result (Unit {0}) Error
name_fault head cluster =
    if nat_eq (be64 head 8) 0 then Ok tt else
    (if nat_lt 1023 (be32 head 16) || (nat_lt cluster (be64 head 8)
    || nat_lt (cluster - be64 head 8) (be32 head 16)) then Err Error.InvalidData else Ok tt)

-- the L1 table has an entry for each L2 table of the disk
unfoldable pub size_fault : List ℕ → ℕ → Result (Unit {0}) Error
size_fault head cluster = if nat_lt (be32 head 36 * (cluster / 8 * cluster))
    (be64 head 24) then Err Error.InvalidData else Ok tt

-- it stands on a cluster's bounds, in the file
unfoldable pub table_fault : List ℕ → ℕ → ℕ → Result (Unit {0}) Error
table_fault head file cluster =
    if not (nat_eq (be64 head 40 % cluster) 0)
    || (nat_lt file (be32 head 36 * 8)
    || nat_lt (file - be32 head 36 * 8) (be64 head 40)) then Err Error.InvalidData else Ok tt

-- how long the header is by its own words, in bytes; version 2 doesn't say
unfoldable pub own_length : List ℕ → ℕ
own_length head = if nat_lt (be32 head 4) 3 then 72 else be32 head 100

-- what the header of a file of that length says, or its first fault
unfoldable pub header_of : List ℕ → ℕ → Result Header Error
header_of head file =
    and_then (magic_fault head file)
    (and_then (support_fault head)
    (and_then (bounds_fault head)
    (and_then (added_fault head (2 ^ be32 head 20))
    (and_then (name_fault head (2 ^ be32 head 20))
    (and_then (size_fault head (2 ^ be32 head 20))
    (and_then (table_fault head file (2 ^ be32 head 20))
    (Ok (record {
      version = be32 head 4;
      incompatible_features = features_at head 72;
      compatible_features = features_at head 80;
      autoclear_features = features_at head 88;
      own_length = own_length head;
      cluster_size = 2 ^ be32 head 20;
      size = be64 head 24;
      l1_start = be64 head 40;
      l1_count = be32 head 36;
      name_start = be64 head 8;
      name_length = be32 head 16;
      compression = compression_of head;
    }))))))))

-- a cluster's length in bytes is a power of two, from 512 bytes to 2 MiB
abbrev pub IsClusterSize : ℕ → Type 0
IsClusterSize size = (bits : ℕ) × (9 ≤ bits) × (bits ≤ 21) × (size ≡ 2 ^ bits)

-- What holds of a header that has no fault.
pub record IsSound (head : List ℕ) (file : ℕ) (h : Header) : Type 0 where
  pub version : h.version ≡ be32 head 4
  pub own : h.own_length ≡ own_length head
  pub cluster : h.cluster_size ≡ 2 ^ be32 head 20
  pub size : h.size ≡ be64 head 24
  pub start : h.l1_start ≡ be64 head 40
  pub name_start : h.name_start ≡ be64 head 8
  pub name_length : h.name_length ≡ be32 head 16
  pub compression : h.compression ≡ compression_of head
  pub is_size : IsClusterSize h.cluster_size
  pub least : 512 ≤ h.cluster_size
  pub most : h.cluster_size ≤ 2 ^ 21
  pub inside : h.l1_start + h.l1_count * 8 ≤ file
  pub covers : h.size ≤ h.l1_count * (h.cluster_size / 8 * h.cluster_size)

-- the header names a backing file; a name without bytes is none
abbrev pub NamesBacking : Header → Type 0
NamesBacking h = (0 < h.name_start) × (0 < h.name_length)
