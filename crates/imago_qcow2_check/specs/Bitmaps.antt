-- The bitmaps of a file: what their directory and their tables use, and their faults.
-- SPDX-License-Identifier: MIT
use Rattle.std.specs.Prelude.{ℕ, zero, suc, ◌+◌, ◌-◌, ◌*◌, ◌%◌, ◌^◌, Bool, ◌&&◌, ◌||◌, not, List}
use Rattle.std.specs.Prelude.{nat_lt, nat_eq, if◌then◌else◌}
use Rattle.std.specs.Int.{next_multiple_of}
use Rattle.imago_qcow2.specs.Numbers.{be32, be64}
use Rattle.imago_qcow2.specs.Header.{features_at, own_length}
use Rattle.imago_qcow2.specs.Backing.{extensions_end}
use Rattle.imago_qcow2_check.specs.Sums.{total, one_if}
use Rattle.imago_qcow2_check.specs.Clusters.{Setting, use_of, past_fault}
use Rattle.imago_qcow2_check.specs.Entries.{offset_of, length_at}
use Rattle.imago_qcow2_check.specs.Counts.{be_number}
use Rattle.imago_qcow2_check.specs.Known.{bitmaps_type}

-- Where the last header extension of bitmaps begins, of those from an offset up to the end; `found`
-- where there is none. So many steps are enough.
abbrev pub extension_by : ℕ → List ℕ → ℕ → ℕ → ℕ → ℕ
extension_by zero bytes found at end = found
extension_by (suc steps) bytes found at end =
    if nat_lt at end then
    (if nat_eq (be32 bytes at) 0 then found else
    extension_by steps bytes (if nat_eq (be32 bytes at) bitmaps_type then at else found)
    (at + (8 + next_multiple_of (be32 bytes (at + 4)) 8)) end)
    else found

-- each extension takes 8 bytes at least
unfoldable pub extension_from : List ℕ → ℕ → ℕ → ℕ → ℕ
extension_from bytes found at end = extension_by (end - at) bytes found at end

-- Where the header extension of bitmaps begins that are valid, or 0: bit 0 of the autoclear features
-- says that they are.
unfoldable pub bitmaps_extension : List ℕ → ℕ
bitmaps_extension bytes = if nat_eq (features_at bytes 88 % 2) 0 then 0
    else extension_from bytes 0 (own_length bytes) (extensions_end bytes)

-- The extension that begins there holds how many bitmaps there are, 4 bytes that are reserved, and
-- how long their directory is and where it begins.
abbrev pub bitmap_count : List ℕ → ℕ → ℕ
bitmap_count bytes at = be32 bytes (at + 8)

abbrev pub directory_length : List ℕ → ℕ → ℕ
directory_length bytes at = be64 bytes (at + 16)

abbrev pub directory_start : List ℕ → ℕ → ℕ
directory_start bytes at = be64 bytes (at + 24)

-- An entry of the directory has 24 bytes, and then more of them and the bitmap's name, whose lengths
-- are among the first ones, up to a multiple of 8 bytes. This is where the next one begins.
abbrev pub bitmap_end : List ℕ → ℕ → ℕ
bitmap_end bytes at =
    at + next_multiple_of (24 + be32 bytes (at + 20) + be_number bytes (at + 18) 2) 8

-- where the entry of bitmap i begins, by where the directory does
unfoldable pub bitmap_at : List ℕ → ℕ → ℕ → ℕ
bitmap_at bytes start zero = start
bitmap_at bytes start (suc i) = bitmap_end bytes (bitmap_at bytes start i)

-- where the table of the bitmap begins whose entry begins there, and how many entries it has
abbrev pub bitmap_table : List ℕ → ℕ → ℕ
bitmap_table bytes at = be64 bytes at

abbrev pub bitmap_table_count : List ℕ → ℕ → ℕ
bitmap_table_count bytes at = be32 bytes (at + 8)

-- An entry of a bitmap's table says where a cluster of its bits begins. It is 0 where all of these
-- are 0, and 1 where all are 1; bits 56 to 63 are reserved.
abbrev pub is_valid_bits : ℕ → ℕ → Bool
is_valid_bits cluster entry =
    nat_lt entry 2 || (nat_lt entry (2 ^ 56) && nat_eq (entry % cluster) 0)

-- what it uses, by the offset that it has even if it is invalid, and how many faults it has
unfoldable pub bits_use : Setting → ℕ → ℕ → ℕ
bits_use s entry n = use_of s (offset_of entry) (length_at s.cluster (offset_of entry)) n

unfoldable pub bits_faults : Setting → ℕ → ℕ
bits_faults s entry = one_if (not (is_valid_bits s.cluster entry))
    + past_fault s (offset_of entry) (length_at s.cluster (offset_of entry))

-- The same of a bitmap, whose entry of the directory begins there: its table, and what that names.
unfoldable pub bitmap_uses : Setting → List ℕ → ℕ → ℕ → ℕ
bitmap_uses s bytes at n = use_of s (bitmap_table bytes at) (8 * bitmap_table_count bytes at) n
    + total (λ i. bits_use s (be64 bytes (bitmap_table bytes at + 8 * i)) n)
    (bitmap_table_count bytes at)

unfoldable pub bitmap_faults : Setting → List ℕ → ℕ → ℕ
bitmap_faults s bytes at = past_fault s (bitmap_table bytes at) (8 * bitmap_table_count bytes at)
    + total (λ i. bits_faults s (be64 bytes (bitmap_table bytes at + 8 * i)))
    (bitmap_table_count bytes at)

-- The same of a directory of so many bitmaps, and of each of these.
unfoldable pub directory_uses : Setting → List ℕ → ℕ → ℕ → ℕ → ℕ → ℕ
directory_uses s bytes start size count n = use_of s start size n
    + total (λ i. bitmap_uses s bytes (bitmap_at bytes start i) n) count

unfoldable pub directory_faults : Setting → List ℕ → ℕ → ℕ → ℕ → ℕ
directory_faults s bytes start size count = past_fault s start size
    + total (λ i. bitmap_faults s bytes (bitmap_at bytes start i)) count

-- The same by where the extension begins that says so; 0 if no bitmap is valid.
unfoldable pub bitmaps_uses : Setting → List ℕ → ℕ → ℕ → ℕ
bitmaps_uses s bytes at n = if nat_eq at 0 then 0 else
    directory_uses s bytes (directory_start bytes at) (directory_length bytes at)
    (bitmap_count bytes at) n

unfoldable pub bitmaps_faults : Setting → List ℕ → ℕ → ℕ
bitmaps_faults s bytes at = if nat_eq at 0 then 0 else
    directory_faults s bytes (directory_start bytes at) (directory_length bytes at)
    (bitmap_count bytes at)
