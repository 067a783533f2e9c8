-- Guest clusters that can be read as their entries say.
-- SPDX-License-Identifier: MIT
use Rattle.std.specs.Prelude.{◌≡◌, ℕ, ◌*◌, ◌<◌, List}
use Rattle.imago_qcow2.specs.declared.entry.GuestCluster.{GuestCluster}
use Rattle.imago_qcow2.specs.declared.entry.GuestCluster.TheVariants as C
use Rattle.imago_qcow2.specs.declared.header.Compression.{Compression}
use Rattle.imago_qcow2.specs.declared.header.Header.{Header}
use Rattle.imago_qcow2.specs.Numbers.{be64}
use Rattle.imago_qcow2.specs.Entry.{cluster_in_entry}
use Rattle.imago_qcow2.specs.Tables.{LoadedImage, loaded_cluster}

-- A guest cluster can be read, of a file of that length: a stored one begins in the file, a
-- compressed one is deflated, and an invalid entry says nothing.
abbrev pub IsSound : Compression → ℕ → GuestCluster → Type 0
IsSound compression file C.Absent = Unit {0}
IsSound compression file C.Zero = Unit {0}
IsSound compression file (C.Stored at) = at < file
IsSound compression file (C.Compressed at n) = compression ≡ Compression.Deflate
IsSound compression file C.Invalid = ⊥

-- so can the one of an entry, in an image with that header whose clusters have that length
abbrev pub IsEntrySound : Header → ℕ → ℕ → ℕ → Type 0
IsEntrySound header cluster file entry =
    IsSound header.compression file (cluster_in_entry header.version cluster entry)

-- so can the one of entry e of an L2 table with these bytes
abbrev pub IsSoundIn : Header → ℕ → ℕ → List ℕ → ℕ → Type 0
IsSoundIn header cluster file table e = IsEntrySound header cluster file (be64 table (8 * e))

-- so can guest cluster k of what was loaded
abbrev pub IsSoundAt : LoadedImage → ℕ → ℕ → Type 0
IsSoundAt loaded file k = IsSound loaded.compression file (loaded_cluster loaded k)
