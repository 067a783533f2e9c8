-- What is so of a file that is safe to hand on: what opens it, and each place of its disk.
-- SPDX-License-Identifier: MIT
use Rattle.std.specs.Prelude.{◌≡◌, ℕ, zero, suc, ◌+◌, ◌*◌, ◌^◌, ◌<◌, ◌≤◌, List, length}
use Rattle.std.specs.Prelude.{false, Option, Some, None, IsOk}
use Rattle.std.specs.Int.{next_multiple_of}
use Rattle.imago_formats.specs.declared.probe.Probed.{Probed}
use Rattle.imago_formats.specs.declared.probe.Probed.TheVariants as Seen
use Rattle.imago_formats.specs.Probes.{taken_by_qemu}
use Rattle.imago_qcow2.specs.declared.entry.L2Table.{L2Table}
use Rattle.imago_qcow2.specs.declared.entry.L2Table.TheVariants as T
use Rattle.imago_qcow2.specs.declared.entry.GuestCluster.{GuestCluster}
use Rattle.imago_qcow2.specs.declared.entry.GuestCluster.TheVariants as C
use Rattle.imago_qcow2.specs.declared.header.Compression.{Compression}
use Rattle.imago_qcow2.specs.declared.header.Compression.TheVariants as By
use Rattle.imago_qcow2.specs.Numbers.{be64}
use Rattle.imago_qcow2.specs.Header.{header_of, compression_of}
use Rattle.imago_qcow2.specs.Entry.{version_of, cluster_length, per_table, table_of}
use Rattle.imago_qcow2.specs.Entry.{cluster_in_entry}
use Rattle.imago_qcow2.specs.Limit.{l1_length}
use Rattle.imago_qcow2.specs.Opening.{table_count}
use Rattle.imago_images.specs.declared.failure.OpenError.{OpenError}
use Rattle.imago_images.specs.declared.files.FileStatus.{FileStatus}
use Rattle.imago_images.specs.declared.format.ImageFormat.{ImageFormat}
use Rattle.imago_images.specs.declared.format.ImageFormat.TheVariants.{Raw, Vmdk, Qcow2}
use Rattle.imago_images.specs.declared.opening.Opening.{Opening}
use Rattle.imago_images.specs.declared.opening.OtherFiles.TheVariants as Others
use Rattle.imago_images.specs.Alone.{HasOneFormat}
use Rattle.imago_images.specs.Chains.{IsImageRefused}
use Rattle.imago_images.specs.Formats.{IsFormatBy}
use Rattle.imago_images.specs.Layers.{SaysBacking}
use Rattle.imago_images.specs.Longest.{IsNoLonger}
use Rattle.imago_formats.specs.Signatures.{signature_of}
use Rattle.imago_img_files.specs.Failures.{IsHostRefusal}
use Rattle.imago_img_files.specs.Openings.{most_memory}

-- So many bytes from an offset on begin in a file of that length, and end in it or in its last
-- cluster, which may be cut.
abbrev pub IsThere : ℕ → ℕ → ℕ → ℕ → Type 0
IsThere file cluster at count = (at < file) × (at + count ≤ next_multiple_of file cluster)

-- What an L2 entry says of its guest cluster can be read, in a file of that length, whose clusters
-- have that length: the bytes that it names are there, and those that are compressed are deflated.
abbrev pub IsSafeCluster : ℕ → ℕ → Compression → GuestCluster → Type 0
IsSafeCluster file cluster by C.Absent = Unit {0}
IsSafeCluster file cluster by C.Zero = Unit {0}
IsSafeCluster file cluster by (C.Stored at) = IsThere file cluster at cluster
IsSafeCluster file cluster by (C.Compressed at count) =
    IsThere file cluster at count × (by ≡ By.Deflate)
IsSafeCluster file cluster by C.Invalid = ⊥

-- each entry of the L2 table that an L1 entry names can be read, if it names one
abbrev pub IsSafeTable : List ℕ → L2Table → Type 0
IsSafeTable bytes T.Absent = Unit {0}
IsSafeTable bytes (T.Stored at) = (j : ℕ) → j < per_table bytes
    → IsSafeCluster (length bytes) (cluster_length bytes) (compression_of bytes)
    (cluster_in_entry (version_of bytes) (cluster_length bytes) (be64 bytes (at + 8 * j)))
IsSafeTable bytes T.Invalid = ⊥

-- whether an L1 entry names an L2 table, as 1 or 0, and how many of the first ones do
abbrev pub named_by : L2Table → ℕ
named_by T.Absent = 0
named_by (T.Stored at) = 1
named_by T.Invalid = 0

abbrev pub named_tables : (ℕ → L2Table) → ℕ → ℕ
named_tables says zero = 0
named_tables says (suc n) = named_tables says n + named_by (says n)

-- The tables of a qcow2 file have at most so many bytes, where an L2 table counts as often as it
-- is named, and those of the L1 table, which is held whole, are at most 32 MiB by the header. Each
-- of their entries can be read.
pub record AreSafeTables (most : ℕ) (bytes : List ℕ) : Type 0 where
  pub held : l1_length bytes ≤ 2 ^ 25
  pub few : 8 * table_count bytes
      + cluster_length bytes * named_tables (table_of bytes) (table_count bytes) ≤ most
  pub each : (i : ℕ) → i < table_count bytes → IsSafeTable bytes (table_of bytes i)

-- A qcow2 file with these bytes is safe: its header is accepted, it names no file below it, and its
-- tables are safe.
pub record IsSafeQcow2 (most : ℕ) (bytes : List ℕ) : Type 0 where
  pub header : IsOk (header_of bytes (length bytes))
  pub alone : SaysBacking bytes None
  pub tables : AreSafeTables most bytes

-- A file with these bytes is safe as an image of that format. Any bytes are a raw disk. No VMDK
-- descriptor is safe: QEMU reads its lines in another way than they are read here, and so other
-- extents.
abbrev pub IsSafeAs : Opening → List ℕ → ImageFormat → Type 0
IsSafeAs how bytes Raw = Unit {0}
IsSafeAs how bytes Vmdk = ⊥
IsSafeAs how bytes Qcow2 = IsSafeQcow2 (most_memory how.tables) bytes

-- which format of QEMU's that is
abbrev pub probed_of : ImageFormat → Probed
probed_of Raw = Seen.Raw
probed_of Vmdk = Seen.Vmdk
probed_of Qcow2 = Seen.Qcow2

-- QEMU takes the file of a path with these bytes for one of that format, if it isn't told one
abbrev pub IsSeenAs : List ℕ → List ℕ → ImageFormat → Type 0
IsSeenAs path bytes format = taken_by_qemu path bytes ≡ Some (probed_of format)

-- The file of a path with these bytes is safe to hand on: it is of one format, which is the one
-- that is said, if one is, and the one that QEMU takes it for; its disk isn't longer than is
-- allowed; and it is safe as an image of that format. No other file is mentioned.
pub record IsVetted (how : Opening) (path bytes : List ℕ) : Type 0 where
  pub one : HasOneFormat how.format (signature_of bytes) bytes
  pub format : ImageFormat
  pub is_format : IsFormatBy how.format path bytes format
  pub seen : IsSeenAs path bytes format
  pub longest : IsNoLonger how.longest how.accepted format bytes
  pub safe : IsSafeAs how bytes format

-- What is safe to hand on opens: where no other files are opened, and none is written to, the image
-- of a file that is vetted so isn't refused but by the host or for memory.
abbrev pub VettedOpens : Type 0
VettedOpens = (how : Opening) (files : List ℕ → List ℕ) (statuses : Option (List ℕ → FileStatus))
    (reals : Option (List ℕ → List ℕ)) (path : List ℕ) (e : OpenError)
    → how.other_files ≡ Others.None → IsVetted how path (files path)
    → IsImageRefused false files statuses reals how.other_files how how.format path e
    → IsHostRefusal e

-- What is safe to hand on is what QEMU takes it for, where QEMU isn't told a format.
abbrev pub VettedIsSeen : Type 0
VettedIsSeen = (how : Opening) (path bytes : List ℕ) (vetted : IsVetted how path bytes)
    → taken_by_qemu path bytes ≡ Some (probed_of vetted.format)
