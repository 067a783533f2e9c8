-- Disks and L1 tables that may have so many bytes, and no more.
-- SPDX-License-Identifier: MIT
use Rattle.std.specs.Prelude.{◌≡◌, ◌<◌, ◌≤◌, ◌*◌, ◌^◌, ◌⊎◌, ℕ, List, Option, Some, Err, length}
use Rattle.imago_storage.specs.Bytes.{bytes_at}
use Rattle.imago_storage.specs.Error.{IsExtRefusal}
use Rattle.imago_vmdk.specs.declared.line.Accepted.{Accepted}
use Rattle.imago_vmdk.specs.Reading.{reading_of}
use Rattle.imago_qcow2.specs.Header.{header_of}
use Rattle.imago_qcow2.specs.Fault.{error_of}
use Rattle.imago_qcow2.specs.Limit.{IsWithin, HasTablesWithin, l1_length}
use Rattle.imago_images.specs.declared.failure.Reason.{Reason}
use Rattle.imago_images.specs.declared.format.ImageFormat.{ImageFormat}
use Rattle.imago_images.specs.declared.format.ImageFormat.TheVariants.{Raw, Vmdk, Qcow2}
use Rattle.imago_images.specs.declared.opening.Opening.{Opening}
use Rattle.imago_images.specs.Layers.{size_by}

-- the disk of a layer's file, which has that format and these bytes, has at most so many bytes, if
-- that is limited
abbrev pub IsNoLonger : Option ℕ → Accepted → ImageFormat → List ℕ → Type 0
IsNoLonger longest accepted format bytes = IsWithin longest (size_by accepted format bytes)

-- a disk of that many bytes has more than the limit
abbrev pub IsOverLimit : Option ℕ → ℕ → Reason → Type 0
IsOverLimit longest size (Reason.DiskTooLong told most) =
    (longest ≡ Some most) × (told ≡ size) × (most < size)
IsOverLimit longest size reason = ⊥

-- How long the disk of a layer's file is isn't told: the header of a qcow2 file has that fault, the
-- text of a descriptor is refused so, or the file isn't read.
abbrev pub IsSizeUnknown : Accepted → ImageFormat → List ℕ → Reason → Type 0
IsSizeUnknown accepted format bytes (Reason.Header fault) = (format ≡ Qcow2)
    × (header_of (bytes_at bytes 0 112) (length bytes) ≡ Err (error_of fault))
IsSizeUnknown accepted format bytes (Reason.Image error) = IsExtRefusal error
    ⊎ ((format ≡ Vmdk) × (reading_of accepted bytes ≡ Err error))
IsSizeUnknown accepted format bytes (Reason.System answer) = Unit {0}
IsSizeUnknown accepted format bytes reason = ⊥

-- how long the disk is isn't told, or it is longer than the limit
abbrev pub IsTooLong : Option ℕ → Accepted → ImageFormat → List ℕ → Reason → Type 0
IsTooLong longest accepted format bytes reason =
    IsOverLimit longest (size_by accepted format bytes) reason
    ⊎ IsSizeUnknown accepted format bytes reason

-- the L1 table of a layer's file, if its format has one, has at most 32 MiB
abbrev pub HasShortL1 : ImageFormat → List ℕ → Type 0
HasShortL1 Raw bytes = Unit {0}
HasShortL1 Vmdk bytes = Unit {0}
HasShortL1 Qcow2 bytes = l1_length bytes ≤ 2 ^ 25

-- the tables of a layer's file, if its format has any, have at most so many bytes, if that is
-- limited
abbrev pub HasFewTables : Option ℕ → ImageFormat → List ℕ → Type 0
HasFewTables most Raw bytes = Unit {0}
HasFewTables most Vmdk bytes = Unit {0}
HasFewTables most Qcow2 bytes = HasTablesWithin most bytes

-- A file of that format is within the limits: its disk isn't longer than is allowed, its L1 table,
-- if it has one, has at most 32 MiB, and its tables have no more bytes than are allowed.
abbrev pub IsLimited : Opening → ImageFormat → List ℕ → Type 0
IsLimited how format bytes =
    IsNoLonger how.longest how.accepted format bytes × HasShortL1 format bytes
    × HasFewTables how.tables format bytes

-- the L1 table has more, and how much it has is told
abbrev pub HasLongL1 : ImageFormat → List ℕ → Reason → Type 0
HasLongL1 format bytes (Reason.L1TooLong told) =
    (format ≡ Qcow2) × (told ≡ l1_length bytes) × (2 ^ 25 < told)
HasLongL1 format bytes reason = ⊥

-- A layer's file is too large: its disk is longer than the limit, or its L1 table has more than
-- 32 MiB, or how long the disk is isn't told.
abbrev pub IsTooLarge : Option ℕ → Accepted → ImageFormat → List ℕ → Reason → Type 0
IsTooLarge longest accepted format bytes reason =
    IsTooLong longest accepted format bytes reason ⊎ HasLongL1 format bytes reason
