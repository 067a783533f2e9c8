-- SPDX-License-Identifier: MIT
use Rattle.std.specs.Prelude.{ℕ, List, Result, Ok, Err, slice_index}
use Rattle.imago_storage.specs.declared.error.Error.{Error}
use Rattle.imago_drivers.specs.Place.{Place, Stored, Zeroed, Special, Lower, Refused, End}
use Rattle.imago_drivers.specs.Place.{Value, Byte, shown}
use Rattle.imago_vmdk.specs.declared.line.Accepted.{Accepted}
use Rattle.imago_vmdk.specs.declared.line.Extent.{Extent}
use Rattle.imago_vmdk.specs.Reading.{reading_of}
use Rattle.imago_vmdk.specs.Vmdk.{places_from}

-- the places of the extents that were read, in storages that have these bytes
abbrev pub places_read : (ℕ → List ℕ) → Result (List (Extent (List ℕ)) × ℕ) Error → ℕ → Place
places_read bytes (Ok disk) p = places_from bytes 1 disk.0 p
places_read bytes (Err e) p = End

-- What stands at each offset of a disk whose storages have these bytes. The first of them is the
-- descriptor, and the others are those of its FLAT extents in order.
abbrev pub described_place : Accepted → (ℕ → List ℕ) → ℕ → Place
described_place accepted bytes p = places_read bytes (reading_of accepted (bytes 0)) p

-- what a read of each offset gives, whatever lies below
abbrev pub described_value : Accepted → (ℕ → List ℕ) → ℕ → Value
described_value accepted bytes p = shown (λ (q : ℕ). Byte 0) (described_place accepted bytes p)

-- a place, where the storages have these bytes
abbrev pub with_bytes : (ℕ → List ℕ) → Place → Place
with_bytes bytes (Stored byte storage offset writable) =
    Stored (slice_index (bytes storage) offset) storage offset writable
with_bytes bytes (Zeroed explicit) = Zeroed explicit
with_bytes bytes (Special value offset) = Special value offset
with_bytes bytes (Lower offset writable) = Lower offset writable
with_bytes bytes (Refused e) = Refused e
with_bytes bytes End = End
