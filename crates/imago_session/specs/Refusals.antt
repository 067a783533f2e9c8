-- Why a file that is given isn't opened: what its faults are, each with its refusal.
-- SPDX-License-Identifier: MIT
use Rattle.std.specs.Prelude.{◌≡◌, ℕ, ◌*◌, ◌^◌, ◌≤◌, ◌⊎◌, List, [], ◌∷◌, length, Result, Ok, Err}
use Rattle.std.specs.Prelude.{Bool, true, false, not, ◌||◌, nat_lt, Option, None}
use Rattle.imago_storage.specs.declared.error.Error.{Error}
use Rattle.imago_drivers.specs.declared.format.Format.{Format}
use Rattle.imago_drivers.specs.declared.format.Format.TheVariants as Of
use Rattle.imago_formats.specs.Signatures.{signature_of}
use Rattle.imago_session.specs.declared.permitted.Permitted.{Permitted}
use Rattle.imago_vmdk.specs.declared.line.Extent.{Extent}
use Rattle.imago_vmdk.specs.Reading.{reading_of}
use Rattle.imago_qcow2.specs.Backing.{format_of}
use Rattle.imago_session.specs.declared.session.Session.{Session}
use Rattle.imago_session.specs.Limits.{IsTableFault}
use Rattle.imago_session.specs.Files.{File, IsFormatOf, HasBacking, format_told}

-- an extent begins in its file at an offset that doesn't fit 64 bits
abbrev pub is_far : {N : Type 0} → Extent N → Bool
is_far (Extent.Zero sectors) = false
is_far (Extent.NoAccess sectors) = false
is_far (Extent.Flat sectors name offset writable vmfs) = not (nat_lt (offset * 512) (2 ^ 64))

-- one of several does
abbrev pub has_far : {N : Type 0} → List (Extent N) → Bool
has_far [] = false
has_far (extent ∷ extents) = is_far extent || has_far extents

-- a descriptor whose reading this is has such an extent
abbrev pub ReadsFar : Result (List (Extent (List ℕ)) × ℕ) Error → Type 0
ReadsFar (Ok disk) = has_far disk.0 ≡ true
ReadsFar (Err e) = ⊥

-- the header of a qcow2 file that names a file below has no right name of that one's format
abbrev pub HasFaultyFormat : List ℕ → Error → Type 0
HasFaultyFormat bytes e = HasBacking bytes × (format_of bytes ≡ Err e)

-- The fault of a file of that format: any bytes are a raw image's; a descriptor's lines are at
-- fault, or one of its extents begins too far behind; a qcow2 file's header is, or its tables are
-- too many, or what it says of the file below is wrong. Files of copy-on-write disks aren't opened.
abbrev pub IsFault : Permitted → List ℕ → Format → Error → Type 0
IsFault permitted bytes Of.Raw e = ⊥
IsFault permitted bytes Of.Vmdk e =
    (reading_of permitted.accepted bytes ≡ Err e)
    ⊎ (ReadsFar (reading_of permitted.accepted bytes) × (e ≡ Error.InvalidData))
IsFault permitted bytes Of.Cow e = e ≡ Error.Unsupported
IsFault permitted bytes Of.Qcow2 e =
    IsTableFault permitted.tables bytes e ⊎ HasFaultyFormat bytes e

-- the same, or no memory
abbrev pub IsFaultOrMemory : Permitted → List ℕ → Format → Error → Type 0
IsFaultOrMemory permitted bytes format e = (e ≡ Error.Memory) ⊎ IsFault permitted bytes format e

-- A file of which no format is said is recognised as what isn't opened, such as an image of another
-- format or an archive.
abbrev pub IsForeign : Option Format → List ℕ → Error → Type 0
IsForeign said bytes e =
    (said ≡ None) × (format_told (signature_of bytes) ≡ None) × (e ≡ Error.Unsupported)

-- the same, or no memory
abbrev pub IsForeignOrMemory : Option Format → List ℕ → Error → Type 0
IsForeignOrMemory said bytes e = (e ≡ Error.Memory) ⊎ IsForeign said bytes e

-- why a file isn't opened: no memory, its fault in its own format, or that it has none of them
abbrev pub IsCause : Permitted → File → Error → Type 0
IsCause permitted f e =
    (e ≡ Error.Memory)
    ⊎ (((format : Format) × IsFormatOf f format × IsFault permitted f.bytes format e)
    ⊎ IsForeign f.format f.bytes e)

-- the most layers that an image has
abbrev pub most_layers : ℕ
most_layers = 200

-- why it isn't taken as the layer below so many others: there are as many as an image may have, too
abbrev pub IsLayerRefusal : Permitted → ℕ → File → Error → Type 0
IsLayerRefusal permitted k f e =
    IsCause permitted f e ⊎ ((most_layers ≤ k) × (e ≡ Error.Unsupported))

-- why what a session asks for isn't taken, of these files
abbrev pub IsRefusalOf : (ℕ → File) → Session → Error → Type 0
IsRefusalOf files s e =
    IsLayerRefusal s.permitted (length s.above.items) (files (length s.above.items)) e
