-- What the files of an image say of its disk, each in its format.
-- SPDX-License-Identifier: MIT
use Rattle.std.specs.Prelude.{◌≡◌, ℕ, suc, ◌+◌, ◌<◌, ◌⊎◌, true, List, [], ◌∷◌, length}
use Rattle.std.specs.Prelude.{Option, Some, None, Result, Ok, Err}
use Rattle.std.specs.List.{flat_map}
use Rattle.imago_storage.specs.declared.error.Error.{Error}
use Rattle.imago_drivers.specs.Place.{Value, Byte, Place, End, shown}
use Rattle.imago_drivers.specs.Raw.{raw_place}
use Rattle.imago_drivers.specs.RawImage.{size_of}
use Rattle.imago_drivers.specs.declared.format.Format.{Format}
use Rattle.imago_formats.specs.declared.signature.Signature.{Signature}
use Rattle.imago_formats.specs.declared.signature.Signature.TheVariants as As
use Rattle.imago_formats.specs.Signatures.{signature_of}
use Rattle.imago_session.specs.declared.permitted.Permitted.{Permitted}
use Rattle.imago_vmdk.specs.declared.line.Extent.{Extent}
use Rattle.imago_vmdk.specs.Disk.{described_place}
use Rattle.imago_vmdk.specs.Image.{descriptor_in, is_opened, accepted_in}
use Rattle.imago_vmdk.specs.Reading.{reading_of}
use Rattle.imago_qcow2.specs.Disk.{HaveSameTables, AreSameBytes}
use Rattle.imago_qcow2.specs.Entry.{cluster_length, disk_size, qcow2_place}
use Rattle.imago_qcow2.specs.Numbers.{be32, be64}
use Rattle.imago_qcow2.specs.Qcow2Image.{storage_in}
use Rattle.imago_storage.specs.Bytes.{bytes_at}
use Rattle.imago_any_driver.specs.declared.any.AnyDriver.{AnyDriver}
use Rattle.imago_any_driver.specs.declared.any.AnyDriver.TheVariants as Of
use Rattle.imago_access.specs.declared.access.FormatAccess.{FormatAccess, FormatAccess'}
use Rattle.imago_access.specs.declared.access.FormatAccess.{Held-FormatAccess-backing, None', Some'}
use Rattle.imago_access.specs.Chain.{driver}
use Rattle.imago_session.specs.contracts.loaded.LoadedFileStorage.TheImpl as storage
use Rattle.imago_session.specs.contracts.loaded.LoadedFileDisplay.TheImpl as display
use Rattle.imago_session.specs.declared.loaded.LoadedFile.{LoadedFile}
use Rattle.imago_session.specs.Loaded.{loaded_bytes}
use Rattle.imago_session.specs.Limits.{HasFewTables}

-- A file as the caller has it: its bytes, and the format that the caller says it has, if it says
-- one.
pub record File : Type 0 where
  pub bytes : List ℕ
  pub format : Option Format

-- The format that is told by what a file is recognised as: that of a qcow2 image, of a VMDK
-- descriptor, or of a raw disk where it is recognised as nothing. Files of other kinds have none.
abbrev pub format_told : Option Signature → Option Format
format_told None = Some Format.Raw
format_told (Some As.Qcow2) = Some Format.Qcow2
format_told (Some As.Descriptor) = Some Format.Vmdk
format_told (Some other) = None

-- the format of a file: the one that is said, or the one that its bytes are recognised as
abbrev pub IsFormatBy : Option Format → List ℕ → Format → Type 0
IsFormatBy None bytes format = format_told (signature_of bytes) ≡ Some format
IsFormatBy (Some said) bytes format = format ≡ said

abbrev pub IsFormatOf : File → Format → Type 0
IsFormatOf f format = IsFormatBy f.format f.bytes format

-- the driver of a layer
abbrev pub Layer : Type 0
Layer = AnyDriver LoadedFile storage.ghosts display.ghosts

-- the format of a layer
abbrev pub format_in : Layer → Format
format_in (Of.Raw r) = Format.Raw
format_in (Of.Vmdk v) = Format.Vmdk
format_in (Of.Cow c) = Format.Cow
format_in (Of.Qcow2 q) = Format.Qcow2

-- What stands at each offset of the disk that files say in the format of a layer. The first one is
-- the layer's own, and those behind it are the files of a descriptor's extents.
abbrev pub described_by : Layer → (ℕ → List ℕ) → ℕ → Place
described_by (Of.Raw r) bytes p = raw_place (length (bytes 0)) (bytes 0) p
described_by (Of.Vmdk v) bytes p = described_place (accepted_in v) bytes p
described_by (Of.Cow c) bytes p = End
described_by (Of.Qcow2 q) bytes p = qcow2_place (bytes 0) p

-- A layer is open over what is needed of a file in its format: its length, the text of a
-- descriptor, of which so much is accepted, or the tables of a qcow2 file, of which there are no
-- more than is permitted, and its first cluster.
abbrev pub IsOver : Permitted → Layer → List ℕ → Type 0
IsOver permitted (Of.Raw r) bytes = size_of r ≡ length bytes
IsOver permitted (Of.Vmdk v) bytes =
    (accepted_in v ≡ permitted.accepted) × (is_opened v ≡ true) × (bytes ≡ loaded_bytes (descriptor_in v))
IsOver permitted (Of.Cow c) bytes = ⊥
IsOver permitted (Of.Qcow2 q) bytes =
    HaveSameTables bytes (loaded_bytes (storage_in q))
    × AreSameBytes bytes (loaded_bytes (storage_in q)) 0 (cluster_length bytes)
    × HasFewTables permitted.tables bytes

-- a layer is that of a file, in the file's format
abbrev pub IsLayerOf : Permitted → Layer → File → Type 0
IsLayerOf permitted d f = IsFormatOf f (format_in d) × IsOver permitted d f.bytes

-- a qcow2 file names a file below it: a name without bytes is none
abbrev pub HasBacking : List ℕ → Type 0
HasBacking bytes = (0 < be64 bytes 8) × (0 < be32 bytes 16)

abbrev pub HasNoBacking : List ℕ → Type 0
HasNoBacking bytes = (be64 bytes 8 ≡ 0) ⊎ (be32 bytes 16 ≡ 0)

-- the name
abbrev pub backing_name : List ℕ → List ℕ
backing_name bytes = bytes_at bytes (be64 bytes 8) (be32 bytes 16)

-- a layer has a file below it: only qcow2 files name one
abbrev pub GoesDown : Layer → List ℕ → Type 0
GoesDown (Of.Raw r) bytes = ⊥
GoesDown (Of.Vmdk v) bytes = ⊥
GoesDown (Of.Cow c) bytes = ⊥
GoesDown (Of.Qcow2 q) bytes = HasBacking bytes

-- it has none
abbrev pub IsLowest : Layer → List ℕ → Type 0
IsLowest (Of.Raw r) bytes = Unit {0}
IsLowest (Of.Vmdk v) bytes = Unit {0}
IsLowest (Of.Cow c) bytes = Unit {0}
IsLowest (Of.Qcow2 q) bytes = HasNoBacking bytes

-- layers that are each that of a file, the top one first, and each have a file below
abbrev pub AreAbove : Permitted → (ℕ → File) → List Layer → Type 0
AreAbove permitted files [] = Unit {0}
AreAbove permitted files (d ∷ ds) =
    IsLayerOf permitted d (files 0) × GoesDown d (files 0).bytes
    × AreAbove permitted (λ (k : ℕ). files (suc k)) ds

abbrev mutual
  -- An image has a layer for each file, the top one first, down to one that names none below.
  pub AreLayersOf : Permitted → (ℕ → File) → FormatAccess Layer → Type 0
  AreLayersOf permitted files (FormatAccess' below inner) =
      IsLayerOf permitted inner (files 0)
      × AreBelow permitted (λ (k : ℕ). files (suc k)) inner (files 0).bytes below

  pub AreBelow : Permitted → (ℕ → File) → Layer → List ℕ → Held-FormatAccess-backing Layer → Type 0
  AreBelow permitted files inner bytes None' = IsLowest inner bytes
  AreBelow permitted files inner bytes (Some' k x) =
      GoesDown inner bytes × AreLayersOf permitted files x

abbrev mutual
  -- What a read of each offset gives of the disk that the files of an image say, whatever these
  -- hold: each says of an offset that a byte stands there, a zero, or what the next one says. Below
  -- the last one all is zero.
  pub described_value : (ℕ → File) → FormatAccess Layer → ℕ → Value
  described_value files (FormatAccess' below inner) p =
      shown (described_below (λ (k : ℕ). files (suc k)) below)
      (described_by inner (λ (k : ℕ). (files k).bytes) p)

  pub described_below : (ℕ → File) → Held-FormatAccess-backing Layer → ℕ → Value
  described_below files None' p = Byte 0
  described_below files (Some' k x) p = described_value files x p

-- the size that a descriptor's reading has
abbrev pub size_read : Result (List (Extent (List ℕ)) × ℕ) Error → ℕ
size_read (Ok disk) = disk.1
size_read (Err e) = 0

-- the size of the disk that a file says in the format of a layer
abbrev pub size_by : Layer → List ℕ → ℕ
size_by (Of.Raw r) bytes = length bytes
size_by (Of.Vmdk v) bytes = size_read (reading_of (accepted_in v) bytes)
size_by (Of.Cow c) bytes = 0
size_by (Of.Qcow2 q) bytes = disk_size bytes

-- the size of an image's disk is that of its top file's
abbrev pub described_size : (ℕ → File) → FormatAccess Layer → ℕ
described_size files x = size_by (driver x) (files 0).bytes

-- the name of the file of an extent, if it has one
abbrev pub file_name : Extent (List ℕ) → List (List ℕ)
file_name (Extent.Zero sectors) = []
file_name (Extent.NoAccess sectors) = []
file_name (Extent.Flat sectors name offset writable vmfs) = name ∷ []

-- the names of the files of a descriptor's extents, in order
abbrev pub names_read : Result (List (Extent (List ℕ)) × ℕ) Error → List (List ℕ)
names_read (Ok disk) = flat_map file_name disk.0
names_read (Err e) = []

-- the names of the files of a layer's extents: only a descriptor has some
abbrev pub extent_names : Layer → List ℕ → List (List ℕ)
extent_names (Of.Raw r) bytes = []
extent_names (Of.Vmdk v) bytes = names_read (reading_of (accepted_in v) bytes)
extent_names (Of.Cow c) bytes = []
extent_names (Of.Qcow2 q) bytes = []

abbrev mutual
  -- the names of the files of the extents of an image's lowest layer
  pub names_in : (ℕ → File) → FormatAccess Layer → List (List ℕ)
  names_in files (FormatAccess' below inner) =
      names_below (λ (k : ℕ). files (suc k)) (extent_names inner (files 0).bytes) below

  pub names_below :
      (ℕ → File) → List (List ℕ) → Held-FormatAccess-backing Layer → List (List ℕ)
  names_below files own None' = own
  names_below files own (Some' k x) = names_in files x

abbrev mutual
  -- how many layers an image has
  pub layers_in : FormatAccess Layer → ℕ
  layers_in (FormatAccess' below inner) = layers_below below + 1

  pub layers_below : Held-FormatAccess-backing Layer → ℕ
  layers_below None' = 0
  layers_below (Some' k x) = layers_in x
