-- Which files an image consists of: by the bytes of files, and as an opened image has them.
-- SPDX-License-Identifier: MIT
use Rattle.std.specs.Prelude.{◌≡◌, ℕ, ◌<◌, false, List, [], ◌∷◌, map, Option, Some, None, IfSome}
use Rattle.std.specs.Prelude.{Result, Ok, Err, length, slice_index_or}
use Rattle.imago_storage.specs.declared.error.Error.{Error}
use Rattle.imago_drivers.specs.View.{Stores, View}
use Rattle.imago_access.specs.declared.access.FormatAccess.{FormatAccess, FormatAccess'}
use Rattle.imago_access.specs.declared.access.FormatAccess.{Held-FormatAccess-backing, None', Some'}
use Rattle.imago_vmdk.specs.declared.line.Accepted.{Accepted}
use Rattle.imago_vmdk.specs.declared.line.Extent.{Extent}
use Rattle.imago_vmdk.specs.Reading.{reading_of}
use Rattle.imago_images.specs.declared.files.FileStatus.{FileStatus}
use Rattle.imago_images.specs.declared.format.ImageFormat.{ImageFormat}
use Rattle.imago_images.specs.declared.format.ImageFormat.TheVariants.{Raw, Vmdk, Qcow2}
use Rattle.imago_images.specs.Formats.{IsFormatBy, IsFormatBelow}
use Rattle.imago_images.specs.Images.{LeadsTo, extent_paths}
use Rattle.imago_images.specs.Way.{identity, is_among}

-- the extents that a descriptor describes, by what was read of it
abbrev pub extents_read : Result (List (Extent (List ℕ)) × ℕ) Error → List (Extent (List ℕ))
extents_read (Ok disk) = disk.0
extents_read (Err e) = []

-- The paths of a layer's files, by its format, and the path and the bytes of its own file: that one
-- alone, and of a VMDK layer those of its FLAT extents too, in order.
abbrev pub layer_paths : Accepted → ImageFormat → List ℕ → List ℕ → List (List ℕ)
layer_paths accepted Raw path bytes = path ∷ []
layer_paths accepted Qcow2 path bytes = path ∷ []
layer_paths accepted Vmdk path bytes =
    path ∷ extent_paths path (extents_read (reading_of accepted bytes))

-- the path of the file below a layer, by the same, if there is one: only a qcow2 file names one
abbrev pub NamesNext : ImageFormat → List ℕ → List ℕ → Option (List ℕ) → Type 0
NamesNext Raw path bytes next = next ≡ None
NamesNext Qcow2 path bytes next = LeadsTo bytes path next
NamesNext Vmdk path bytes next = next ≡ None

-- the files of a chain go on with those of the next path, or end
abbrev pub FilesGoOn : Option (List ℕ) → List (List (List ℕ)) → (List ℕ → Type 0) → Type 0
FilesGoOn None below rest = below ≡ []
FilesGoOn (Some next) below rest = rest next

-- The files of an image whose own file has that path and that format: the paths of those of each
-- layer, the top one first. Each lower file has the format that the one above it says, or else the
-- one that it is taken to have itself.
abbrev pub AreImageFiles :
    Accepted → (List ℕ → List ℕ) → List ℕ → ImageFormat → List (List (List ℕ)) → Type 0
AreImageFiles accepted files path format [] = ⊥
AreImageFiles accepted files path format (paths ∷ below) =
    (paths ≡ layer_paths accepted format path (files path))
    × ((next : Option (List ℕ)) × NamesNext format path (files path) next
    × FilesGoOn next below (λ p. (lower : ImageFormat)
    × IsFormatBelow (files path) p (files p) lower
    × AreImageFiles accepted files p lower below))

-- a driver has as many storages as these paths are, and in order each has its path as its name
abbrev pub AreNamed : Stores → List (List ℕ) → Type 0
AreNamed stores paths = (stores.count ≡ length paths)
    × ((i : ℕ) → i < length paths
    → (stores.features i).filename ≡ Some (slice_index_or paths i []))

abbrev mutual
  -- the storages of each layer of an image, the top one first, have these paths as names
  pub HasStorages :
      {D St : Type 0} → (D → View St) → FormatAccess D → List (List (List ℕ)) → Type 0
  HasStorages view (FormatAccess' below inner) [] = ⊥
  HasStorages view (FormatAccess' below inner) (paths ∷ rest) =
      AreNamed (view inner).stores paths × HasStoragesBelow view below rest

  pub HasStoragesBelow :
      {D St : Type 0} → (D → View St) → Held-FormatAccess-backing D → List (List (List ℕ)) → Type 0
  HasStoragesBelow view None' rest = rest ≡ []
  HasStoragesBelow view (Some' k x) rest = HasStorages view x rest

-- An opened image has the files of the image of a path, which has that format, and no others: each
-- of its storages has the path of one of them as its name.
abbrev pub HasFiles :
    {D St : Type 0} → (D → View St) → Accepted → (List ℕ → List ℕ) → List ℕ → ImageFormat
    → FormatAccess D → Type 0
HasFiles view accepted files path format x =
    (layers : List (List (List ℕ))) × AreImageFiles accepted files path format layers
    × HasStorages view x layers

-- a file is none of those of these paths, by its device and number
abbrev pub IsNoneOf : (List ℕ → FileStatus) → ℕ × ℕ → List (List (List ℕ)) → Type 0
IsNoneOf status_of file [] = Unit {0}
IsNoneOf status_of file (paths ∷ below) =
    (is_among (map (λ path. identity (status_of path)) paths) file ≡ false)
    × IsNoneOf status_of file below

-- A file is none of those of the image of a path, by its device and number: the image is opened as
-- the format that was said, or else as the one that its file is taken to have.
abbrev pub IsOutsideImage :
    Accepted → Option ImageFormat → (List ℕ → List ℕ) → (List ℕ → FileStatus) → List ℕ → ℕ × ℕ
    → Type 0
IsOutsideImage accepted said files status_of path file =
    (format : ImageFormat) × (layers : List (List (List ℕ))) × IsFormatBy said path (files path) format
    × AreImageFiles accepted files path format layers × IsNoneOf status_of file layers
