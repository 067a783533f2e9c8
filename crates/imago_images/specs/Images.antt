-- What the image of a file is, layer by layer, by the bytes of the files.
-- SPDX-License-Identifier: MIT
use Rattle.std.specs.Prelude.{◌≡◌, ℕ, true, List, [], ◌∷◌, map, Option, Some, None}
use Rattle.std.specs.Prelude.{length, slice_index_or, Ok}
use Rattle.imago_drivers.specs.Place.{Place}
use Rattle.imago_drivers.specs.Raw.{raw_place}
use Rattle.imago_drivers.specs.View.{View}
use Rattle.imago_access.specs.declared.access.FormatAccess.{FormatAccess}
use Rattle.imago_access.specs.Chain.{driver}
use Rattle.imago_vmdk.specs.declared.line.Accepted.{Accepted}
use Rattle.imago_vmdk.specs.declared.line.Extent.{Extent}
use Rattle.imago_vmdk.specs.Reading.{reading_of}
use Rattle.imago_vmdk.specs.Disk.{described_place}
use Rattle.imago_qcow2.specs.Entry.{qcow2_place}
use Rattle.imago_file.specs.Names.{path_beside}
use Rattle.imago_images.specs.declared.format.ImageFormat.{ImageFormat}
use Rattle.imago_images.specs.declared.opening.Opening.{Opening}
use Rattle.imago_images.specs.declared.opening.OtherFiles.{OtherFiles}
use Rattle.imago_images.specs.declared.format.ImageFormat.TheVariants.{Raw, Vmdk, Qcow2}
use Rattle.imago_images.specs.Formats.{IsFormatBelow}
use Rattle.imago_images.specs.BackingNames.{file_named}
use Rattle.imago_images.specs.Extents.{flat_names}
use Rattle.imago_images.specs.Layers.{SaysBacking, size_by, IsDriverOf, ShowsLayers}
use Rattle.imago_images.specs.Layers.{NeverWrites}
use Rattle.imago_images.specs.Gate.{IsLetThrough, AreLetThrough}
use Rattle.imago_images.specs.Longest.{IsLimited}

-- The path of the file below a qcow2 file that has that path and these bytes, if there is one: the
-- name that they have stands for a file, which is taken beside the path.
abbrev pub LeadsTo : List ℕ → List ℕ → Option (List ℕ) → Type 0
LeadsTo bytes path None = SaysBacking bytes None
LeadsTo bytes path (Some next) = (name : List ℕ) × (file : List ℕ) × SaysBacking bytes (Some name)
    × (file_named name ≡ Some file) × (next ≡ path_beside path file)

-- the paths of the files that extents of these names stand in
abbrev pub extent_paths : List ℕ → List (Extent (List ℕ)) → List (List ℕ)
extent_paths path extents = map (path_beside path) (flat_names extents)

-- what the i-th of the files of these paths has
abbrev pub bytes_in : (List ℕ → List ℕ) → List (List ℕ) → ℕ → List ℕ
bytes_in files paths i = slice_index_or (map files paths) i []

-- A layer that the file of a path is, in that format: what stands at each offset of its disk, and
-- the path of the file below it, if there is one. Nothing is below a VMDK image, whose descriptor
-- names the files of its FLAT extents.
abbrev pub IsLayer :
    Accepted → OtherFiles → (List ℕ → List ℕ) → List ℕ → ImageFormat → (ℕ → Place) → Option (List ℕ)
    → Type 0
IsLayer accepted others files path Raw place next =
    (place ≡ raw_place (length (files path)) (files path)) × (next ≡ None)
IsLayer accepted others files path Qcow2 place next =
    (place ≡ qcow2_place (files path)) × LeadsTo (files path) path next
IsLayer accepted others files path Vmdk place next =
    (extents : List (Extent (List ℕ))) × (size : ℕ)
    × (reading_of accepted (files path) ≡ Ok (extents, size))
    × AreLetThrough others path (extent_paths path extents)
    × (place ≡ described_place accepted (bytes_in files (path ∷ extent_paths path extents)))
    × (next ≡ None)

-- A chain goes on with the file of the next path, and those below it, or ends.
abbrev pub GoesOn : Option (List ℕ) → List (ℕ → Place) → (List ℕ → Type 0) → Type 0
GoesOn None below rest = below ≡ []
GoesOn (Some next) below rest = rest next

-- The layers of an image whose file has that path and that format, the top one first, by how it is
-- opened. Each file is within the limits. Each lower one is let through by the one above it, and has
-- the format that this one says, or else the one that it is taken to have itself.
abbrev pub AreLayers :
    Opening → (List ℕ → List ℕ) → List ℕ → ImageFormat → List (ℕ → Place) → Type 0
AreLayers how files path format [] = ⊥
AreLayers how files path format (place ∷ below) =
    (next : Option (List ℕ))
    × IsLayer how.accepted how.other_files files path format place next
    × IsLimited how format (files path)
    × GoesOn next below (λ p. IsLetThrough how.other_files path p
    × ((lower : ImageFormat) × IsFormatBelow (files path) p (files p) lower
    × AreLayers how files p lower below))

-- a driver is that layer, and shows it
abbrev pub IsLayerOf :
    {D St : Type 0} → (D → View St) → Accepted → OtherFiles → (List ℕ → List ℕ) → List ℕ
    → ImageFormat → D → Option (List ℕ) → Type 0
IsLayerOf view accepted others files path format inner next =
    (place : ℕ → Place) × IsLayer accepted others files path format place next
    × IsDriverOf view (size_by accepted format (files path)) place inner

-- an image is that of the file of a path, which has that format: it shows the layers of the files
abbrev pub IsImageIn :
    {D St : Type 0} → (D → View St) → Opening → (List ℕ → List ℕ) → List ℕ → ImageFormat
    → FormatAccess D → Type 0
IsImageIn view how files path format x =
    (layers : List (ℕ → Place)) × AreLayers how files path format layers
    × ShowsLayers view x (size_by how.accepted format (files path)) layers

-- an image can be written to: its driver writes, and no prepared mapping waits there; and its first
-- storage is open for that
abbrev pub IsToWrite : {D St : Type 0} → (D → View St) → FormatAccess D → Type 0
IsToWrite view x = ((view (driver x)).abilities.is_writable ≡ true)
    × ((view (driver x)).pending ≡ None)
    × (((view (driver x)).stores.features 0).offers_resize ≡ true)

-- an image can't be written to
abbrev pub IsReadOnly : {D St : Type 0} → (D → View St) → FormatAccess D → Type 0
IsReadOnly view x = NeverWrites view (driver x)
