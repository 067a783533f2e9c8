-- What the image of a path shows, by what its file and the files below it have.
-- SPDX-License-Identifier: MIT
use Rattle.std.specs.Prelude.{◌≡◌, ℕ, List, map}
use Rattle.imago_drivers.specs.Place.{Place, Value, Byte}
use Rattle.imago_access.specs.Disk.{values_from}
use Rattle.imago_images.specs.declared.format.ImageFormat.{ImageFormat}
use Rattle.imago_images.specs.declared.opening.Opening.{Opening}
use Rattle.imago_images.specs.Formats.{IsFormatBy}
use Rattle.imago_images.specs.Images.{AreLayers}
use Rattle.imago_images.specs.Layers.{layers_value, size_by}

-- The image of a path shows these values, one for each offset of its disk: it is opened as the
-- format that was said, or else as the one that its file is taken to have, and its layers are what
-- its file and the files that this one leads to have, each of which is within the limits.
abbrev pub ShowsDisk : Opening → (List ℕ → List ℕ) → List ℕ → List Value → Type 0
ShowsDisk how files path disk =
    (format : ImageFormat) × (layers : List (ℕ → Place))
    × IsFormatBy how.format path (files path) format × AreLayers how files path format layers
    × (disk ≡ values_from (layers_value layers) 0 (size_by how.accepted format (files path)))

-- the same, where all values are bytes
abbrev pub HasDisk : Opening → (List ℕ → List ℕ) → List ℕ → List ℕ → Type 0
HasDisk how files path disk = ShowsDisk how files path (map Byte disk)

-- The file of a path is an image: it is opened as above, and its layers are what its files have.
abbrev pub IsImage : Opening → (List ℕ → List ℕ) → List ℕ → Type 0
IsImage how files path = (format : ImageFormat) × (layers : List (ℕ → Place))
    × IsFormatBy how.format path (files path) format × AreLayers how files path format layers

-- The size of the disk that the image of a path has, in bytes. The image is opened as above, and its
-- layers are what its files have.
abbrev pub HasSize : Opening → (List ℕ → List ℕ) → List ℕ → ℕ → Type 0
HasSize how files path size =
    (format : ImageFormat) × (layers : List (ℕ → Place))
    × IsFormatBy how.format path (files path) format × AreLayers how files path format layers
    × (size ≡ size_by how.accepted format (files path))
