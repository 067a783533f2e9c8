-- What the commands on whole disks do with them.
-- SPDX-License-Identifier: MIT
use Rattle.std.specs.Prelude.{◌≡◌, ◌≢◌, ℕ, ◌≤◌, ◌⊎◌, ◌&&◌, ◌==◌, Bool, true, false, not}
use Rattle.std.specs.Prelude.{List, [], ◌++◌, take, length, map, Option, Some, None, option_map}
use Rattle.std.specs.Prelude.{IfSome}
use Rattle.imago_drivers.specs.Place.{Value, Byte}
use Rattle.imago_copy.specs.Differences.{IsFirstDifferentValue}
use Rattle.imago_images.specs.declared.format.ImageFormat.{ImageFormat}
use Rattle.imago_images.specs.declared.opening.Opening.{Opening}
use Rattle.imago_images.specs.declared.format.ImageFormat.TheVariants.{Raw, Vmdk, Qcow2}
use Rattle.imago_images.specs.Formats.{format_by_name}
use Rattle.imago_images.specs.Gate.{folder_path}
use Rattle.imago_disk.specs.Shows.{ShowsDisk, HasDisk}
use Rattle.imago_img_files.specs.Files.{Around, with_file, IsMade, IsOverwritten}

-- the disk of the image of a path was put behind what was there before, where both are told
abbrev pub IsDiskAppended :
    Opening → Option (List ℕ → List ℕ) → List ℕ → Option (List ℕ) → Option (List ℕ) → Type 0
IsDiskAppended how None path old new = Unit {0}
IsDiskAppended how (Some files) path None new = Unit {0}
IsDiskAppended how (Some files) path (Some old) new =
    (disk : List ℕ) × HasDisk how files path disk × (new ≡ Some (old ++ disk))

-- the first bytes that the image of a path shows; or none, where it can't be read there
abbrev pub IsBegunDisk : Opening → (List ℕ → List ℕ) → List ℕ → List ℕ → Type 0
IsBegunDisk how files path bytes = (bytes ≡ [])
    ⊎ ((disk : List Value) × ShowsDisk how files path disk
    × (map Byte bytes ≡ take (length bytes) disk))

-- such bytes were put behind what was there before, where both are told
abbrev pub IsDiskPartlyAppended :
    Opening → Option (List ℕ → List ℕ) → List ℕ → Option (List ℕ) → Option (List ℕ) → Type 0
IsDiskPartlyAppended how None path old new = Unit {0}
IsDiskPartlyAppended how (Some files) path None new = Unit {0}
IsDiskPartlyAppended how (Some files) path (Some old) new =
    (bytes : List ℕ) × IsBegunDisk how files path bytes × (new ≡ Some (old ++ bytes))

-- The disk that the image of one path had was put over the file of another path, which has at least
-- as many bytes: what it has behind them, and all other files, are as they were, where that is
-- told.
abbrev pub IsConvertedOver :
    Opening → Option (List ℕ → List ℕ) → Option (List ℕ → List ℕ) → List ℕ → List ℕ → Type 0
IsConvertedOver how None new from to = Unit {0}
IsConvertedOver how (Some files) new from to =
    (disk : List ℕ) × HasDisk how files from disk
    × (length disk ≤ length (files to)) × IsOverwritten (Some files) new to (Some disk)

-- the first bytes of that disk were, or none
abbrev pub IsPartlyConvertedOver :
    Opening → Option (List ℕ → List ℕ) → Option (List ℕ → List ℕ) → List ℕ → List ℕ → Type 0
IsPartlyConvertedOver how None new from to = Unit {0}
IsPartlyConvertedOver how (Some files) new from to =
    (bytes : List ℕ) × IsBegunDisk how files from bytes
    × (length bytes ≤ length (files to)) × IsOverwritten (Some files) new to (Some bytes)

-- The file of one path now has the disk that the image of another path had, and all other files
-- have what they had, where that is told. Nothing else was made, and nothing is left unfinished;
-- unless it was to be replaced, nothing had that path.
abbrev pub IsConverted :
    Opening → Bool → Option (List ℕ → List ℕ) → Option (List ℕ → List ℕ) → Option Around
    → Option Around → List ℕ → List ℕ → Type 0
IsConverted how replace None new before after from to = Unit {0}
IsConverted how replace (Some files) new before after from to =
    (disk : List ℕ) × HasDisk how files from disk
    × IsMade (Some files) new to (Some disk) × (after ≡ option_map (with_file to) before)
    × (replace ≡ false → IfSome before (λ a. a.there to ≡ false))

-- The names of other files that an image of that format has stand for the same files under both of
-- its paths: a raw image has no such names, and others stand beside the image, in the folder that
-- its path names.
abbrev pub NamesStandAlike : List ℕ → List ℕ → ImageFormat → Type 0
NamesStandAlike first second Raw = Unit {0}
NamesStandAlike first second Vmdk = folder_path first ≡ folder_path second
NamesStandAlike first second Qcow2 = folder_path first ≡ folder_path second

-- The same is said of the formats of the files of two paths. Where nothing is said, their names say
-- the same.
abbrev pub AreSaidAlike :
    Option ImageFormat → Option ImageFormat → List ℕ → List ℕ → Type 0
AreSaidAlike None other first second =
    (other ≡ None) × (format_by_name first ≡ format_by_name second)
AreSaidAlike (Some said) other first second = other ≡ Some said

-- Two paths are those of one image, which has that format: they are the same, or the file of both
-- has the same bytes, and the names in it stand for the same files beside both.
abbrev pub ArePathsOfOne : (List ℕ → List ℕ) → List ℕ → List ℕ → ImageFormat → Type 0
ArePathsOfOne files first second format = (first ≡ second)
    ⊎ ((files first ≡ files second) × NamesStandAlike first second format)

-- the same opening, by what is said of the format of another image
abbrev pub opened_as : Opening → Option ImageFormat → Opening
opened_as how other = record how { format = other }

-- two disks have to have the same size, and haven't
abbrev pub is_left_out : Bool → ℕ → ℕ → Bool
is_left_out same_size size other_size = same_size && not (size == other_size)

-- What is found of the disks of the images of two paths: their sizes, and where they differ first,
-- which is left out where they have to have the same size, and haven't.
abbrev pub AreCompared :
    Opening → Option ImageFormat → Bool → (List ℕ → List ℕ) → List ℕ → List ℕ → ℕ → ℕ → Option ℕ
    → Type 0
AreCompared how other same_size files first second size other_size found =
    (x : List Value) × (y : List Value) × ShowsDisk how files first x
    × ShowsDisk (opened_as how other) files second y
    × (size ≡ length x) × (other_size ≡ length y)
    × (is_left_out same_size size other_size ≡ false → IsFirstDifferentValue x y found)

-- The disks of the images of two paths are the same, where all behind the end of the shorter one is
-- taken as 0; and they have the same size, if they have to.
abbrev pub AreAlike :
    Opening → Option ImageFormat → Bool → (List ℕ → List ℕ) → List ℕ → List ℕ → Type 0
AreAlike how other same_size files first second =
    (x : List Value) × (y : List Value) × ShowsDisk how files first x
    × ShowsDisk (opened_as how other) files second y
    × (same_size ≡ true → length x ≡ length y) × IsFirstDifferentValue x y None

-- There is an offset at which they differ first; or they have to have the same size, and haven't.
abbrev pub AreUnlike :
    Opening → Option ImageFormat → Bool → (List ℕ → List ℕ) → List ℕ → List ℕ → Type 0
AreUnlike how other same_size files first second =
    (x : List Value) × (y : List Value) × ShowsDisk how files first x
    × ShowsDisk (opened_as how other) files second y
    × (((at : ℕ) × IsFirstDifferentValue x y (Some at))
    ⊎ ((same_size ≡ true) × (length x ≢ length y)))
