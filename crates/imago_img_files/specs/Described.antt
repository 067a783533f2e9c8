-- What is so of the file of an image that was described.
-- SPDX-License-Identifier: MIT
use Rattle.std.specs.Prelude.{◌≡◌, ℕ, Bool, List, [], ◌∷◌, None, false, Ok}
use Rattle.imago_vmdk.specs.declared.line.Accepted.{Accepted}
use Rattle.imago_vmdk.specs.declared.line.Extent.{Extent}
use Rattle.imago_vmdk.specs.Reading.{reading_of}
use Rattle.imago_qcow2.specs.Header.{features_at, has_bit}
use Rattle.imago_images.specs.declared.format.ImageFormat.{ImageFormat}
use Rattle.imago_images.specs.declared.format.ImageFormat.TheVariants.{Raw, Vmdk, Qcow2}
use Rattle.imago_images.specs.declared.opening.Opening.{Opening}
use Rattle.imago_images.specs.declared.opening.OtherFiles.TheVariants as Others
use Rattle.imago_images.specs.Alone.{IsOfOneFormat}
use Rattle.imago_images.specs.Formats.{IsFormatBy}
use Rattle.imago_images.specs.Layers.{SaysBacking, size_by}
use Rattle.imago_images.specs.Longest.{IsNoLonger}
use Rattle.imago_img_files.specs.Printed.{TellsFormat}

-- A qcow2 file with these bytes names no other file: none below it, and none in which its data
-- stand, as bit 2 of the incompatible features would say.
pub record NamesNoFile (bytes : List ℕ) : Type 0 where
  pub below : SaysBacking bytes None
  pub no_data_file : has_bit (features_at bytes 72) 2 ≡ false

-- an extent stands in no file
abbrev pub HasNoFile : {N : Type 0} → Extent N → Type 0
HasNoFile (Extent.Zero sectors) = Unit {0}
HasNoFile (Extent.NoAccess sectors) = Unit {0}
HasNoFile (Extent.Flat sectors name offset writable vmfs) = ⊥

abbrev pub HaveNoFiles : {N : Type 0} → List (Extent N) → Type 0
HaveNoFiles [] = Unit {0}
HaveNoFiles (extent ∷ extents) = HasNoFile extent × HaveNoFiles extents

-- a descriptor with these bytes can be read, and names no file
abbrev pub NamesNoExtent : Accepted → List ℕ → Type 0
NamesNoExtent accepted bytes = (extents : List (Extent (List ℕ))) × (size : ℕ)
    × (reading_of accepted bytes ≡ Ok (extents, size)) × HaveNoFiles extents

-- an image of that format, whose file has these bytes, names no other file; any bytes are a raw disk
abbrev pub NamesNothing : Accepted → List ℕ → ImageFormat → Type 0
NamesNothing accepted bytes Raw = Unit {0}
NamesNothing accepted bytes Vmdk = NamesNoExtent accepted bytes
NamesNothing accepted bytes Qcow2 = NamesNoFile bytes

-- The file of a path with these bytes was found to be an image of that format, which is the one that
-- is said, or else the one that it is taken to have, with a disk of that size. The disk isn't longer
-- than is allowed. Where no other files are opened, it is of one format, and names no other file: also
-- one that can't be opened.
pub record IsReportOf (how : Opening) (path bytes : List ℕ) (format : ImageFormat) (size : ℕ)
    : Type 0 where
  pub is_format : IsFormatBy how.format path bytes format
  pub is_size : size ≡ size_by how.accepted format bytes
  pub one : IsOfOneFormat how.other_files how.format bytes
  pub longest : IsNoLonger how.longest how.accepted format bytes
  pub alone : how.other_files ≡ Others.None → NamesNothing how.accepted bytes format

-- This text describes the file of a path with these bytes, as lines or as JSON: it tells the format
-- and the size that were found.
pub record IsDescribed (how : Opening) (json : Bool) (path bytes text : List ℕ) : Type 0 where
  pub format : ImageFormat
  pub size : ℕ
  pub found : IsReportOf how path bytes format size
  pub told : TellsFormat json format size text
