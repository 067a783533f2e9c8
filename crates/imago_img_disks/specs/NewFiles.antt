-- What the files have that commands make.
-- SPDX-License-Identifier: MIT
use Rattle.std.specs.Prelude.{◌≡◌, ℕ, Bool, true, false, List, Option, Some, None}
use Rattle.std.specs.Prelude.{IfSome, codes, length, option_map, replicate}
use Rattle.std.specs.Int.{next_multiple_of}
use Rattle.imago_drivers.specs.Place.{Value, Byte}
use Rattle.imago_access.specs.Disk.{value_at}
use Rattle.imago_words.specs.declared.command.Backing.{Backing}
use Rattle.imago_words.specs.declared.command.Create.{Create}
use Rattle.imago_words.specs.declared.format.Format as Named
use Rattle.imago_words.specs.declared.format.Format.TheVariants as N
use Rattle.imago_words.specs.declared.settings.NewFormat.{NewFormat}
use Rattle.imago_words.specs.declared.settings.NewFormat.TheVariants as New
use Rattle.imago_words.specs.declared.settings.Settings.{Settings}
use Rattle.imago_words.specs.declared.settings.Version as Said
use Rattle.imago_words.specs.declared.settings.Version.TheVariants as S
use Rattle.imago_qcow2_new.specs.declared.format.Format.{Format}
use Rattle.imago_qcow2_new.specs.declared.format.Gaps.TheVariants as G
use Rattle.imago_qcow2_new.specs.declared.format.Version.{Version}
use Rattle.imago_qcow2_new.specs.declared.format.Version.TheVariants as V
use Rattle.imago_qcow2_new.specs.declared.layout.Layout.{Layout}
use Rattle.imago_qcow2_new.specs.Layout.{IsLayoutOf, StoresNothing, StoresAll, size_of}
use Rattle.imago_qcow2_new.specs.Names.{HasNames, HasNoNames}
use Rattle.imago_qcow2_new.specs.Image.{IsNewFile}
use Rattle.imago_qcow2_new.specs.Space.{StoresData}
use Rattle.imago_images.specs.declared.opening.Opening.{Opening}
use Rattle.imago_file.specs.Names.{path_beside}
use Rattle.imago_disk.specs.Shows.{HasSize, IsImage, ShowsDisk}
use Rattle.imago_img_files.specs.Openings.{how_by}
use Rattle.imago_img_files.specs.Files.{Around, with_file, IsMade}

-- how a qcow2 file is made, by what the command line says of it
abbrev pub version_by : Said.Version → Version
version_by S.Two = V.Two
version_by S.Three = V.Three

abbrev pub format_by : Settings → Format
format_by s = record {
  version = version_by s.version;
  cluster_bits = s.cluster_bits;
  gaps = G.Absent;
}

-- Where everything stands in a new qcow2 file of a disk, with no layer below: clusters are stored
-- that have a byte which isn't 0, and no others, unless all are to be.
abbrev pub IsLayoutFor : Format → Bool → List Value → Layout → Type 0
IsLayoutFor format all disk l = IsLayoutOf format (length disk) l × HasNoNames l
    × (all ≡ false → StoresData l.clusters (value_at disk)) × (all ≡ true → StoresAll l)

-- the same of the disk that the image of a path has
abbrev pub IsLayoutForImage :
    Opening → List ℕ → Format → Bool → (List ℕ → List ℕ) → Layout → Type 0
IsLayoutForImage how from format all files l =
    (disk : List Value) × ShowsDisk how files from disk × IsLayoutFor format all disk l

-- A new qcow2 file of the disk that the image of a path has. By the definitions of its reader and of
-- its check its header has no fault; its disk is that one, with zeroes up to the next whole sector;
-- each of its clusters is used once, and has the reference count 1; and no entry of a table has a
-- fault. Each table is as small as it can be.
abbrev pub IsQcow2Copy :
    Opening → List ℕ → Format → Bool → (List ℕ → List ℕ) → List ℕ → Type 0
IsQcow2Copy how from format all files file =
    (disk : List Value) × ShowsDisk how files from disk
    × ((l : Layout) × IsLayoutFor format all disk l × IsNewFile l (value_at disk) file)

-- the same by a layout
abbrev pub IsCopyBy :
    Opening → List ℕ → Layout → (List ℕ → List ℕ) → List ℕ → Type 0
IsCopyBy how from l files file =
    (disk : List Value) × ShowsDisk how files from disk
    × (size_of l ≡ next_multiple_of (length disk) 512) × IsNewFile l (value_at disk) file

-- a target that was empty now has a file of that length of which something is so, where that is
-- told
abbrev pub IsFilledWith : (List ℕ → Type 0) → ℕ → Option (List ℕ) → Option (List ℕ) → Type 0
IsFilledWith IsSo count None new = Unit {0}
IsFilledWith IsSo count (Some old) new =
    (file : List ℕ) × (new ≡ Some file) × IsSo file × (length file ≡ count)

-- The file of a path has bytes now of which something is so, and all others have what they had,
-- where that is told. Nothing else was made, and nothing is left unfinished; unless it was to be
-- replaced, nothing had that path.
abbrev pub IsNewlyMade :
    ((List ℕ → List ℕ) → List ℕ → Type 0) → Bool → Option (List ℕ → List ℕ)
    → Option (List ℕ → List ℕ) → Option Around → Option Around → List ℕ → Type 0
IsNewlyMade IsSo replace None new before after to = Unit {0}
IsNewlyMade IsSo replace (Some files) new before after to =
    (file : List ℕ) × IsSo files file × IsMade (Some files) new to (Some file)
    × (after ≡ option_map (with_file to) before)
    × (replace ≡ false → IfSome before (λ a. a.there to ≡ false))

-- the name of a format
abbrev pub format_text : Named.Format → List ℕ
format_text N.Raw = codes "raw"
format_text N.Vmdk = codes "vmdk"
format_text N.Qcow2 = codes "qcow2"

-- a layout has the names of a layer below, or it has none
abbrev pub HasNamesBelow : Option Backing → Layout → Type 0
HasNamesBelow None l = HasNoNames l
HasNamesBelow (Some b) l = HasNames l b.file.now (format_text b.format)

-- A new file of a disk of so many bytes, in which nothing was written. A raw one has zeroes up to
-- the next whole sector. Of a qcow2 one all is so that is said of a copy of zeroes; nothing is
-- stored in it, so it shows its layer below, or all clusters are; and it names that one.
abbrev pub IsEmptyFile : NewFormat → Option Backing → ℕ → List ℕ → Type 0
IsEmptyFile New.Raw below size file = file ≡ replicate (next_multiple_of size 512) 0
IsEmptyFile (New.Qcow2 s) below size file =
    (l : Layout) × IsLayoutOf (format_by s) size l × HasNamesBelow below l
    × (s.preallocated ≡ false → StoresNothing l) × (s.preallocated ≡ true → StoresAll l)
    × IsNewFile l (λ _. Byte 0) file

-- the size that a new image is to have: the one that was said, or that of the layer below
abbrev pub IsSizeBelow : Create → Option Backing → (List ℕ → List ℕ) → ℕ → Type 0
IsSizeBelow c None files size = size ≡ 0
IsSizeBelow c (Some b) files size =
    HasSize (how_by (Some b.format) c.opening) files (path_beside c.target.now b.file.now) size

abbrev pub IsSizeBy : Create → Option ℕ → (List ℕ → List ℕ) → ℕ → Type 0
IsSizeBy c (Some said) files size = size ≡ said
IsSizeBy c None files size = IsSizeBelow c c.backing files size

abbrev pub IsSizeOf : Create → (List ℕ → List ℕ) → ℕ → Type 0
IsSizeOf c files size = IsSizeBy c c.size files size

-- the file that is to be the layer below is an image
abbrev pub IsAboveImage : Create → Option Backing → (List ℕ → List ℕ) → Type 0
IsAboveImage c None files = Unit {0}
IsAboveImage c (Some b) files =
    IsImage (how_by (Some b.format) c.opening) files (path_beside c.target.now b.file.now)

-- the size that a new image is to have, and what it is above
abbrev pub IsPlanned : Create → (List ℕ → List ℕ) → ℕ → Type 0
IsPlanned c files size = IsSizeOf c files size × IsAboveImage c c.backing files

-- the file of a new image, as the command line asks for it
abbrev pub IsNewImage : Create → (List ℕ → List ℕ) → List ℕ → Type 0
IsNewImage c files file =
    (size : ℕ) × IsPlanned c files size × IsEmptyFile c.format c.backing size file
