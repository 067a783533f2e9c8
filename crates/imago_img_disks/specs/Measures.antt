-- What is measured, and what is told of it.
-- SPDX-License-Identifier: MIT
use Rattle.std.specs.Prelude.{◌≡◌, ℕ, ◌^◌, ◌++◌, ◌⊎◌, Bool, true, false, List, codes}
use Rattle.std.specs.Fmt.{decimal}
use Rattle.std.specs.Int.{next_multiple_of}
use Rattle.imago_drivers.specs.Place.{Value}
use Rattle.imago_access.specs.Disk.{value_at}
use Rattle.imago_words.specs.declared.command.Measure.{Measure}
use Rattle.imago_words.specs.declared.command.Measured.{Measured}
use Rattle.imago_words.specs.declared.command.Measured.TheVariants as M
use Rattle.imago_words.specs.declared.settings.NewFormat.{NewFormat}
use Rattle.imago_words.specs.declared.settings.NewFormat.TheVariants as New
use Rattle.imago_words.specs.declared.settings.Settings.{Settings}
use Rattle.imago_qcow2_new.specs.declared.layout.Layout.{Layout}
use Rattle.imago_qcow2_new.specs.Grown.{clusters_of_all, grown_length, IsTooLong}
use Rattle.imago_qcow2_new.specs.Layout.{IsLayoutOf, StoresNothing, StoresAll, file_length}
use Rattle.imago_qcow2_new.specs.Space.{StoresData}
use Rattle.imago_images.specs.declared.opening.Opening.{Opening}
use Rattle.imago_disk.specs.Shows.{HasSize, ShowsDisk}
use Rattle.imago_img_disks.specs.NewFiles.{format_by}
use Rattle.imago_img_files.specs.Openings.{how_by}
use Rattle.imago_img_files.specs.Printed.{is_json}

-- The length of a qcow2 file in which a whole disk was written: that of a file that can be made, or
-- the one to which it grows where it, or its table of reference counts, is too long for that.
abbrev pub IsFullLength : Settings → ℕ → ℕ → Type 0
IsFullLength settings size n =
    ((l : Layout) × IsLayoutOf (format_by settings) size l × (n ≡ file_length l))
    ⊎ ((n ≡ grown_length size (2 ^ settings.cluster_bits))
    × IsTooLong (clusters_of_all (next_multiple_of size 512) (2 ^ settings.cluster_bits))
    (2 ^ settings.cluster_bits))

-- what is stored in a file of those settings: all, if that is said, or else what else is so
abbrev pub IsStored : Settings → (Layout → Type 0) → Layout → Type 0
IsStored settings IsSo l =
    (settings.preallocated ≡ false → IsSo l) × (settings.preallocated ≡ true → StoresAll l)

-- Two lengths of a new file of that format, for a disk of so many bytes, of which that is stored: of
-- the one that is written, and of one in which the whole disk was written since. A raw file has the
-- disk's bytes, up to the next whole sector.
abbrev pub AreLengths : NewFormat → (Layout → Type 0) → ℕ → ℕ → ℕ → Type 0
AreLengths New.Raw IsSo size required full =
    (required ≡ next_multiple_of size 512) × (full ≡ next_multiple_of size 512)
AreLengths (New.Qcow2 settings) IsSo size required full =
    ((l : Layout) × IsLayoutOf (format_by settings) size l × IsStored settings IsSo l
    × (required ≡ file_length l)) × IsFullLength settings size full

-- clusters are stored that have a byte of an image's disk which isn't 0, and no others
abbrev pub StoresDataOf : Opening → (List ℕ → List ℕ) → List ℕ → Layout → Type 0
StoresDataOf how files path l =
    (disk : List Value) × ShowsDisk how files path disk × StoresData l.clusters (value_at disk)

-- The lengths of a new file of what is measured: the disk of an image, or one of so many bytes in
-- which nothing was written.
abbrev pub AreLengthsOf : Measure → Measured → (List ℕ → List ℕ) → ℕ → ℕ → Type 0
AreLengthsOf c (M.File file) files required full =
    (size : ℕ) × HasSize (how_by c.source_format c.opening) files file.now size
    × AreLengths c.target_format
    (StoresDataOf (how_by c.source_format c.opening) files file.now) size required full
AreLengthsOf c (M.Size size) files required full =
    AreLengths c.target_format StoresNothing size required full

-- two lengths in bytes as lines, or as a JSON object
abbrev pub lengths_text : Bool → ℕ → ℕ → List ℕ
lengths_text false required full = codes "required size: " ++ (decimal required ++
    (codes "\nfully allocated size: " ++ (decimal full ++ codes "\n")))
lengths_text true required full = codes "{\n    \"required\": " ++ (decimal required ++
    (codes ",\n    \"fully-allocated\": " ++ (decimal full ++ codes "\n}\n")))

-- this text tells the lengths of a new file of what is measured
abbrev pub IsMeasured : Measure → (List ℕ → List ℕ) → List ℕ → Type 0
IsMeasured c files text = (required : ℕ) × (full : ℕ) × AreLengthsOf c c.disk files required full
    × (text ≡ lengths_text (is_json c.output) required full)
