-- How the images that a command line names are opened, and what tells that a disk is too long.
-- SPDX-License-Identifier: MIT
use Rattle.std.specs.Prelude.{◌≡◌, ℕ, ◌^◌, Bool, true, false, not, List, Option, Some, option_map}
use Rattle.std.specs.Prelude.{length, unwrap_or}
use Rattle.imago_storage.specs.Bytes.{bytes_at}
use Rattle.imago_vmdk.specs.declared.line.Accepted.{Accepted}
use Rattle.imago_words.specs.declared.command.Opening as Said
use Rattle.imago_words.specs.declared.format.Format.{Format}
use Rattle.imago_words.specs.declared.format.Format.TheVariants as Named
use Rattle.imago_images.specs.declared.failure.Reason.{Reason}
use Rattle.imago_images.specs.declared.format.ImageFormat.{ImageFormat}
use Rattle.imago_images.specs.declared.format.ImageFormat.TheVariants.{Raw, Vmdk, Qcow2}
use Rattle.imago_images.specs.declared.opening.Opening.{Opening}
use Rattle.imago_images.specs.declared.opening.OtherFiles.{OtherFiles}
use Rattle.imago_images.specs.declared.opening.OtherFiles.TheVariants as Others
use Rattle.imago_images.specs.Longest.{IsTooLong}

-- How many bytes of memory the tables of an image may take, and the reference counts and the uses of
-- its clusters while it is checked: 256 MiB, if nothing else is said.
abbrev pub most_memory : Option ℕ → ℕ
most_memory said = unwrap_or said (2 ^ 28)

-- the format of that name
abbrev pub image_format : Format → ImageFormat
image_format Named.Raw = Raw
image_format Named.Vmdk = Vmdk
image_format Named.Qcow2 = Qcow2

-- which other files are opened: none, or all that an image names, or those in its folder
abbrev pub others_by : Bool → Bool → OtherFiles
others_by true outside = Others.None
others_by false true = Others.Any
others_by false false = Others.InFolder

-- How an image is opened, by its format, if it was said, and by what is said of all images of the
-- command. Its tables are limited, as the memory of a check is. No command writes to an image, and
-- all commands accept VMFS extents.
abbrev pub how_by : Option Format → Said.Opening → Opening
how_by format said = record {
  format = option_map image_format format;
  accepted = record { unknown_keys = not said.strict; vmfs = true };
  other_files = others_by said.alone said.allow_outside;
  tables = Some (most_memory said.tables);
  longest = said.max_size;
}

-- Two files of that format are alike in what the size of a disk is told by: the length of a raw
-- file, the length and the header of a qcow2 file, and all of a descriptor.
abbrev pub HasSameHead : ImageFormat → List ℕ → List ℕ → Type 0
HasSameHead Raw one other = length one ≡ length other
HasSameHead Vmdk one other = one ≡ other
HasSameHead Qcow2 one other =
    (length one ≡ length other) × (bytes_at one 0 112 ≡ bytes_at other 0 112)

-- That a disk is too long is told by this alone: files that are alike in it are refused alike,
-- whatever their tables and their data are.
abbrev pub TooLongByHead : Type 0
TooLongByHead = (longest : Option ℕ) (accepted : Accepted) (format : ImageFormat)
    (one other : List ℕ) (reason : Reason) → HasSameHead format one other
    → IsTooLong longest accepted format one reason
    → IsTooLong longest accepted format other reason
