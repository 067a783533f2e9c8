-- What becomes of a raw image that gets another size.
-- SPDX-License-Identifier: MIT
use Rattle.std.specs.Prelude.{◌≡◌, ℕ, ◌+◌, ◌-◌, ◌<◌, ◌≤◌, false, List, Option, Some, None}
use Rattle.std.specs.Prelude.{IfSome, length, option_map}
use Rattle.std.specs.Int.{next_multiple_of}
use Rattle.imago_words.specs.declared.command.NewSize.{NewSize}
use Rattle.imago_words.specs.declared.command.NewSize.TheVariants as N
use Rattle.imago_words.specs.declared.command.Resize.{Resize}
use Rattle.imago_images.specs.declared.files.FileKind.TheVariants as Kind
use Rattle.imago_images.specs.declared.files.FileStatus.{FileStatus}
use Rattle.imago_images.specs.declared.format.ImageFormat.TheVariants.{Raw}
use Rattle.imago_images.specs.Formats.{IsFormatBy}
use Rattle.imago_img_files.specs.Files.{IsResized}
use Rattle.imago_img_files.specs.Openings.{image_format}

-- the size that a disk gets which has that size
abbrev pub size_after : NewSize → ℕ → ℕ
size_after (N.Said size) now = size
size_after (N.More more) now = now + more
size_after (N.Fewer fewer) now = now - fewer

-- what counts as the size of the disk of a raw file with that many bytes: whole sectors
abbrev pub raw_size : ℕ → ℕ
raw_size count = next_multiple_of count 512

-- The size that a raw image gets: the one that is asked for, and not 0. Unless its disk may become
-- smaller, it doesn't.
abbrev pub IsSizeAsked : Resize → ℕ → ℕ → Type 0
IsSizeAsked r now size = (size ≡ size_after r.size now) × (0 < size)
    × (r.shrink ≡ false → now ≤ size)

-- the same by the files that there are: the image's file is a raw one
abbrev pub IsNewSize : Resize → (List ℕ → List ℕ) → ℕ → Type 0
IsNewSize r files size =
    IsFormatBy (option_map image_format r.format) r.file.now (files r.file.now) Raw
    × IsSizeAsked r (raw_size (length (files r.file.now))) size

-- a path leads to a regular file, where that is told
abbrev pub IsRegular : Option (List ℕ → FileStatus) → List ℕ → Type 0
IsRegular statuses path = IfSome statuses (λ status_of. (status_of path).kind ≡ Kind.Regular)

-- The file of a raw image has such a length now: its bytes were cut there, or zeroes were put behind
-- them; all other files have what they had, where that is told.
abbrev pub IsImageResized :
    Resize → Option (List ℕ → List ℕ) → Option (List ℕ → List ℕ) → Type 0
IsImageResized r None new = Unit {0}
IsImageResized r (Some files) new = (size : ℕ) × IsNewSize r files size
    × IsResized (Some files) new r.file.now size
