-- What images that are opened by their paths show, by the bytes of their files.
-- SPDX-License-Identifier: MIT
use Rattle.std.specs.Prelude.{ℕ, true, List, None}
use Rattle.imago.specs.Place.{Value}
use Rattle.imago.specs.Disk.{IsPartOf}
use Rattle.imago.specs.DeclaredOpening.{Opening}
use Rattle.imago.specs.OtherFiles.TheVariants as Others
use Rattle.imago.specs.FileDisks.{ShowsDisk}

-- How an image is opened: as the format that its file is taken to have, with the files in its folder
-- and below, and without limits. A descriptor may contain all that can be read of one.
abbrev pub as_found : Opening
as_found = record {
  format = None;
  accepted = record { unknown_keys = true; vmfs = true };
  other_files = Others.InFolder;
  tables = None;
  longest = None;
}

-- the disk of the image of a path begins with these 512 bytes: where it is shorter, zeroes follow it
abbrev pub BeginsWith : (List ℕ → List ℕ) → List ℕ → List ℕ → Type 0
BeginsWith files path bytes =
    (disk : List Value) × ShowsDisk as_found files path disk × IsPartOf disk 0 512 bytes
