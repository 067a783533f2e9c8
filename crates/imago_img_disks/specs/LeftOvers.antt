-- Which files aren't removed, replaced or written into: those of the image that is read.
-- SPDX-License-Identifier: MIT
use Rattle.std.specs.Prelude.{◌≡◌, ℕ, ◌<◌, true, false, List, Option, Some, None, IfSome}
use Rattle.imago_access.specs.declared.access.FormatAccess.{FormatAccess, FormatAccess'}
use Rattle.imago_access.specs.declared.access.FormatAccess.{Held-FormatAccess-backing, None', Some'}
use Rattle.imago_drivers.specs.View.{Stores, View}
use Rattle.imago_file.specs.Names.{path_beside}
use Rattle.imago_images.specs.declared.files.FileStatus.{FileStatus}
use Rattle.imago_images.specs.declared.opening.Opening.{Opening}
use Rattle.imago_images.specs.ImageFiles.{IsOutsideImage}
use Rattle.imago_images.specs.Way.{identity}
use Rattle.imago_disk.specs.Files.{is_one_file}
use Rattle.imago_words.specs.declared.command.Backing.{Backing}
use Rattle.imago_words.specs.declared.command.Create.{Create}
use Rattle.imago_img_files.specs.Files.{Around}
use Rattle.imago_img_files.specs.Openings.{how_by}

-- no storage of a driver has the path of a file as its name that is that one
abbrev pub AreElsewhere : Stores → (List ℕ → FileStatus) → ℕ × ℕ → Type 0
AreElsewhere stores status_of file = (i : ℕ) → i < stores.count
    → IfSome (stores.features i).filename
    (λ path. is_one_file (identity (status_of path)) file ≡ false)

abbrev mutual
  -- no storage of any layer of an image has
  pub IsElsewhere :
      {D St : Type 0} → (D → View St) → (List ℕ → FileStatus) → ℕ × ℕ → FormatAccess D → Type 0
  IsElsewhere view status_of file (FormatAccess' below inner) =
      AreElsewhere (view inner).stores status_of file × IsElsewhereBelow view status_of file below

  pub IsElsewhereBelow :
      {D St : Type 0} → (D → View St) → (List ℕ → FileStatus) → ℕ × ℕ
      → Held-FormatAccess-backing D → Type 0
  IsElsewhereBelow view status_of file None' = Unit {0}
  IsElsewhereBelow view status_of file (Some' k x) = IsElsewhere view status_of file x

-- the same of an image, if there is one
abbrev pub IsElsewhereIn :
    {D St : Type 0} → (D → View St) → (List ℕ → FileStatus) → ℕ × ℕ → Option (FormatAccess D)
    → Type 0
IsElsewhereIn view status_of file None = Unit {0}
IsElsewhereIn view status_of file (Some x) = IsElsewhere view status_of file x

-- The same of what a path leads to, where that is told.
abbrev pub IsElsewhereAt :
    {D St : Type 0} → (D → View St) → Option (List ℕ → FileStatus) → Option Around → List ℕ
    → FormatAccess D → Type 0
IsElsewhereAt view statuses around path x = IfSome around (λ a. a.there path ≡ true
    → IfSome statuses (λ status_of. IsElsewhere view status_of (identity (status_of path)) x))

-- A file is none of those of the image of a path, by its device and number, where it is told what
-- files have, and what they are.
abbrev pub IsNoSource :
    Opening → Option (List ℕ → List ℕ) → Option (List ℕ → FileStatus) → List ℕ → ℕ × ℕ → Type 0
IsNoSource how known statuses from file =
    IfSome known (λ files. IfSome statuses (λ status_of.
    IsOutsideImage how.accepted how.format files status_of from file))

-- What a path leads to, if it leads to something, is none of the files of the image of another one.
abbrev pub IsNoSourceAt :
    Opening → Option (List ℕ → List ℕ) → Option (List ℕ → FileStatus) → Option Around → List ℕ
    → List ℕ → Type 0
IsNoSourceAt how known statuses around from to = IfSome around (λ a. a.there to ≡ true
    → IfSome statuses (λ status_of. IsNoSource how known statuses from (identity (status_of to))))

-- what is told of files is as it was
abbrev pub IsUntouched :
    Option (List ℕ → FileStatus) → Option (List ℕ → FileStatus) → Option (List ℕ → List ℕ)
    → Option (List ℕ → List ℕ) → Option Around → Option Around → Type 0
IsUntouched statuses now old new before after =
    (now ≡ statuses) × (new ≡ old) × (after ≡ before)

-- The unfinished file of a path is none of the files of the image of another path, where it is told
-- what files have, what they are, and what the unfinished ones are.
abbrev pub IsApart :
    Opening → Option (List ℕ → List ℕ) → Option (List ℕ → FileStatus)
    → Option (List ℕ → FileStatus) → List ℕ → List ℕ → Type 0
IsApart how known statuses left_overs from to =
    IfSome left_overs (λ left_of. IsNoSource how known statuses from (identity (left_of to)))

-- A file is none of those of the image of the layer below a new one, if it has one.
abbrev pub IsNoSourceBelow :
    Create → Option Backing → Option (List ℕ → List ℕ) → Option (List ℕ → FileStatus) → ℕ × ℕ
    → Type 0
IsNoSourceBelow c None known statuses file = Unit {0}
IsNoSourceBelow c (Some b) known statuses file =
    IsNoSource (how_by (Some b.format) c.opening) known statuses
    (path_beside c.target.now b.file.now) file

-- what the path of a new image leads to is none of them
abbrev pub IsNoSourceAtBelow :
    Create → Option Backing → Option (List ℕ → List ℕ) → Option (List ℕ → FileStatus)
    → Option Around → Type 0
IsNoSourceAtBelow c None known statuses around = Unit {0}
IsNoSourceAtBelow c (Some b) known statuses around =
    IsNoSourceAt (how_by (Some b.format) c.opening) known statuses around
    (path_beside c.target.now b.file.now) c.target.now

-- the unfinished file of a new image's path is none of them
abbrev pub IsApartBelow :
    Create → Option Backing → Option (List ℕ → List ℕ) → Option (List ℕ → FileStatus)
    → Option (List ℕ → FileStatus) → Type 0
IsApartBelow c below known statuses left_overs =
    IfSome left_overs (λ left_of. IsNoSourceBelow c below known statuses
    (identity (left_of c.target.now)))
