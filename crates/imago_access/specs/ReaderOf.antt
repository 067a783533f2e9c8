-- What is seen of a reader.
-- SPDX-License-Identifier: MIT
use Rattle.std.specs.Prelude.{◌≡◌, None}
use Rattle.imago_drivers.specs.View.{View}
use Rattle.imago_access.specs.declared.access.FormatAccess.{FormatAccess}
use Rattle.imago_access.specs.declared.reader.Reader.{Reader}
use Rattle.imago_access.specs.Kept.{IsBlockOf}

-- the image
abbrev pub image_of : {D : Type 0} → Reader D → FormatAccess D
image_of r = r.image.now

-- nothing is kept
abbrev pub KeepsNothing : {D : Type 0} → Reader D → Type 0
KeepsNothing r = r.kept ≡ None

-- what is kept is true of the image
abbrev pub IsKeeping : {D St : Type 0} → (D → View St) → Reader D → Type 0
IsKeeping view r = IsBlockOf view r.image.now r.kept r.room.items
