-- What a disk is to its callers: what it shows, and the image inside.
-- SPDX-License-Identifier: MIT
use Rattle.std.specs.Prelude.{Bool, List}
use Rattle.imago_drivers.specs.Place.{Value}
use Rattle.imago_drivers.specs.View.{View}
use Rattle.imago_access.specs.declared.access.FormatAccess.{FormatAccess}
use Rattle.imago_access.specs.Chain.{tells_bytes}
use Rattle.imago_access.specs.Disk.{disk}
use Rattle.imago_any_driver.specs.declared.any.AnyDriver.{AnyDriver}
use Rattle.imago_images.specs.declared.format.ImageFormat.{ImageFormat}
use Rattle.imago_disk.specs.declared.disk.Disk.{Disk}

module _ {S : Type 0} {g : _} {h : _} where
  -- the image inside
  abbrev pub image_of : Disk S g h → FormatAccess (AnyDriver S g h)
  image_of d = d.image

  -- the format of its own file
  abbrev pub format_of : Disk S g h → ImageFormat
  format_of d = d.format

  -- what each offset shows: a byte, or a refusal
  abbrev pub values : {St : Type 0} → (AnyDriver S g h → View St) → Disk S g h → List Value
  values view d = disk view d.image

  -- whether that is told: by files in memory, and not by the system's
  abbrev pub is_told : {St : Type 0} → (AnyDriver S g h → View St) → Disk S g h → Bool
  is_told view d = tells_bytes view d.image
