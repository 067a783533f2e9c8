-- What a layer's file says of its disk's size and of the file below it, and what layers show.
-- SPDX-License-Identifier: MIT
use Rattle.std.specs.Prelude.{◌≡◌, ℕ, ◌<◌, ◌⊎◌, false, List, [], ◌∷◌, Option, Some, None}
use Rattle.std.specs.Prelude.{length, IsTrue}
use Rattle.imago_drivers.specs.Place.{Place, Value, Byte, shown}
use Rattle.imago_drivers.specs.View.{View}
use Rattle.imago_access.specs.declared.access.FormatAccess.{FormatAccess, FormatAccess'}
use Rattle.imago_access.specs.declared.access.FormatAccess.{Held-FormatAccess-backing, None', Some'}
use Rattle.imago_any_driver.specs.declared.any.AnyDriver.{AnyDriver}
use Rattle.imago_any_driver.specs.declared.any.AnyDriver.TheVariants as Driver
use Rattle.imago_qcow2.specs.Limit.{loaded_length, IsWithin}
use Rattle.imago_qcow2.specs.Qcow2Image.{loaded_in}
use Rattle.imago_access.specs.Chain.{driver, disk_value, tells_bytes}
use Rattle.imago_vmdk.specs.declared.line.Accepted.{Accepted}
use Rattle.imago_vmdk.specs.Reading.{reading_of}
use Rattle.imago_qcow2.specs.Numbers.{be32, be64}
use Rattle.imago_qcow2.specs.Entry.{disk_size}
use Rattle.imago_storage.specs.Bytes.{bytes_at}
use Rattle.imago_images.specs.declared.format.ImageFormat.{ImageFormat}
use Rattle.imago_images.specs.declared.format.ImageFormat.TheVariants.{Raw, Vmdk, Qcow2}
use Rattle.imago_images.specs.Extents.{size_read}

-- the name of the file below it that a qcow2 file has, if it has one: no bytes are no name
abbrev pub SaysBacking : List ℕ → Option (List ℕ) → Type 0
SaysBacking bytes None = (be64 bytes 8 ≡ 0) ⊎ (be32 bytes 16 ≡ 0)
SaysBacking bytes (Some name) =
    (0 < be64 bytes 8) × (0 < be32 bytes 16)
    × (name ≡ bytes_at bytes (be64 bytes 8) (be32 bytes 16))

-- what a read of each offset gives of the disk of layers, the top one first: below the last one all
-- is zero
abbrev pub layers_value : List (ℕ → Place) → ℕ → Value
layers_value [] p = Byte 0
layers_value (place ∷ below) p = shown (layers_value below) (place p)

-- the size of the disk that a layer's file has, in that format
abbrev pub size_by : Accepted → ImageFormat → List ℕ → ℕ
size_by accepted Raw bytes = length bytes
size_by accepted Qcow2 bytes = disk_size bytes
size_by accepted Vmdk bytes = size_read (reading_of accepted bytes)

-- a driver of a disk of that size tells its bytes, and has these places
abbrev pub IsDriverOf : {D St : Type 0} → (D → View St) → ℕ → (ℕ → Place) → D → Type 0
IsDriverOf view size place inner =
    ((view inner).size ≡ size) × IsTrue (view inner).abilities.tells_bytes
    × ((p : ℕ) → (view inner).place p ≡ place p)

-- an image tells its bytes, has a disk of that size, and shows these layers, the top one first
abbrev pub ShowsLayers :
    {D St : Type 0} → (D → View St) → FormatAccess D → ℕ → List (ℕ → Place) → Type 0
ShowsLayers view x size layers =
    IsTrue (tells_bytes view x) × ((view (driver x)).size ≡ size)
    × ((p : ℕ) → disk_value view x p ≡ layers_value layers p)

-- a driver doesn't write
abbrev pub NeverWrites : {D St : Type 0} → (D → View St) → D → Type 0
NeverWrites view inner = (view inner).abilities.is_writable ≡ false

-- how many bytes the tables have that a driver keeps in memory, of a qcow2 image
abbrev pub tables_in : {S : Type 0} {g : _} {h : _} → AnyDriver S g h → ℕ
tables_in (Driver.Qcow2 d) = loaded_length (loaded_in d)
tables_in _ = 0

abbrev mutual
  -- how many bytes the tables have of each layer of an image, the top one first
  pub tables_of : {D : Type 0} → (D → ℕ) → FormatAccess D → List ℕ
  tables_of tables (FormatAccess' below inner) = tables inner ∷ tables_below tables below

  pub tables_below : {D : Type 0} → (D → ℕ) → Held-FormatAccess-backing D → List ℕ
  tables_below tables None' = []
  tables_below tables (Some' k x) = tables_of tables x

-- each of these numbers is no more than a limit, where there is one
abbrev pub AreWithin : Option ℕ → List ℕ → Type 0
AreWithin most [] = Unit {0}
AreWithin most (n ∷ rest) = IsWithin most n × AreWithin most rest
