-- SPDX-License-Identifier: MIT
use Rattle.std.specs.Prelude.{◌≡◌, ℕ, ◌-◌, ◌^◌, ◌<◌, if◌then◌else◌, nat_eq, List, take, IsTrue}
use Rattle.imago_drivers.specs.Place.{Value, Byte, HasValues}
use Rattle.imago_drivers.specs.View.{View}
use Rattle.imago_access.specs.declared.access.FormatAccess.{FormatAccess, FormatAccess'}
use Rattle.imago_access.specs.declared.access.FormatAccess.{Held-FormatAccess-backing, None', Some'}
use Rattle.imago_access.specs.Chain.{driver, tells_bytes}

abbrev mutual
  -- what the driver of the layer that many layers below the top makes up at each offset
  pub special_at : {D St : Type 0} → (D → View St) → FormatAccess D → ℕ → ℕ → Value
  special_at view (FormatAccess' below inner) depth =
      if nat_eq depth 0 then (view inner).special else special_below view below (depth - 1)

  pub special_below : {D St : Type 0} → (D → View St) → Held-FormatAccess-backing D → ℕ → ℕ → Value
  special_below view None' depth = λ o. Byte 0
  special_below view (Some' k x) depth = special_at view x depth

-- That layer's driver makes up the special bytes at that depth of an image, and tells its bytes
-- where the image does. A depth that a mapping can't tell says nothing.
pub record MakesUp {D St : Type 0} (view : D → View St) (x : FormatAccess D) (depth : ℕ)
    (layer : FormatAccess D) : Type 0 where
  pub told : IsTrue (tells_bytes view x) → IsTrue (view (driver layer)).abilities.tells_bytes
  pub same : depth < 2 ^ 64 - 1 → (p : ℕ)
      → special_at view x depth p ≡ (view (driver layer)).special p

-- the buffer's first n bytes are the special bytes of that layer's driver from the offset on, where
-- the image tells its bytes
abbrev pub IsMade : {D St : Type 0} → (D → View St) → FormatAccess D → FormatAccess D → ℕ → ℕ
    → List ℕ → Type 0
IsMade view x layer o n buf = IsTrue (tells_bytes view x)
    → HasValues (view (driver layer)).special o (take n buf)
