-- SPDX-License-Identifier: MIT
use Rattle.std.specs.Prelude.{◌≡◌, ℕ, ◌+◌, ◌<◌, ◌≤◌, Bool, true, IsTrue, List, length, slice_index}
use Rattle.imago_storage.specs.declared.error.Error.{Error}

-- what a read of an offset gives: a byte, or the refusal of it
pub data Value : Type 0 where
  Byte : ℕ → Value
  Unreadable : Error → Value

-- what stands at an offset of a layer
pub data Place : Type 0 where
  -- a byte that stands in a storage of the driver: the byte, the storage's index, the offset there,
  -- and whether it may be written there
  Stored : ℕ → ℕ → ℕ → Bool → Place
  -- a zero that stands in no storage, explicit or not
  Zeroed : Bool → Place
  -- what the driver makes up by itself, and the offset that it gives it at: a byte, or a refusal
  -- where what it would be made of is faulty
  Special : Value → ℕ → Place
  -- what the layer below has at that offset, and the mark of it
  Lower : ℕ → Bool → Place
  -- a place whose read is refused
  Refused : Error → Place
  -- past the layer's list of places
  End : Place

-- what a place shows over a layer below with these values
abbrev pub shown : (ℕ → Value) → Place → Value
shown below (Stored byte storage offset writable) = Byte byte
shown below (Zeroed explicit) = Byte 0
shown below (Special value offset) = value
shown below (Lower offset writable) = below offset
shown below (Refused e) = Unreadable e
shown below End = Byte 0

-- what each offset shows over a layer below with these values
abbrev pub values : (ℕ → Value) → (ℕ → Place) → ℕ → Value
values below place p = shown below (place p)

-- what each offset shows with nothing below
abbrev pub own_values : (ℕ → Place) → ℕ → Value
own_values place = values (λ _. Byte 0) place

-- p is one of the n offsets from o on
abbrev pub IsIn : ℕ → ℕ → ℕ → Type 0
IsIn o n p = (o ≤ p) × (p < o + n)

-- the buffer holds the values from the offset on
abbrev pub HasValues : (ℕ → Value) → ℕ → List ℕ → Type 0
HasValues at o buffer = (k : ℕ) → k < length buffer → at (o + k) ≡ Byte (slice_index buffer k)

-- the n bytes of that storage from the offset on are what stands at the places from o on
abbrev pub PlacesStandAt : (ℕ → Place) → ℕ → ℕ → ℕ → ℕ → Type 0
PlacesStandAt place storage offset n o = (i : ℕ) → i < n → (b : ℕ) × (w : Bool)
    × (place (o + i) ≡ Stored b storage (offset + i) w)

-- the n special bytes from the offset on are what stands at the places from o on
abbrev pub PlacesAreSpecialAt : (ℕ → Place) → ℕ → ℕ → ℕ → Type 0
PlacesAreSpecialAt place offset n o = (i : ℕ) → i < n → (v : Value)
    × (place (o + i) ≡ Special v (offset + i))

-- each of the n bytes of that storage from the offset on is a writable place's
abbrev pub BytesAreWritable : (ℕ → Place) → ℕ → ℕ → ℕ → Type 0
BytesAreWritable place storage offset n = (i : ℕ) → i < n → (p : ℕ) × (b : ℕ)
    × (place p ≡ Stored b storage (offset + i) true)

-- the places from o on are writable, and stand in that storage from the offset on
abbrev pub PlacesAreWritableAt : (ℕ → Place) → ℕ → ℕ → ℕ → ℕ → Type 0
PlacesAreWritableAt place storage offset n o = (i : ℕ) → i < n → (b : ℕ)
    × (place (o + i) ≡ Stored b storage (offset + i) true)

-- one of the n bytes of that storage from the offset on is no writable place's
abbrev pub HasStranger : (ℕ → Place) → ℕ → ℕ → ℕ → Type 0
HasStranger place storage offset n = (i : ℕ) × (i < n)
    × ((p b : ℕ) → place p ≡ Stored b storage (offset + i) true → ⊥)

-- Each stored place keeps where it stands and its mark; where the storages keep data, all places
-- are as they were.
pub record SamePlaces (keeps_data : Bool) (old new : ℕ → Place) : Type 0 where
  pub stored : (p b s f : ℕ) (w : Bool) → old p ≡ Stored b s f w → (c : ℕ)
      × (new p ≡ Stored c s f w)
  pub same : IsTrue keeps_data → (p : ℕ) → new p ≡ old p
