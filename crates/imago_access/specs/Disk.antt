-- The disk of an image as one flat list, and what each call does to it.
-- SPDX-License-Identifier: MIT

use Rattle.std.specs.Prelude.{◌≡◌, ℕ, ◌+◌, ◌-◌, ◌<◌, ◌≤◌, ◌⊎◌, ◌↔◌, Bool, true, false, List, ◌++◌}
use Rattle.std.specs.Prelude.{length, take, drop, map, replicate, slice_index, get_or, Result}
use Rattle.std.specs.Prelude.{IfOk, IfErr}
use Rattle.std.specs.List.{range_with_len}
use Rattle.imago_storage.specs.declared.error.Error.{Error}
use Rattle.imago_drivers.specs.declared.format.PreallocateMode.{PreallocateMode}
use Rattle.imago_drivers.specs.declared.format.PreallocateMode.TheVariants as Mode
use Rattle.imago_drivers.specs.Place.{Value, Byte, IsIn}
use Rattle.imago_drivers.specs.Changes.{IsChanged, into, partly, given_back}
use Rattle.imago_drivers.specs.View.{View}
use Rattle.imago_access.specs.declared.access.FormatAccess.{FormatAccess}
use Rattle.imago_access.specs.Chain.{driver, backing, disk_value, lent_image}
use Rattle.imago_access.specs.Sizes.{HasGrown, HasShrunk}

-- the n values from the offset o on, as a list
abbrev pub values_from : (ℕ → Value) → ℕ → ℕ → List Value
values_from f o n = map f (range_with_len o n)

-- the disk of an image, as a list: what a read of each offset gives
abbrev pub disk : {D St : Type 0} → (D → View St) → FormatAccess D → List Value
disk view x = values_from (disk_value view x) 0 (view (driver x)).size

-- what an offset of an image shows where it is left to the layers below: 0 for a driver that takes
-- none
abbrev pub backed_value : {D St : Type 0} → (D → View St) → FormatAccess D → ℕ → Value
backed_value view x = given_back (view (driver x)).abilities.takes_backing
    (lent_image view (backing x)).at

-- the value at an offset of the list, 0 past its end
abbrev pub value_at : List Value → ℕ → Value
value_at xs p = get_or xs p (Byte 0)

-- the list with these new ones from the offset on
abbrev pub splice : List Value → ℕ → List Value → List Value
splice xs at new = take at xs ++ new ++ drop (at + length new) xs

-- Each offset has the old value or the target's, and no value comes or goes. A target is the old
-- list with a range changed, so every value outside that range is as it was.
pub record OldOrNewValues (old target now : List Value) : Type 0 where
  pub each : (p : ℕ) → (value_at now p ≡ value_at old p) ⊎ (value_at now p ≡ value_at target p)
  pub same_length : length now ≡ length old

-- a changing call on a range is refused by a test, which changes nothing: the image is read-only,
-- or the range passes its end
abbrev pub IsTestRefusal : List Value → ℕ → ℕ → Error → Type 0
IsTestRefusal xs o n e = (e ≡ Error.ReadOnly) ⊎ (length xs < o + n)

-- the first refusal of a zero write or discard, which changes nothing: also of a range whose end is
-- no number of 64 bits
abbrev pub IsEndRefusal : List Value → ℕ → ℕ → Error → Type 0
IsEndRefusal xs o n e = (e ≡ Error.RangeOverflow) ⊎ IsTestRefusal xs o n e

-- the list with n zeroes from the offset on
abbrev pub zeroed : List Value → ℕ → ℕ → List Value
zeroed xs o n = splice xs o (map Byte (replicate n 0))

-- a zero write that succeeded: the range lies in the list, and zeroes are spliced in
abbrev pub IsZeroed : List Value → ℕ → ℕ → List Value → Type 0
IsZeroed xs o n ys = (o + n ≤ length xs) × (ys ≡ zeroed xs o n)

-- A refused zero write: each value of the range is the old one or zero, all others are the old
-- ones.
pub record IsPartlyZeroed (xs : List Value) (o n : ℕ) (e : Error) (ys : List Value) : Type 0 where
  pub old_or_zero : OldOrNewValues xs (zeroed xs o n) ys
  pub untouched : IsEndRefusal xs o n e → ys ≡ xs

-- Values of the range may be anything, all others are the old ones.
pub record IsUnspecifiedIn (xs : List Value) (o n : ℕ) (ys : List Value) : Type 0 where
  pub same_length : length ys ≡ length xs
  pub outside : (p : ℕ) → (p < o) ⊎ (o + n ≤ p) → value_at ys p ≡ value_at xs p

-- Values of the range may be those of the layers below, all others are the old ones.
pub record IsGivenBack (below : ℕ → Value) (xs : List Value) (o n : ℕ) (ys : List Value) : Type 0
  where
    pub same_length : length ys ≡ length xs
    pub each : (p : ℕ) → (value_at ys p ≡ value_at xs p) ⊎ (IsIn o n p × (value_at ys p ≡ below p))

-- what may be overwritten: values of the range may be anything, or none changes
abbrev pub IsOverwritten : Bool → List Value → ℕ → ℕ → List Value → Type 0
IsOverwritten true xs o n ys = IsUnspecifiedIn xs o n ys
IsOverwritten false xs o n ys = ys ≡ xs

-- the list with the first c of these bytes from the offset on
abbrev pub filled_in : List Value → ℕ → ℕ → List ℕ → List Value
filled_in xs o c bytes = splice xs o (map Byte (take c bytes))

-- A write through a mapping of which c values show: the bytes that fit are spliced in, and the rest
-- may be overwritten.
abbrev pub IsFilledIn : Bool → List Value → ℕ → ℕ → List ℕ → List Value → Type 0
IsFilledIn overwrite xs o c bytes ys = IsOverwritten overwrite (filled_in xs o c bytes)
    (o + length bytes) (c - length bytes) ys

-- The same, refused: each value that would be written is the old one or the new one, the others of
-- the range are the old ones or may be overwritten, and all others are the old ones.
pub record IsPartlyFilled (overwrite : Bool) (xs : List Value) (o n : ℕ) (bytes : List ℕ)
    (e : Error) (ys : List Value) : Type 0 where
  pub same_length : length ys ≡ length xs
  pub each : (p : ℕ) → (value_at ys p ≡ value_at xs p)
      ⊎ ((value_at ys p ≡ value_at (filled_in xs o n bytes) p)
      ⊎ ((overwrite ≡ true) × IsIn (o + length bytes) (n - length bytes) p))
  pub untouched : IsTestRefusal xs o n e → ys ≡ xs

-- a write that succeeded: the range lies in the list, and the bytes are spliced in
abbrev pub IsSpliced : List Value → ℕ → List ℕ → List Value → Type 0
IsSpliced xs o bytes ys = (o + length bytes ≤ length xs) × (ys ≡ splice xs o (map Byte bytes))

-- A refused write: each value of the range is the old one or the new one, all others are the old
-- ones.
pub record IsTorn (xs : List Value) (o : ℕ) (bytes : List ℕ) (e : Error) (ys : List Value) : Type 0
  where
    pub old_or_new : OldOrNewValues xs (splice xs o (map Byte bytes)) ys
    pub untouched : IsTestRefusal xs o (length bytes) e → ys ≡ xs

-- What a write does to the disk. Done, the bytes are spliced in; refused, each value of the range is
-- the old one or the new one, and all others are the old ones.
abbrev pub WritesDisk : List Value → ℕ → List ℕ → Result (Unit {0}) Error → List Value → Type 0
WritesDisk xs o bytes result ys = IfOk result (λ u. IsSpliced xs o bytes ys)
    × IfErr result (λ e. IsTorn xs o bytes e ys)

-- What a zero write, or a discard to zero, does to the disk. Done, zeroes are spliced in; refused,
-- each value of the range is the old one or zero, and all others are the old ones.
abbrev pub ZeroesDisk : List Value → ℕ → ℕ → Result (Unit {0}) Error → List Value → Type 0
ZeroesDisk xs o n result ys = IfOk result (λ u. IsZeroed xs o n ys)
    × IfErr result (λ e. IsPartlyZeroed xs o n e ys)

-- What another discard does to the disk: what it leaves is so, done and refused; and a refusal by
-- its tests changes nothing.
abbrev pub DiscardsOfDisk : List Value → ℕ → ℕ → Type 0 → Result (Unit {0}) Error → List Value
    → Type 0
DiscardsOfDisk xs o n left result ys = IfOk result (λ u. (o + n ≤ length xs) × left)
    × IfErr result (λ e. left × (IsEndRefusal xs o n e → ys ≡ xs))

-- the list, extended to n values: by zeroes, or by what the layers below have there
abbrev pub extended : PreallocateMode → (ℕ → Value) → ℕ → List Value → List Value
extended Mode.Zero below n xs = xs ++ replicate (n - length xs) (Byte 0)
extended mode below n xs = xs ++ values_from below (length xs) (n - length xs)

-- ys is such a list; what comes in without preallocation may be anything
abbrev pub IsExtended : PreallocateMode → (ℕ → Value) → ℕ → List Value → List Value → Type 0
IsExtended Mode.None below n xs ys = (added : List Value) × (length added ≡ n - length xs)
    × (ys ≡ xs ++ added)
IsExtended mode below n xs ys = ys ≡ extended mode below n xs

-- What a resize does to the disk: done, it is that list; refused, it is as it was.
abbrev pub ResizesDisk : List Value → Type 0 → Result (Unit {0}) Error → List Value → Type 0
ResizesDisk xs done result ys = IfOk result (λ u. done) × IfErr result (λ e. ys ≡ xs)

-- the data of a read are the part of the list at its offset, with zeroes past its end
abbrev pub IsPartOf : List Value → ℕ → ℕ → List ℕ → Type 0
IsPartOf xs o n bytes = (length bytes ≡ n)
    × ((k : ℕ) → k < n → value_at xs (o + k) ≡ Byte (slice_index bytes k))

-- A write to an image, offset by offset and as a list: the two say the same.
pub record IsSameWrite {D St : Type 0} (view : D → View St) (old : FormatAccess D) (o : ℕ)
    (bytes : List ℕ) (new : FormatAccess D) : Type 0 where
  pub written : IsChanged o (length bytes) (into bytes) (disk_value view old) (disk_value view new)
      ↔ (disk view new ≡ splice (disk view old) o (map Byte bytes))
  pub torn : IsChanged o (length bytes) (partly (into bytes)) (disk_value view old)
      (disk_value view new)
      ↔ OldOrNewValues (disk view old) (splice (disk view old) o (map Byte bytes)) (disk view new)

-- A resize of an image, offset by offset and as a list: the two say the same.
pub record IsSameResize {D St : Type 0} (view : D → View St) (old : FormatAccess D)
    (mode : PreallocateMode) (n : ℕ) (new : FormatAccess D) : Type 0 where
  pub cut : HasShrunk view n old new ↔ (disk view new ≡ take n (disk view old))
  pub growth : HasGrown view mode n old new ↔ IsExtended mode (backed_value view old) n
      (disk view old) (disk view new)
