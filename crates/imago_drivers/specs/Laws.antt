-- SPDX-License-Identifier: MIT
use Rattle.std.specs.Prelude.{◌≡◌, ◌≢◌, ℕ, ◌+◌, ◌<◌, ◌≤◌, ◌⊎◌, Bool, true, false, IsTrue, Some}
use Rattle.std.specs.Prelude.{slice_index}
use Rattle.std.proofs.Common.{ap}
use Rattle.imago_storage.specs.declared.error.Error.{Error}
use Rattle.imago_storage.specs.declared.error.Error.TheVariants as E
use Rattle.imago_drivers.specs.Operation.{Operation, Map, Read, Write, Zero, DiscardToZero}
use Rattle.imago_drivers.specs.Operation.{DiscardToAny, DiscardToBacking, Grow, Shrink, Flush}
use Rattle.imago_drivers.specs.Place.{Value, Byte, Unreadable, Place, Stored, Special, Lower}
use Rattle.imago_drivers.specs.Place.{Refused, End, IsIn, shown, own_values}
use Rattle.imago_drivers.specs.LayerBelow.{IsUnreadableIn}
use Rattle.imago_drivers.specs.View.{View}

-- The laws of a driver's places.
pub record IsLawful {St : Type 0} (v : View St) : Type 0 where
  -- a place after an end is an end, and nothing stands past the size
  pub ends : (p q : ℕ) → p ≤ q → v.place p ≡ End → v.place q ≡ End
  pub bounded : (p : ℕ) → v.size ≤ p → v.place p ≡ End
  -- a stored byte is that of the driver's storage there, and a special one what the driver gives
  -- there
  pub stored : (p b s o : ℕ) (w : Bool) → v.place p ≡ Stored b s o w → (s < v.stores.count)
      × (slice_index (v.stores.bytes s) o ≡ b)
  pub special : (p : ℕ) (b : Value) (o : ℕ) → v.place p ≡ Special b o → v.special o ≡ b
  -- special bytes that can't be read are invalid data
  pub faulty : (p o : ℕ) (e : Error) → v.place p ≡ Special (Unreadable e) o
      → e ≡ Error.InvalidData
  -- a place leads to the layer below only where the driver takes one
  pub lower : (p q : ℕ) (w : Bool) → v.place p ≡ Lower q w → v.abilities.takes_backing ≡ true
  -- no place shares the storage byte of a writable one
  pub own : (p q b c s o : ℕ) (w : Bool) → v.place p ≡ Stored b s o true
      → v.place q ≡ Stored c s o w → p ≡ q
  -- a place is refused as invalid data or as barred from access
  pub refused : (p : ℕ) (e : Error) → v.place p ≡ Refused e → (e ≡ Error.InvalidData)
      ⊎ (e ≡ Error.NoAccess)
  -- data that is kept is told
  pub told : IsTrue v.abilities.keeps_data → IsTrue v.abilities.tells_bytes
  pub granularity : v.abilities.zero_granularity ≢ Some 0
  pub blocks : v.abilities.block ≢ 0

-- a place of the range is refused so
abbrev pub IsRefusedIn : (ℕ → Place) → ℕ → ℕ → Error → Type 0
IsRefusedIn place o n e = (p : ℕ) × IsIn o n p × (place p ≡ Refused e)

-- it can't be read then, whatever is below
pub refused_unreadable : (place : ℕ → Place) (o n : ℕ) (e : Error) → IsRefusedIn place o n e
    → IsUnreadableIn (own_values place) o n e
refused_unreadable place o n e (p, inside, refused) =
    (p, inside, ap (shown (λ _. Byte 0)) refused)

-- an operation on that range may be one that the driver doesn't offer; a read only of special bytes
abbrev pub MayLack : Operation → (ℕ → Place) → ℕ → ℕ → Type 0
MayLack Map place o n = ⊥
MayLack Write place o n = ⊥
MayLack Flush place o n = ⊥
MayLack Read place o n = (p : ℕ) × IsIn o n p × ((b : Value) × (x : ℕ) × (place p ≡ Special b x))
MayLack Zero place o n = Unit {0}
MayLack DiscardToZero place o n = Unit {0}
MayLack DiscardToAny place o n = Unit {0}
MayLack DiscardToBacking place o n = Unit {0}
MayLack (Grow mode) place o n = Unit {0}
MayLack Shrink place o n = Unit {0}

-- what a driver's own cause comes from
abbrev pub CauseBound : {St : Type 0} → View St → Operation → ℕ → ℕ → Error → Type 0
CauseBound v op o n E.WrapAround = Unit {0}
CauseBound v op o n E.Unsupported = (v.abilities.offers op ≡ false) × MayLack op v.place o n
CauseBound v op o n E.InvalidData = IsUnreadableIn (own_values v.place) o n Error.InvalidData
CauseBound v op o n E.NoAccess = IsUnreadableIn (own_values v.place) o n Error.NoAccess
CauseBound v op o n _ = ⊥

-- The laws of a driver's causes: one for a part of a range is one for the whole, and the layer
-- below is copied only by a driver that takes one.
pub record AreCauses {St : Type 0} (v : View St) : Type 0 where
  pub part : (op : Operation) (o n q m : ℕ) (e : Error) → o ≤ q → q + m ≤ o + n
      → v.limits.cause op q m e → v.limits.cause op o n e
  pub part_copied : (op : Operation) (o n q m p : ℕ) → o ≤ q → q + m ≤ o + n
      → v.limits.copies op q m p → v.limits.copies op o n p
  pub bound : (op : Operation) (o n : ℕ) (e : Error) → v.limits.cause op o n e
      → CauseBound v op o n e
  pub lends : (op : Operation) (o n p : ℕ) → v.limits.copies op o n p → v.abilities.takes_backing
      ≡ true
