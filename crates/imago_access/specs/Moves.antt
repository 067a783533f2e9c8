-- SPDX-License-Identifier: MIT
use Rattle.std.specs.Prelude.{◌≡◌, ℕ, ◌/◌, ◌⊎◌, Option, Some, None}
use Rattle.imago_drivers.specs.Operation.{Operation, Map, Read, Write, Zero, DiscardToZero}
use Rattle.imago_drivers.specs.Operation.{DiscardToAny, DiscardToBacking, Grow, Shrink, Flush}
use Rattle.imago_drivers.specs.Place.{IsIn}
use Rattle.imago_drivers.specs.Outside.{SharesBlock, StayBut}
use Rattle.imago_drivers.specs.View.{Abilities, View}

-- the operation makes zeroes: a zero write, or a discard to zero
abbrev pub MakesZeroes : Operation → Type 0
MakesZeroes Zero = Unit {0}
MakesZeroes DiscardToZero = Unit {0}
MakesZeroes DiscardToAny = ⊥
MakesZeroes DiscardToBacking = ⊥
MakesZeroes Map = ⊥
MakesZeroes Read = ⊥
MakesZeroes Write = ⊥
MakesZeroes (Grow mode) = ⊥
MakesZeroes Shrink = ⊥
MakesZeroes Flush = ⊥

-- p lies in one granule with one of the n offsets from o on; where there are no granules, nothing
-- does
abbrev pub SharesGranule : Option ℕ → ℕ → ℕ → ℕ → Type 0
SharesGranule None o n p = ⊥
SharesGranule (Some granule) o n p = SharesBlock granule o n p

-- An operation on the n offsets from o on may touch p: it is one of them, or, where zeroes are made
-- by a driver that has granules, lies in one granule with one of them.
abbrev pub IsTouched : Abilities → Operation → ℕ → ℕ → ℕ → Type 0
IsTouched a op o n p = IsIn o n p ⊎ (MakesZeroes op × SharesGranule a.zero_granularity o n p)

-- It may move where the byte at p stands: p lies in one block with an offset that it may touch.
abbrev pub MayMove : Abilities → Operation → ℕ → ℕ → ℕ → Type 0
MayMove a op o n p = (q : ℕ) × IsTouched a op o n q × (p / a.block ≡ q / a.block)

-- It moves no other: each place that it may not move keeps where it stands, and, where the storages
-- keep data, is the same.
abbrev pub MovesWithin : {St : Type 0} → Operation → ℕ → ℕ → View St → View St → Type 0
MovesWithin op o n old new =
    StayBut old.abilities.keeps_data (MayMove old.abilities op o n) old.place new.place
