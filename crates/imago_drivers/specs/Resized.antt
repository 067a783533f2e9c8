-- SPDX-License-Identifier: MIT
use Rattle.std.specs.Prelude.{◌≡◌, ℕ, ◌<◌, ◌≤◌, Bool, IsTrue, min, max}
use Rattle.imago_drivers.specs.Place.{Value, Byte, End, values, SamePlaces}
use Rattle.imago_drivers.specs.View.{View}
use Rattle.imago_drivers.specs.Lengths.{AreNoShorter}
use Rattle.imago_drivers.specs.Changes.{given_back}
use Rattle.imago_drivers.specs.Frame.{ReachesNoMore}
use Rattle.imago_drivers.specs.declared.format.PreallocateMode.{PreallocateMode}
use Rattle.imago_drivers.specs.declared.format.PreallocateMode.TheVariants as Mode

-- what a new place of a growth shows
abbrev pub grown_into : PreallocateMode → Bool → (ℕ → Value) → ℕ → Value → Type 0
grown_into Mode.None takes_backing below p w = Unit {0}
grown_into Mode.Zero takes_backing below p w = w ≡ Byte 0
grown_into Mode.FormatAllocate takes_backing below p w = w ≡ given_back takes_backing below p
grown_into Mode.FullAllocate takes_backing below p w = w ≡ given_back takes_backing below p
grown_into Mode.WriteData takes_backing below p w = w ≡ given_back takes_backing below p

-- Each place below the size is one: none is past the layer's list.
abbrev pub IsListed : {St : Type 0} → View St → Type 0
IsListed v = (p : ℕ) → p < v.size → v.place p ≡ End → ⊥

-- A growth: the size is the larger one, old places show what they showed, and new ones what the
-- mode says.
pub record IsGrown {St : Type 0} (mode : PreallocateMode) (told : Bool) (below : ℕ → Value)
    (new_size : ℕ) (old new : View St) : Type 0 where
  pub size : new.size ≡ max old.size new_size
  pub kept : IsTrue old.abilities.keeps_data → IsTrue told → (p : ℕ) → p < old.size
      → values below new.place p ≡ values below old.place p
  pub added : IsTrue old.abilities.keeps_data → IsTrue told → (p : ℕ) → old.size ≤ p → p < new_size
      → grown_into mode old.abilities.takes_backing below p (values below new.place p)
  -- no place becomes an end, and a list as long as the disk stays so
  pub ends : (p : ℕ) → p < old.size → new.place p ≡ End → old.place p ≡ End
  pub listed : IsListed old → IsListed new

-- A cut: the size is the smaller one, and the places below it show what they showed.
pub record IsCut {St : Type 0} (new_size : ℕ) (old new : View St) : Type 0 where
  pub size : new.size ≡ min old.size new_size
  pub kept : IsTrue old.abilities.keeps_data → (below : ℕ → Value) (p : ℕ) → p < new.size
      → values below new.place p ≡ values below old.place p
  pub ends : (p : ℕ) → p < new.size → new.place p ≡ End → old.place p ≡ End

-- A refused resize left everything, and cut no storage.
pub record IsSameDisk {St : Type 0} (old new : View St) : Type 0 where
  pub size : new.size ≡ old.size
  pub places : SamePlaces old.abilities.keeps_data old.place new.place
  pub reaches : ReachesNoMore old new
  pub ends : (p : ℕ) → new.place p ≡ End → old.place p ≡ End
  pub no_shorter : AreNoShorter old.stores new.stores
