-- SPDX-License-Identifier: MIT
use Rattle.std.specs.Prelude.{◌≡◌, ℕ, Bool, None, Result}
use Rattle.imago_storage.specs.declared.error.Error.{Error}
use Rattle.imago_storage.specs.Faults.{CountsFaults}
use Rattle.imago_drivers.specs.Place.{Lower, End, SamePlaces}
use Rattle.imago_drivers.specs.View.{View, Stores}

-- What no call changes: what the driver is good for, how many storages it has, and what never
-- changes in each of them.
pub record IsKind {St : Type 0} (old new : View St) : Type 0 where
  pub abilities : new.abilities ≡ old.abilities
  pub store_count : new.stores.count ≡ old.stores.count
  pub store_features : (index : ℕ) → new.stores.features index ≡ old.stores.features index

-- What no call but a resize changes, whatever its storages keep: the size too, and no place becomes
-- an end.
pub record IsFramed {St : Type 0} (old new : View St) : Type 0 where
  pub kind : IsKind old new
  pub size : new.size ≡ old.size
  pub ends : (p : ℕ) → new.place p ≡ End → old.place p ≡ End

-- no place leads to the layer below that didn't lead there before
abbrev pub ReachesNoMore : {St : Type 0} → View St → View St → Type 0
ReachesNoMore old new = (p q : ℕ) (w : Bool) → new.place p ≡ Lower q w → (v : Bool)
    × (old.place p ≡ Lower q v)

-- The call changed no place: each one shows what it showed, and stands where it stood.
pub record IsUnchanged {St : Type 0} (old new : View St) : Type 0 where
  pub framed : IsFramed old new
  pub places : SamePlaces old.abilities.keeps_data old.place new.place
  pub reaches : ReachesNoMore old new

-- The call left nothing open: no place leads to the layer below that didn't lead there before, and
-- no prepared mapping waits.
pub record LeavesNothingOpen {St : Type 0} (old new : View St) : Type 0 where
  pub reaches : ReachesNoMore old new
  pub nothing_pending : new.pending ≡ None

-- What the call did to the storages, beside their bytes: how long they became, and how failures of
-- the device were counted.
pub record UsesStorages {T St : Type 0} (grow : Stores → Stores → Type 0) (is_reliable : Bool)
    (old new : View St) (result : Result T Error) : Type 0 where
  pub lengths : grow old.stores new.stores
  pub faults : CountsFaults is_reliable old.fault_count new.fault_count result
