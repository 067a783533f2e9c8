-- SPDX-License-Identifier: MIT
use Rattle.std.specs.Prelude.{◌≡◌, ℕ}
use Rattle.imago_drivers.specs.Place.{End}
use Rattle.imago_drivers.specs.Lengths.{AreNoShorter}
use Rattle.imago_drivers.specs.View.{View}
use Rattle.imago_drivers.specs.Frame.{IsKind}

-- What no call but a resize changes in the layer of an image: what its driver is good for, and its
-- size; no place becomes an end, and no storage becomes shorter.
pub record StaysFramed {St : Type 0} (old new : View St) : Type 0 where
  pub kind : IsKind old new
  pub size : new.size ≡ old.size
  pub ends : (p : ℕ) → new.place p ≡ End → old.place p ≡ End
  pub no_shorter : AreNoShorter old.stores new.stores
