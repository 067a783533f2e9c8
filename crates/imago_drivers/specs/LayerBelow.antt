-- SPDX-License-Identifier: MIT
use Rattle.std.specs.Prelude.{◌≡◌, ℕ, ◌+◌, ◌≤◌, Bool, true, false, Option, Some, None, refl}
use Rattle.std.specs.Borrow.{Bor}
use Rattle.imago_storage.specs.declared.error.Error.{Error}
use Rattle.imago_storage.specs.declared.error.Error.TheVariants as E
use Rattle.imago_drivers.specs.Place.{Value, Byte, Unreadable, IsIn}
use Rattle.imago_drivers.specs.Reasons.{Reasons, none}

-- The layer below as the driver above it sees it.
pub record LayerBelow : Type 1 where
  pub size : ℕ
  -- what a read of each offset gives
  pub at : ℕ → Value
  -- no device below fails
  pub is_reliable : Bool
  -- reads give these values; where it doesn't tell, any bytes
  pub tells_bytes : Bool
  -- a read of that range may be refused so, beside a failed device and want of memory
  pub cause : ℕ → ℕ → Error → Type 0
  -- a read of that range takes no memory
  pub no_memory : ℕ → ℕ → Type 0

-- no layer below, which is a layer of no size
abbrev pub no_layer : LayerBelow
no_layer = record {
  size = 0;
  at = λ _. Byte 0;
  is_reliable = true;
  tells_bytes = true;
  cause = λ _ _ _. ⊥;
  no_memory = λ _ _. Unit {0};
}

-- the layer that a call is lent, if any
abbrev pub lent : {B : Type 0} → (B → LayerBelow) → Option (Bor B) → LayerBelow
lent view None = no_layer
lent view (Some b) = view b.now

abbrev pub IsUnreadableIn : (ℕ → Value) → ℕ → ℕ → Error → Type 0
IsUnreadableIn at o n e = (p : ℕ) × IsIn o n p × (at p ≡ Unreadable e)

-- what a cause of a read comes from: invalid data and no access stand at a place that is read
abbrev pub ReadBound : (ℕ → Value) → ℕ → ℕ → Error → Type 0
ReadBound at o n E.WrapAround = Unit {0}
ReadBound at o n E.Unsupported = Unit {0}
ReadBound at o n E.InvalidData = IsUnreadableIn at o n Error.InvalidData
ReadBound at o n E.NoAccess = IsUnreadableIn at o n Error.NoAccess
ReadBound at o n _ = ⊥

-- What holds of each layer below: it is zero past its size, and a cause for a part of a range is
-- one for the whole.
pub record IsLayerBelow (l : LayerBelow) : Type 0 where
  pub past : (p : ℕ) → l.size ≤ p → l.at p ≡ Byte 0
  pub part : (o n q m : ℕ) (e : Error) → o ≤ q → q + m ≤ o + n → l.cause q m e → l.cause o n e
  pub bound : (o n : ℕ) (e : Error) → l.cause o n e → ReadBound l.at o n e

pub no_layer_lawful : IsLayerBelow no_layer
no_layer_lawful = record {
  past = λ p h. refl;
  part = λ o n q m e h k c. c;
  bound = λ o n e c. absurd c;
}

-- why a read of a layer below may be refused
abbrev pub below_reasons : LayerBelow → ℕ → ℕ → Reasons
below_reasons l o n = record none {
  cause = l.cause o n;
  device = l.is_reliable ≡ false;
  memory = l.no_memory o n → ⊥;
}
