-- SPDX-License-Identifier: MIT
use Rattle.std.specs.Prelude.{ℕ, ◌+◌, ◌<◌, ◌≤◌, ◌⊎◌}
use Rattle.imago_storage.specs.declared.error.Error.{Error}
use Rattle.imago_drivers.specs.Operation.{Operation, Map, Read, Write, Zero, DiscardToZero}
use Rattle.imago_drivers.specs.Operation.{DiscardToAny, DiscardToBacking, Grow, Shrink, Flush}
use Rattle.imago_drivers.specs.Place.{IsIn}
use Rattle.imago_drivers.specs.LayerBelow.{LayerBelow}

-- A driver's own causes: the refusals that an operation on a range may meet; for a resize the new
-- size and 0.
abbrev pub Causes : Type 1
Causes = Operation → ℕ → ℕ → Error → Type 0

-- which offsets of the layer below an operation on a range may read
abbrev pub Copies : Type 1
Copies = Operation → ℕ → ℕ → ℕ → Type 0

-- the causes of a call that is lent a layer: the driver's own, and those of a read of what the call
-- copies
abbrev pub CauseOver : Causes → Copies → LayerBelow → Operation → ℕ → ℕ → Error → Type 0
CauseOver cause copies l op o n e = cause op o n e
    ⊎ ((q : ℕ) × (m : ℕ) × (0 < m) × ((p : ℕ) → IsIn q m p → copies op o n p) × l.cause q m e)

-- The part of c bytes from o on is done: for any range that holds it, a cause for a part of that
-- range was one for it before.
pub record IsSettled (of : Operation → Type 0) (old new : Causes) (copies now_copies : Copies)
    (o c : ℕ) : Type 0 where
  pub causes : (op : Operation) (a n q m : ℕ) (e : Error) → of op → a ≤ o → o + c ≤ a + n → a ≤ q
      → q + m ≤ a + n → new op q m e → old op a n e
  pub copied : (op : Operation) (a n q m p : ℕ) → of op → a ≤ o → o + c ≤ a + n → a ≤ q
      → q + m ≤ a + n → now_copies op q m p → copies op a n p

-- the operation is one on a range of places: neither a resize nor a flush
abbrev pub IsOnRange : Operation → Type 0
IsOnRange Map = Unit {0}
IsOnRange Read = Unit {0}
IsOnRange Write = Unit {0}
IsOnRange Zero = Unit {0}
IsOnRange DiscardToZero = Unit {0}
IsOnRange DiscardToAny = Unit {0}
IsOnRange DiscardToBacking = Unit {0}
IsOnRange (Grow mode) = ⊥
IsOnRange Shrink = ⊥
IsOnRange Flush = ⊥

-- no cause comes in that was none before
pub record AddsNone (old new : Causes) (copies now_copies : Copies) : Type 0 where
  pub causes : (op : Operation) (o n : ℕ) (e : Error) → new op o n e → old op o n e
  pub copied : (op : Operation) (o n p : ℕ) → now_copies op o n p → copies op o n p
