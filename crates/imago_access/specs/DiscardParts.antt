-- SPDX-License-Identifier: MIT
use Rattle.std.specs.Prelude.{◌≡◌, ℕ, ◌+◌, ◌-◌, ◌<◌, ◌⊎◌, List, [], ◌∷◌, Result, Ok, Err}
use Rattle.imago_storage.specs.declared.error.Error.{Error}
use Rattle.imago_drivers.specs.CallRelations.{Calls, OnRange}
use Rattle.imago_access.specs.declared.discard.DiscardCall.{DiscardCall}
use Rattle.imago_access.specs.declared.discard.DiscardCall.TheVariants as C

-- what that discard of the driver is
abbrev pub discard_by : {D St : Type 0} → Calls D St → DiscardCall → OnRange D
discard_by its C.ToAny = its.discarded_to_any
discard_by its C.ToBacking = its.discarded_to_backing

-- nothing is left of a range, so the driver isn't asked
abbrev pub HasNothingLeft : {D : Type 0} → ℕ → D → D → Result Unit Error → Type 0
HasNothingLeft n old new result = (n ≡ 0) × (new ≡ old) × (result ≡ Ok tt)

-- the driver is asked for the n bytes from o on, and does nothing more
abbrev pub DoesNoMore : {D : Type 0} → OnRange D → ℕ → ℕ → D → D → Result Unit Error → Type 0
DoesNoMore discard o n old new result = (q : ℕ) × discard o n old new (Ok (q, 0)) × (result ≡ Ok tt)

-- the driver is asked for them, and its refusal is passed on
abbrev pub IsRefusedBy : {D : Type 0} → OnRange D → ℕ → ℕ → D → D → Result Unit Error → Type 0
IsRefusedBy discard o n old new result = (e : Error) × discard o n old new (Err e)
    × (result ≡ Err e)

-- The driver's discards of what is left of the n bytes from o on, one after another: these are the
-- parts that it answered, of which none is empty, and what is left then begins behind each. Where
-- nothing is left, or the driver does nothing more, that is a success.
abbrev pub IsDiscardedInParts : {D : Type 0} → OnRange D → ℕ → ℕ → List (ℕ × ℕ) → D → D
    → Result Unit Error → Type 0
IsDiscardedInParts discard o n [] old new result = HasNothingLeft n old new result
    ⊎ ((0 < n) × (DoesNoMore discard o n old new result ⊎ IsRefusedBy discard o n old new result))
IsDiscardedInParts {D} discard o n ((q, m) ∷ parts) old new result = (0 < n) × (0 < m) × (mid : D)
    × discard o n old mid (Ok (q, m)) × IsDiscardedInParts discard (q + m) (o + n - (q + m)) parts
    mid new result
