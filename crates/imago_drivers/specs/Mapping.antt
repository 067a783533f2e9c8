-- SPDX-License-Identifier: MIT
use Rattle.std.specs.Prelude.{◌≡◌, ℕ, ◌+◌, ◌<◌, ◌⊎◌, ◌↔◌}
use Rattle.imago_storage.specs.declared.error.Error.{Error}
use Rattle.imago_drivers.specs.Place.{Value, Place, Stored, Zeroed, Special, Lower, Refused, End}
use Rattle.imago_drivers.specs.declared.mapping.ShallowMapping.{ShallowMapping}
use Rattle.imago_drivers.specs.declared.mapping.ShallowMapping.TheVariants as M

-- the mapping names that place as the i-th from where it was asked for
abbrev pub Names : ShallowMapping → ℕ → Place → Type 0
Names (M.Raw storage offset writable) i place = (b : ℕ)
    × (place ≡ Stored b storage (offset + i) writable)
Names (M.Indirect offset writable) i place = place ≡ Lower (offset + i) writable
Names (M.Zero explicit) i place = place ≡ Zeroed explicit
Names M.Eof i place = ⊥
Names (M.Special offset) i place = (v : Value) × (place ≡ Special v (offset + i))

abbrev pub IsEof : ShallowMapping → Type 0
IsEof M.Eof = Unit {0}
IsEof (M.Raw storage offset writable) = ⊥
IsEof (M.Indirect offset writable) = ⊥
IsEof (M.Zero explicit) = ⊥
IsEof (M.Special offset) = ⊥

-- A mapping of n bytes is the right answer at p, where at most so many were asked for.
pub record IsRight (place : ℕ → Place) (p most : ℕ) (m : ShallowMapping) (n : ℕ) : Type 0 where
  -- each of its places is what it names
  pub names : (i : ℕ) → i < n → Names m i (place (p + i))
  -- an empty one too names the place that it was asked for, unless that is an end
  pub first : (place p ≡ End → ⊥) → Names m 0 (place p)
  -- the end is answered exactly past the places
  pub eof : IsEof m ↔ (place p ≡ End)
  -- a refused place is answered by its refusal
  pub no_refusal : (e : Error) → place p ≡ Refused e → ⊥
  -- it is empty at the end or where nothing was asked for, alone
  pub empty : n ≡ 0 → (place p ≡ End) ⊎ (most ≡ 0)
