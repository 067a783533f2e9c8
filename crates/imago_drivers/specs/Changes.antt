-- SPDX-License-Identifier: MIT
use Rattle.std.specs.Prelude.{◌≡◌, ℕ, ◌+◌, ◌<◌, ◌≤◌, ◌⊎◌, Bool, true, List, slice_index}
use Rattle.std.specs.Prelude.{if◌then◌else◌}
use Rattle.imago_drivers.specs.Place.{Value, Byte}

-- how the k-th place of a range changes: its old value and its new one
abbrev pub Change : Type 1
Change = ℕ → Value → Value → Type 0

-- The n places from o on change so, and every other one has its old value.
pub record IsChanged (o n : ℕ) (how : Change) (old new : ℕ → Value) : Type 0 where
  pub inside : (k : ℕ) → k < n → how k (old (o + k)) (new (o + k))
  pub before : (p : ℕ) → p < o → new p ≡ old p
  pub behind : (p : ℕ) → o + n ≤ p → new p ≡ old p

-- into these bytes
abbrev pub into : List ℕ → Change
into bytes k v w = w ≡ Byte (slice_index bytes k)

-- into zeroes
abbrev pub zeroes : Change
zeroes k v w = w ≡ Byte 0

-- into whatever it may be
abbrev pub unspecified : Change
unspecified k v w = Unit {0}

-- as a success would, or not at all, for each place by itself
abbrev pub partly : Change → Change
partly how k v w = (w ≡ v) ⊎ how k v w

-- as a success, or, where the call was torn, left as it was
abbrev pub or_torn : Bool → Change → Change
or_torn torn how k v w = how k v w ⊎ ((torn ≡ true) × (w ≡ v))

-- a data mapping: nothing, or whatever it may be where it is for overwriting
abbrev pub overwritten : Bool → Change
overwritten overwrite k v w = (overwrite ≡ true) ⊎ (w ≡ v)

-- what an offset shows once it is given back to the layer below: zero for a driver that takes none
abbrev pub given_back : Bool → (ℕ → Value) → ℕ → Value
given_back takes_backing below p = if takes_backing then below p else Byte 0

-- as it was, or given back to the layer below
abbrev pub to_backing : Bool → (ℕ → Value) → ℕ → Change
to_backing takes_backing below o k v w = (w ≡ v) ⊎ (w ≡ given_back takes_backing below (o + k))
