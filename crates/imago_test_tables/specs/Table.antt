-- SPDX-License-Identifier: MIT
use Rattle.std.specs.Prelude.{◌≡◌, ℕ, ◌+◌, ◌<◌, ◌≤◌, ◌⊎◌, Bool, true, false, List, length, Option}
use Rattle.std.specs.Prelude.{Some, None, slice_get, Result, IfOk, OnOk, OnErr}
use Rattle.imago_storage.specs.declared.error.Error.{Error}
use Rattle.imago_drivers.specs.Place.{IsIn}
use Rattle.imago_test_tables.specs.declared.table.Origin.{Origin}
use Rattle.imago_test_tables.specs.declared.table.Origin.TheVariants as O

-- the index of the storage that bytes of that origin stand in
abbrev pub index_of : Origin → Option ℕ
index_of O.First = Some 0
index_of O.Second = Some 1
index_of O.Zero = None
index_of O.Lower = None
index_of O.Barred = None

-- an entry that is there and not barred
abbrev pub IsClear : Option Origin → Type 0
IsClear None = ⊥
IsClear (Some O.First) = Unit {0}
IsClear (Some O.Second) = Unit {0}
IsClear (Some O.Zero) = Unit {0}
IsClear (Some O.Lower) = Unit {0}
IsClear (Some O.Barred) = ⊥

-- an entry is there, and stands in no storage, and isn't barred
abbrev pub is_free : Option Origin → Bool
is_free None = false
is_free (Some O.First) = false
is_free (Some O.Second) = false
is_free (Some O.Zero) = true
is_free (Some O.Lower) = true
is_free (Some O.Barred) = false

abbrev pub IsFree : Option Origin → Type 0
IsFree entry = is_free entry ≡ true

-- each entry of the range is there and not barred
abbrev pub AllClear : List Origin → ℕ → ℕ → Type 0
AllClear table o n = (p : ℕ) → IsIn o n p → IsClear (slice_get table p)

-- each of the n entries from o on is the one at o
abbrev pub IsOneKind : List Origin → ℕ → ℕ → Type 0
IsOneKind table o n = (p : ℕ) → IsIn o n p → slice_get table p ≡ slice_get table o

-- an entry of the range is barred
abbrev pub HasBarred : List Origin → ℕ → ℕ → Type 0
HasBarred table o n = (p : ℕ) × IsIn o n p × (slice_get table p ≡ Some Origin.Barred)

-- the table ends in the range
abbrev pub HasEnd : List Origin → ℕ → ℕ → Type 0
HasEnd table o n = (p : ℕ) × IsIn o n p × (slice_get table p ≡ None)

-- The n entries from o on became that one, and no other changed.
pub record IsFilled (o n : ℕ) (origin : Origin) (old new : List Origin) : Type 0 where
  pub len : length new ≡ length old
  pub inside : (p : ℕ) → IsIn o n p → slice_get new p ≡ Some origin
  pub before : (p : ℕ) → p < o → slice_get new p ≡ slice_get old p
  pub behind : (p : ℕ) → o + n ≤ p → slice_get new p ≡ slice_get old p

-- Some of the n entries from o on became that one, and nothing else changed.
pub record IsPartlyFilled (o n : ℕ) (origin : Origin) (old new : List Origin) : Type 0 where
  pub len : length new ≡ length old
  pub each : (p : ℕ) → (slice_get new p ≡ slice_get old p)
      ⊎ (IsIn o n p × (slice_get new p ≡ Some origin))

-- The entries of the range are left to the layer below, and the range is answered; refused, some of
-- them are.
pub record IsLeftBelow (o n : ℕ) (old new : List Origin) (result : Result (ℕ × ℕ) Error) : Type 0
  where
    pub answered : IfOk result (λ r. (r.0 ≡ o) × (r.1 ≡ n))
    pub filled : OnOk result (IsFilled o n Origin.Lower old new)
    pub torn : OnErr result (IsPartlyFilled o n Origin.Lower old new)

-- The table has that many entries: the old ones, and behind them only that one.
pub record IsGrownTable (size : ℕ) (origin : Origin) (old new : List Origin) : Type 0 where
  pub len : length new ≡ size
  pub kept : (p : ℕ) → p < length old → slice_get new p ≡ slice_get old p
  pub added : (p : ℕ) → length old ≤ p → p < size → slice_get new p ≡ Some origin
