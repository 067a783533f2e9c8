-- SPDX-License-Identifier: MIT
use Rattle.std.specs.Prelude.{◌≡◌, ℕ, ◌+◌, ◌<◌, ◌≤◌, ◌⊎◌, Bool, true, false, List, [], ◌∷◌, length}
use Rattle.std.specs.Prelude.{take, drop, min, is_none, Result, Ok, Err}
use Rattle.imago_storage.specs.declared.error.Error.{Error}
use Rattle.imago_drivers.specs.declared.mapping.PreparedDataMapping.{PreparedDataMapping}
use Rattle.imago_drivers.specs.Operation.{Write}
use Rattle.imago_drivers.specs.LayerBelow.{LayerBelow}
use Rattle.imago_drivers.specs.CallRelations.{Calls}
use Rattle.imago_drivers.specs.declared.format.PreallocateMode.{PreallocateMode}
use Rattle.imago_drivers.specs.View.{View}
use Rattle.imago_access.specs.declared.access.FormatAccess.{FormatAccess}
use Rattle.imago_access.specs.Calls.{FailsTest}
use Rattle.imago_access.specs.Chain.{driver, backing, lent_image}

-- once its test passed, a growth of a smaller disk is one growth by the driver, of that size and
-- mode, over the layer below, and its answer
abbrev pub IsGrownBy : {D St : Type 0} → (D → View St) → Calls D St → ℕ → PreallocateMode
    → FormatAccess D → FormatAccess D → Result Unit Error → Type 0
IsGrownBy view its n mode old new result = (view (driver old)).abilities.is_writable ≡ true
    → (view (driver old)).size < n → its.grown n mode (lent_image view (backing old)) (driver old)
    (driver new) result

-- the same of a cut of a larger disk
abbrev pub IsCutBy : {D St : Type 0} → (D → View St) → Calls D St → ℕ → FormatAccess D
    → FormatAccess D → Result Unit Error → Type 0
IsCutBy view its n old new result = (view (driver old)).abilities.is_writable ≡ true
    → n < (view (driver old)).size → its.cut n (driver old) (driver new) result

-- a resize is one of them
pub record IsResizedBy {D St : Type 0} (view : D → View St) (its : Calls D St) (n : ℕ)
    (mode : PreallocateMode) (old new : FormatAccess D) (result : Result Unit Error) : Type 0 where
  pub cut : n < (view (driver old)).size → IsCutBy view its n old new result
  pub grown : (view (driver old)).size ≤ n → IsGrownBy view its n mode old new result

-- A mapping is prepared, and filled with what fits of the bytes. Where the filling is refused, the
-- mapping is cancelled.
abbrev pub IsFilledBy : {D St : Type 0} → Calls D St → LayerBelow → ℕ → ℕ → Bool → List ℕ → D → D
    → Result (PreparedDataMapping St) Error → Type 0
IsFilledBy {D} its l o n overwrite bytes old new (Ok m) = (mid : D)
    × its.prepared l o n overwrite old mid (Ok m)
    × its.filled m (take (min (length bytes) m.length) bytes) 0 mid new (Ok tt)
IsFilledBy {D} {St} its l o n overwrite bytes old new (Err e) = its.prepared l o n overwrite old new
    (Err e)
    ⊎ ((m : PreparedDataMapping St) × (mid : D) × (left : D)
    × its.prepared l o n overwrite old mid (Ok m)
    × its.filled m (take (min (length bytes) m.length) bytes) 0 mid left (Err e)
    × its.cancelled m left new)

-- One is filled, and is committed or cancelled then. The answer is its length, and whether it had
-- no state.
abbrev pub IsThroughBy : {D St : Type 0} → Calls D St → LayerBelow → ℕ → ℕ → Bool → List ℕ → Bool
    → D → D → Result (ℕ × Bool) Error → Type 0
IsThroughBy {D} {St} its l o n overwrite bytes true old new (Ok a) =
    (m : PreparedDataMapping St) × (mid : D) × IsFilledBy its l o n overwrite bytes old mid (Ok m)
    × its.committed m mid new (Ok tt) × (a.0 ≡ m.length) × (a.1 ≡ is_none m.state)
IsThroughBy {D} {St} its l o n overwrite bytes true old new (Err e) = IsFilledBy its l o n overwrite
    bytes old new (Err e)
    ⊎ ((m : PreparedDataMapping St) × (mid : D) × IsFilledBy its l o n overwrite bytes old mid
    (Ok m) × its.committed m mid new (Err e))
IsThroughBy {D} {St} its l o n overwrite bytes false old new (Ok a) =
    (m : PreparedDataMapping St) × (mid : D) × IsFilledBy its l o n overwrite bytes old mid (Ok m)
    × its.cancelled m mid new × (a.0 ≡ m.length) × (a.1 ≡ is_none m.state)
IsThroughBy its l o n overwrite bytes false old new (Err e) = IsFilledBy its l o n overwrite bytes
    old new (Err e)

-- The first of the bytes are written through a mapping, which is committed: as many as are
-- answered.
abbrev pub IsFirstBy : {D St : Type 0} → Calls D St → LayerBelow → ℕ → List ℕ → D → D
    → Result ℕ Error → Type 0
IsFirstBy its l o bytes old new (Ok n) = (stateless : Bool)
    × IsThroughBy its l o (length bytes) true bytes true old new (Ok (n, stateless))
IsFirstBy its l o bytes old new (Err e) = IsThroughBy its l o (length bytes) true bytes true old new
    (Err e)

-- what a call does of a whole behind its first c, and the part of it that it answers
abbrev pub Part : Type 0 → Type 1
Part D = ℕ → D → D → Result ℕ Error → Type 0

-- Calls for n, one after another, behind the first c: these are the parts that they answered, of
-- which none is 0. All succeed but the last, whose refusal is the answer; no call is made where
-- nothing is left.
abbrev pub IsMadeInParts : {D : Type 0} → Part D → ℕ → ℕ → List ℕ → D → D → Result Unit Error
    → Type 0
IsMadeInParts made n c [] old new result = ((n ≤ c) × (new ≡ old) × (result ≡ Ok tt))
    ⊎ ((c < n) × (e : Error) × made c old new (Err e) × (result ≡ Err e))
IsMadeInParts {D} made n c (m ∷ parts) old new result = (c < n) × (0 < m) × (mid : D)
    × made c old mid (Ok m) × IsMadeInParts made n (c + m) parts mid new result

-- the bytes behind the first c are written from o + c on
abbrev pub rest_by : {D St : Type 0} → Calls D St → LayerBelow → ℕ → List ℕ → Part D
rest_by its l o bytes c = IsFirstBy its l (o + c) (drop c bytes)

-- all of them are, mapping after mapping
abbrev pub AllWrittenBy : {D St : Type 0} → Calls D St → LayerBelow → ℕ → List ℕ → D → D
    → Result Unit Error → Type 0
AllWrittenBy its l o bytes old new result = (parts : List ℕ)
    × IsMadeInParts (rest_by its l o bytes) (length bytes) 0 parts old new result

-- that is made once the tests of a call on a range passed
abbrev pub OncePassed : {D St : Type 0} → (D → View St) → FormatAccess D → ℕ → ℕ → Type 0 → Type 0
OncePassed view x o n made = ((e : Error) → FailsTest (view (driver x)) Write o n e → ⊥) → made

-- a write, a write through one mapping, and a preparing are those of the driver, over the layer
-- below
abbrev pub IsWrittenBy : {D St : Type 0} → (D → View St) → Calls D St → FormatAccess D
    → FormatAccess D → ℕ → List ℕ → Result Unit Error → Type 0
IsWrittenBy view its old new o bytes result = OncePassed view old o (length bytes)
    (AllWrittenBy its (lent_image view (backing old)) o bytes (driver old) (driver new) result)

abbrev pub IsMappedBy : {D St : Type 0} → (D → View St) → Calls D St → FormatAccess D
    → FormatAccess D → ℕ → ℕ → Bool → List ℕ → Bool → Result (ℕ × Bool) Error → Type 0
IsMappedBy view its old new o n overwrite bytes commit result = OncePassed view old o n
    (IsThroughBy its (lent_image view (backing old)) o n overwrite bytes commit (driver old)
    (driver new) result)

abbrev pub IsPreparedBy : {D St : Type 0} → (D → View St) → Calls D St → FormatAccess D
    → FormatAccess D → ℕ → ℕ → Bool → Result (PreparedDataMapping St) Error → Type 0
IsPreparedBy view its old new o n overwrite result = OncePassed view old o n
    (its.prepared (lent_image view (backing old)) o n overwrite (driver old) (driver new) result)

abbrev pub IsEnsuredBy : {D St : Type 0} → (D → View St) → Calls D St → FormatAccess D
    → FormatAccess D → ℕ → ℕ → Bool → Result (ℕ × ℕ × ℕ) Error → Type 0
IsEnsuredBy view its old new o n overwrite result = OncePassed view old o n
    (its.ensured (lent_image view (backing old)) o n overwrite (driver old) (driver new) result)
