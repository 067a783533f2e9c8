-- SPDX-License-Identifier: MIT
use Rattle.std.specs.Prelude.{◌≡◌, ℕ, ◌+◌, ◌-◌, ◌<◌, ◌≤◌, ◌⊎◌, true, List, [], ◌∷◌, length}
use Rattle.std.specs.Prelude.{slice_index, EachIndex, Option, Some, None, max, Result, Ok, Err}
use Rattle.std.specs.Prelude.{IfOk}
use Rattle.imago_storage.specs.declared.error.Error.{Error}
use Rattle.imago_drivers.specs.Reasons.{allowed}
use Rattle.imago_drivers.specs.Place.{Place, Zeroed, IsIn}
use Rattle.imago_drivers.specs.View.{View}
use Rattle.imago_drivers.specs.CallRelations.{Calls, Changing, OnRange}
use Rattle.imago_access.specs.declared.access.FormatAccess.{FormatAccess}
use Rattle.imago_access.specs.declared.mapping.Mapping.TheVariants as M
use Rattle.imago_access.specs.declared.zero.ZeroCall.{ZeroCall}
use Rattle.imago_access.specs.declared.zero.ZeroCall.TheVariants as Z
use Rattle.imago_access.specs.Chain.{driver, backing, lent_image}
use Rattle.imago_access.specs.Calls.{FailsTest}
use Rattle.imago_access.specs.Resolved.{IsResolved, chain_map_reasons}
use Rattle.imago_access.specs.Zeroing.{operation_of}
use Rattle.imago_access.specs.Answered.{IsMapRefusal}
use Rattle.imago_access.specs.Performed.{Part, IsMadeInParts, IsFirstBy}

-- a call of an image that is one call of its driver, and leaves the layers below as they are
abbrev pub OnDriver : {D T : Type 0} → Changing D T → Changing (FormatAccess D) T
OnDriver made old new result = made (driver old) (driver new) result × (backing new ≡ backing old)

-- what that zeroing call of the driver is
abbrev pub zero_by : {D St : Type 0} → Calls D St → ZeroCall → OnRange (FormatAccess D)
zero_by its Z.EnsureZero o n = OnDriver (its.zeroed o n)
zero_by its Z.DiscardToZero o n = OnDriver (its.discarded_to_zero o n)

-- A zero call from s to e that ends a list of them: it is refused, or does nothing. Nobody is told.
abbrev pub IsPassedOver : {X : Type 0} → OnRange X → ℕ → ℕ → X → X → Type 0
IsPassedOver zero s e old new = (result : Result (ℕ × ℕ) Error) × zero s (e - s) old new result
    × IfOk result (λ r. r.1 ≡ 0)

-- Zero calls of what is left from s to e, one after another: these are the parts that they
-- answered, of which none is empty, and what is left then begins behind each. There are no more
-- where nothing is left, or behind one that is passed over.
abbrev pub AreGranulesBy : {X : Type 0} → OnRange X → ℕ → ℕ → List (ℕ × ℕ) → X → X → Type 0
AreGranulesBy zero s e [] old new = ((e ≤ s) × (new ≡ old))
    ⊎ ((s < e) × IsPassedOver zero s e old new)
AreGranulesBy {X} zero s e ((q, m) ∷ parts) old new = (s < e) × (0 < m) × (mid : X)
    × zero s (e - s) old mid (Ok (q, m)) × AreGranulesBy zero (q + m) e parts mid new

-- q is p, rounded up or down to granules of g bytes: at most one of them is between
abbrev pub IsRoundedFrom : ℕ → ℕ → ℕ → Type 0
IsRoundedFrom g p q = (q ≤ p + g) × (p < q + g)

-- Where there are granules, what is from one to another is zeroed as far as that goes: they begin
-- and end where the range does, rounded. Where there are none, nothing is called.
abbrev pub TriesGranules : {X : Type 0} → OnRange X → Option ℕ → ℕ → ℕ → X → X → Type 0
TriesGranules zero None o n old new = new ≡ old
TriesGranules zero (Some g) o n old new = (s : ℕ) × (e : ℕ) × IsRoundedFrom g o s
    × IsRoundedFrom g (o + n) e × (parts : List (ℕ × ℕ)) × AreGranulesBy zero s e parts old new

-- a resolved mapping tells all: the first bytes are explicit zeroes, so many; or it is refused by a
-- layer that the range reaches, and so is what asked for it
abbrev pub IsToldByMapping : {D St : Type 0} → (D → View St) → Calls D St → FormatAccess D → ℕ → ℕ
    → Result ℕ Error → Type 0
IsToldByMapping view its x o n (Ok m) = IsResolved view x o n (M.Zero true) m
IsToldByMapping view its x o n (Err e) = allowed (chain_map_reasons view x o n) e
    × IsMapRefusal its x o (max n 1) e

-- some zeroes, at most n, are the bytes of one write of the driver, over the layer below
abbrev pub WritesZeroes : {D St : Type 0} → (D → View St) → Calls D St → ℕ → ℕ
    → Changing (FormatAccess D) ℕ
WritesZeroes view its o n old new result =
    (bytes : List ℕ) × (0 < length bytes) × (length bytes ≤ n)
    × EachIndex bytes (λ k. slice_index bytes k ≡ 0)
    × OnDriver (IsFirstBy its (lent_image view (backing old)) o bytes) old new result

-- the first of n bytes are zeroed as data: no call, where a mapping tells all, or one write of
-- zeroes
abbrev pub IsZeroPiece : {D St : Type 0} → (D → View St) → Calls D St → ℕ → ℕ
    → Changing (FormatAccess D) ℕ
IsZeroPiece view its o n old new result = ((new ≡ old) × IsToldByMapping view its old o n result)
    ⊎ WritesZeroes view its o n old new result

-- a part of a range from o on, behind its first c bytes, by what is made of a range
abbrev pub behind : {D : Type 0} → (ℕ → ℕ → Changing (FormatAccess D) ℕ) → ℕ → ℕ
    → Part (FormatAccess D)
behind made o n c = made (o + c) (n - c)

-- bytes that are all 0
abbrev pub AreNull : List ℕ → Type 0
AreNull bytes = EachIndex bytes (λ k. slice_index bytes k ≡ 0)

-- one of the n places from o on is no explicit zero
abbrev pub HasMoreThanZeroes : (ℕ → Place) → ℕ → ℕ → Type 0
HasMoreThanZeroes place o n = (p : ℕ) × IsIn o n p × (place p ≡ Zeroed true → ⊥)

-- there is no memory for zeroes that have to be written, and no call
abbrev pub LacksZeroes : {D St T : Type 0} → (D → View St) → ℕ → ℕ → Changing (FormatAccess D) T
LacksZeroes view o n old new result = (new ≡ old) × (result ≡ Err Error.Memory)
    × HasMoreThanZeroes (view (driver old)).place o n

-- A range is zeroed as data, piece after piece; or zeroes have to be written, and there is no
-- memory for them.
abbrev pub IsZeroedAsData : {D St : Type 0} → (D → View St) → Calls D St → ℕ → ℕ
    → Changing (FormatAccess D) Unit
IsZeroedAsData view its o n old new result = LacksZeroes view o n old new result
    ⊎ ((parts : List ℕ) × IsMadeInParts (behind (IsZeroPiece view its) o n) n 0 parts old new
    result)

-- What the driver's own call left of a range is zeroed: by granules as far as that goes, whose
-- refusal is told to nobody, then as data. There is no call where nothing is left.
abbrev pub IsGapZeroed : {D St : Type 0} → (D → View St) → Calls D St → ℕ → ℕ
    → Changing (FormatAccess D) Unit
IsGapZeroed {D} view its o n old new result = ((n ≡ 0) × (new ≡ old) × (result ≡ Ok tt))
    ⊎ ((0 < n) × (mid : FormatAccess D) × TriesGranules (zero_by its Z.EnsureZero)
    (view (driver old)).abilities.zero_granularity o n old mid
    × IsZeroedAsData view its o n mid new result)

-- What is left in front of the part r that the driver's call did, of n bytes from o on, and how
-- many are done with it: all of them are left, and done then, where that part is empty.
abbrev pub Leaves : ℕ → ℕ → ℕ × ℕ → ℕ → ℕ → Type 0
Leaves o n r gap done = ((r.1 ≡ 0) × (gap ≡ n) × (done ≡ n))
    ⊎ ((0 < r.1) × (gap ≡ r.0 - o) × (done ≡ r.0 - o + r.1))

-- The first of n bytes are zeroed: by the driver's own call on all of them, then what it left in
-- front of its part. The answer is the refusal of that call, behind which there is none, or that of
-- the gap.
abbrev pub IsNextZeroed : {D St : Type 0} → (D → View St) → Calls D St → ZeroCall → ℕ → ℕ
    → Changing (FormatAccess D) ℕ
IsNextZeroed {D} view its call o n old new (Ok k) =
    (r : ℕ × ℕ) × (gap : ℕ) × (mid : FormatAccess D) × zero_by its call o n old mid (Ok r)
    × Leaves o n r gap k × IsGapZeroed view its o gap mid new (Ok tt)
IsNextZeroed {D} view its call o n old new (Err e) = zero_by its call o n old new (Err e)
    ⊎ ((r : ℕ × ℕ) × (gap : ℕ) × (k : ℕ) × (mid : FormatAccess D)
    × zero_by its call o n old mid (Ok r) × Leaves o n r gap k
    × IsGapZeroed view its o gap mid new (Err e))

-- a range is zeroed, part after part
abbrev pub AllZeroedBy : {D St : Type 0} → (D → View St) → Calls D St → ZeroCall → ℕ → ℕ
    → Changing (FormatAccess D) Unit
AllZeroedBy view its call o n old new result = (parts : List ℕ)
    × IsMadeInParts (behind (IsNextZeroed view its call) o n) n 0 parts old new result

-- a zero write, or a discard to zero: once its tests passed it is that
abbrev pub IsZeroedBy : {D St : Type 0} → (D → View St) → Calls D St → ZeroCall → ℕ → ℕ
    → Changing (FormatAccess D) Unit
IsZeroedBy view its call o n old new result = ((e : Error)
    → FailsTest (view (driver old)) (operation_of call) o n e → ⊥)
    → AllZeroedBy view its call o n old new result
