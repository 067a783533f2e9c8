-- SPDX-License-Identifier: MIT
use Rattle.std.specs.Prelude.{◌≡◌, ℕ, ◌+◌, ◌-◌, ◌⊎◌, Bool, List, min, Result, Ok, Err}
use Rattle.imago_storage.specs.declared.error.Error.{Error}
use Rattle.imago_drivers.specs.CallRelations.{Calls}
use Rattle.imago_drivers.specs.View.{View}
use Rattle.imago_drivers.specs.declared.mapping.ShallowMapping.{ShallowMapping}
use Rattle.imago_drivers.specs.declared.mapping.ShallowMapping.TheVariants as S
use Rattle.imago_access.specs.declared.access.FormatAccess.{FormatAccess, FormatAccess'}
use Rattle.imago_access.specs.declared.access.FormatAccess.{Held-FormatAccess-backing, None', Some'}
use Rattle.imago_access.specs.Chain.{driver, inside_part}
use Rattle.imago_access.specs.Ways.{IsBottom, part_length}
use Rattle.imago_access.specs.Performed.{Part, IsMadeInParts}

-- What a mapping or a read of an image asks of its layers' drivers. A relation of a driver's call
-- comes of that call alone: so a refusal that is told here is the answer of a layer that the range
-- reaches, on a piece of the range, by its own name.

-- the driver's own mapping of a range, no longer than the range
abbrev pub IsOwnMapping : {D St : Type 0} → Calls D St → D → ℕ → ℕ
    → Result (ShallowMapping × ℕ) Error → Type 0
IsOwnMapping its d o n (Ok r) = (k : ℕ) × its.mapped o n d (Ok (r.0, k)) × (r.1 ≡ min k n)
IsOwnMapping its d o n (Err e) = its.mapped o n d (Err e)

-- the driver maps the first c bytes of a range so: past its end, all of them
abbrev pub Maps : {D St : Type 0} → Calls D St → D → ℕ → ℕ → ShallowMapping → ℕ → Type 0
Maps its d o n m c = (k : ℕ) × its.mapped o n d (Ok (m, k)) × (c ≡ part_length m (min k n) n)

abbrev mutual
  -- The n bytes of an image from o on reach a layer, where its driver is asked for the m bytes from
  -- q on: the top one for all of them, and one further down for those that the driver above it was
  -- asked for and maps there.
  pub Reaches : {D St : Type 0} → Calls D St → FormatAccess D → ℕ → ℕ → FormatAccess D → ℕ → ℕ
      → Type 0
  Reaches its (FormatAccess' below inner) o n layer q m =
      ((layer ≡ FormatAccess' below inner) × (q ≡ o) × (m ≡ n))
      ⊎ ((p : ℕ) × (c : ℕ) × (w : Bool) × Maps its inner o n (S.Indirect p w) c
      × ReachesBelow its below p c layer q m)

  pub ReachesBelow : {D St : Type 0} → Calls D St → Held-FormatAccess-backing D → ℕ → ℕ
      → FormatAccess D → ℕ → ℕ → Type 0
  ReachesBelow its None' p c layer q m = ⊥
  ReachesBelow its (Some' k x) p c layer q m = Reaches its x p c layer q m

-- the mapping of a range is refused so by a layer that the range reaches
abbrev pub IsMapRefusal : {D St : Type 0} → Calls D St → FormatAccess D → ℕ → ℕ → Error → Type 0
IsMapRefusal {D} its x o n e = (layer : FormatAccess D) × (q : ℕ) × (m : ℕ)
    × Reaches its x o n layer q m × its.mapped q m (driver layer) (Err e)

-- the first c bytes of a range are what that layer's driver maps so, and lead no further
abbrev pub Lands : {D St : Type 0} → Calls D St → FormatAccess D → ℕ → ℕ → FormatAccess D
    → ShallowMapping → ℕ → Type 0
Lands its x o n layer s c = (q : ℕ) × (m : ℕ) × Reaches its x o n layer q m
    × Maps its (driver layer) q m s c × IsBottom s layer

-- the driver reads n bytes of what a mapping names: what stands in no storage and isn't special is
-- asked of nobody
abbrev pub IsNamedRead : {D St : Type 0} → Calls D St → D → ShallowMapping → ℕ → Result Unit Error
    → Type 0
IsNamedRead its d (S.Raw storage offset writable) n result = its.read storage offset n d result
IsNamedRead its d (S.Special offset) n result = its.read_special offset n d result
IsNamedRead its d S.Eof n result = result ≡ Ok tt
IsNamedRead its d (S.Zero explicit) n result = result ≡ Ok tt
IsNamedRead its d (S.Indirect offset writable) n result = result ≡ Ok tt

-- The first bytes of a range are read where they land, as many as are answered. It is refused by
-- the mapping, or by the read there.
abbrev pub IsFirstRead : {D St : Type 0} → Calls D St → FormatAccess D → ℕ → ℕ → Result ℕ Error
    → Type 0
IsFirstRead {D} its x o n (Ok c) = (layer : FormatAccess D) × (s : ShallowMapping)
    × Lands its x o n layer s c × IsNamedRead its (driver layer) s c (Ok tt)
IsFirstRead {D} its x o n (Err e) =
    IsMapRefusal its x o n e
    ⊎ ((layer : FormatAccess D) × (s : ShallowMapping) × (c : ℕ) × Lands its x o n layer s c
    × IsNamedRead its (driver layer) s c (Err e))

-- what is behind the first c of n bytes is read, which changes nothing
abbrev pub rest_read : {D St : Type 0} → Calls D St → FormatAccess D → ℕ → ℕ → Part (Unit {0})
rest_read its x o n c old new result = IsFirstRead its x (o + c) (n - c) result

-- A read of a range is that of its bytes inside the disk, part after part.
abbrev pub IsReadBy : {D St : Type 0} → (D → View St) → Calls D St → FormatAccess D → ℕ → ℕ
    → Result Unit Error → Type 0
IsReadBy view its x o n result =
    let m = inside_part (view (driver x)).size o n in (parts : List ℕ)
    × IsMadeInParts (rest_read its x o m) m 0 parts tt tt result
