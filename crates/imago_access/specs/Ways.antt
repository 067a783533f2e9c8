-- SPDX-License-Identifier: MIT
use Rattle.std.specs.Prelude.{◌≡◌, ℕ, ◌+◌, ◌<◌, ◌≤◌, ◌↔◌, ◌&&◌, Bool, false, None, nat_eq}
use Rattle.std.specs.Prelude.{if◌then◌else◌, IsTrue}
use Rattle.imago_storage.specs.declared.error.Error.{Error}
use Rattle.imago_drivers.specs.Operation.{Operation}
use Rattle.imago_drivers.specs.Place.{Place, Refused, End}
use Rattle.imago_drivers.specs.View.{View}
use Rattle.imago_drivers.specs.Mapping.{Names, IsEof}
use Rattle.imago_drivers.specs.declared.mapping.ShallowMapping.{ShallowMapping}
use Rattle.imago_drivers.specs.declared.mapping.ShallowMapping.TheVariants as S
use Rattle.imago_access.specs.declared.access.FormatAccess.{FormatAccess}
use Rattle.imago_access.specs.declared.chain.Way.{Way}
use Rattle.imago_access.specs.declared.mapping.Mapping.{Mapping}
use Rattle.imago_access.specs.Chain.{driver, backing, disk_value, is_reliable, tells_bytes, chain_cause}
use Rattle.imago_access.specs.Chain.{chain_no_memory, may_take_memory}
use Rattle.imago_access.specs.Specials.{special_at}
use Rattle.imago_access.specs.Target.{target, deeper, told_depth}

-- the mapping names that place as its i-th one, or it is the end
abbrev pub NamesOrEnds : ShallowMapping → ℕ → Place → Type 0
NamesOrEnds S.Eof i place = place ≡ End
NamesOrEnds (S.Raw storage offset writable) i place = Names (S.Raw storage offset writable) i place
NamesOrEnds (S.Indirect offset writable) i place = Names (S.Indirect offset writable) i place
NamesOrEnds (S.Zero explicit) i place = Names (S.Zero explicit) i place
NamesOrEnds (S.Special offset) i place = Names (S.Special offset) i place

-- A mapping of the first n bytes of a range of places, where the end goes on to the end of the
-- range.
pub record IsPart (place : ℕ → Place) (p most : ℕ) (m : ShallowMapping) (n : ℕ) : Type 0 where
  pub names : (i : ℕ) → i < n → NamesOrEnds m i (place (p + i))
  pub eof : IsEof m ↔ (place p ≡ End)
  pub no_refusal : (e : Error) → place p ≡ Refused e → ⊥
  pub empty : n ≡ 0 → most ≡ 0
  pub within : n ≤ most

-- how much of a range a mapping of n bytes is for: at the end, all of it
abbrev pub part_length : ShallowMapping → ℕ → ℕ → ℕ
part_length S.Eof n most = most
part_length _ n most = n

-- The range of x from o on leads, over so many layers, to that one from `at` on, for its first
-- `left` bytes.
pub record LeadsDown {D St : Type 0} (view : D → View St) (x : FormatAccess D) (o most : ℕ)
    (layer : FormatAccess D) (hops at left : ℕ) (w : Bool) : Type 0 where
  pub targets : (i : ℕ) → i < left
      → target view x (o + i) ≡ deeper hops w (target view layer (at + i))
  pub shows : (i : ℕ) → i < left → disk_value view x (o + i) ≡ disk_value view layer (at + i)
  pub specials : (k p : ℕ) → special_at view x (hops + k) p ≡ special_at view layer k p
  pub causes : (op : Operation) (i m : ℕ) (e : Error) → 0 < m → i + m ≤ left
      → chain_cause view layer op (at + i) m e → chain_cause view x op (o + i) m e
  pub memory : (i m : ℕ) → 0 < m → i + m ≤ left → may_take_memory view layer (at + i) m
      → may_take_memory view x (o + i) m
  pub reliable : is_reliable view layer ≡ false → is_reliable view x ≡ false
  pub told : IsTrue (tells_bytes view x) → IsTrue (tells_bytes view layer)
  pub within : left ≤ most
  pub empty : left ≡ 0 → most ≡ 0
  pub whole : chain_no_memory view x o most → (left ≡ most) × chain_no_memory view layer at left
  -- at the top nothing has changed; below it, the top has a reference at o
  pub top : hops ≡ 0 → (layer ≡ x) × (at ≡ o)
  pub below : 0 < hops → ((view (driver x)).place o ≡ End → ⊥)
      × ((e : Error) → (view (driver x)).place o ≡ Refused e → ⊥)

-- a mapping that isn't followed any more
abbrev pub IsBottom : {D : Type 0} → ShallowMapping → FormatAccess D → Type 0
IsBottom (S.Indirect offset writable) x = backing x ≡ None
IsBottom _ x = Unit {0}

-- The range of x from o on leads down to that layer, whose driver maps the way's bytes so.
pub record HasLanded {D St : Type 0} (view : D → View St) (x : FormatAccess D) (o most : ℕ)
    (layer : FormatAccess D) (way : Way) (m : ShallowMapping) : Type 0 where
  pub hops : ℕ
  pub depth : way.depth ≡ told_depth hops
  pub leads : LeadsDown view x o most layer hops way.offset way.length way.writable
  pub part : IsPart (view (driver layer)).place way.offset way.length m way.length
  pub bottom : IsBottom m layer

-- what the way and the driver's mapping come to
abbrev pub resolved_mapping : Way → ShallowMapping → Mapping
resolved_mapping way (S.Raw storage offset writable) = Mapping.Raw way.depth storage offset
    (way.writable && writable)
resolved_mapping way (S.Indirect offset writable) = Mapping.Zero false
resolved_mapping way (S.Zero explicit) = Mapping.Zero (explicit && nat_eq way.depth 0)
resolved_mapping way S.Eof = if nat_eq way.depth 0 then Mapping.Eof else Mapping.Zero false
resolved_mapping way (S.Special offset) = Mapping.Special way.depth offset

-- and how much of it there is: nothing at the end of the image
abbrev pub resolved_length : Way → ShallowMapping → ℕ
resolved_length way S.Eof = if nat_eq way.depth 0 then 0 else way.length
resolved_length way _ = way.length
