-- SPDX-License-Identifier: MIT
use Rattle.std.specs.Prelude.{◌≡◌, ℕ, ◌+◌, ◌<◌, ◌≤◌, ◌⊎◌, ◌↔◌, ◌&&◌, max, Bool, false}
use Rattle.imago_storage.specs.declared.error.Error.{Error}
use Rattle.imago_drivers.specs.Operation.{Map}
use Rattle.imago_drivers.specs.Place.{Value, Stored, Zeroed, Special, Refused, End}
use Rattle.imago_drivers.specs.Reasons.{Reasons, none}
use Rattle.imago_drivers.specs.View.{View}
use Rattle.imago_access.specs.declared.access.FormatAccess.{FormatAccess}
use Rattle.imago_access.specs.declared.mapping.Mapping.{Mapping}
use Rattle.imago_access.specs.declared.mapping.Mapping.TheVariants as M
use Rattle.imago_access.specs.Chain.{driver, is_reliable, chain_cause}
use Rattle.imago_access.specs.Target.{Target, target, told_depth}

abbrev pub IsEndOfImage : Mapping → Type 0
IsEndOfImage M.Eof = Unit {0}
IsEndOfImage (M.Raw layer storage offset writable) = ⊥
IsEndOfImage (M.Zero explicit) = ⊥
IsEndOfImage (M.Special layer offset) = ⊥

-- zeroes of no storage: as the top layer has them, or unallocated ones: those of a layer below, or
-- where a layer below ends or is missing
abbrev pub LeadsToZero : Bool → Target → Type 0
LeadsToZero explicit t =
    ((t.place ≡ Zeroed explicit) × (t.depth ≡ 0))
    ⊎ (((v : Bool) × (t.place ≡ Zeroed v) × (0 < t.depth) × (explicit ≡ false))
    ⊎ ((t.place ≡ End) × (0 < t.depth) × (explicit ≡ false)))

-- the mapping names, as its i-th offset, where that target is; it is writable if each reference on
-- the way is, and the place
abbrev pub LeadsTo : Mapping → ℕ → Target → Type 0
LeadsTo (M.Raw layer storage offset writable) i t =
    (layer ≡ told_depth t.depth)
    × ((b : ℕ) × (v : Bool) × (t.place ≡ Stored b storage (offset + i) v)
    × (writable ≡ (t.writable && v)))
LeadsTo (M.Zero explicit) i t = LeadsToZero explicit t
LeadsTo M.Eof i t = ⊥
LeadsTo (M.Special layer offset) i t = (layer ≡ told_depth t.depth)
    × ((b : Value) × (t.place ≡ Special b (offset + i)))

-- A mapping of n bytes is the right answer for an image at o, where at most so many were asked for.
pub record IsResolved {D St : Type 0} (view : D → View St) (x : FormatAccess D) (o most : ℕ)
    (m : Mapping) (n : ℕ) : Type 0 where
  -- each of its offsets leads to what it names
  pub leads : (i : ℕ) → i < n → LeadsTo m i (target view x (o + i))
  -- so does the first one, also where nothing was asked for
  pub here : IsEndOfImage m ⊎ LeadsTo m 0 (target view x o)
  -- the end is answered exactly past the top layer, and is empty
  pub eof : IsEndOfImage m ↔ ((view (driver x)).place o ≡ End)
  pub eof_empty : IsEndOfImage m → n ≡ 0
  -- it is empty at the end or where nothing was asked for, alone
  pub empty : n ≡ 0 → IsEndOfImage m ⊎ (most ≡ 0)
  pub within : n ≤ most
  -- a place that may not be read is answered by its refusal
  pub no_refusal : (e : Error) → (view (driver x)).place o ≡ Refused e → ⊥

-- why a mapping of an image may be refused: it takes no memory, and looks at the offset asked for,
-- also where nothing more is
abbrev pub chain_map_reasons : {D St : Type 0} → (D → View St) → FormatAccess D → ℕ → ℕ → Reasons
chain_map_reasons view x o n = record none {
  cause = chain_cause view x Map o (max n 1);
  device = is_reliable view x ≡ false;
}
