-- SPDX-License-Identifier: MIT
use Rattle.std.specs.Prelude.{◌≡◌, ℕ, ◌+◌, ◌<◌, false}
use Rattle.imago_drivers.specs.Operation.{Read}
use Rattle.imago_drivers.specs.Place.{Place}
use Rattle.imago_drivers.specs.Reasons.{Reasons, none}
use Rattle.imago_drivers.specs.View.{View}
use Rattle.imago_drivers.specs.declared.mapping.ShallowMapping.{ShallowMapping}
use Rattle.imago_drivers.specs.declared.mapping.ShallowMapping.TheVariants as S
use Rattle.imago_access.specs.declared.access.FormatAccess.{FormatAccess}
use Rattle.imago_access.specs.Chain.{is_reliable, read_cause, takes_no_memory}
use Rattle.imago_access.specs.Ways.{NamesOrEnds}

-- a storage that the mapping names is one of the driver's
abbrev pub IsKnown : ShallowMapping → ℕ → Type 0
IsKnown (S.Raw storage offset writable) count = storage < count
IsKnown _ count = Unit {0}

-- the n places from `at` on are what the mapping names
abbrev pub IsNamedAt : (ℕ → Place) → ShallowMapping → ℕ → ℕ → Type 0
IsNamedAt place m at n = (i : ℕ) → i < n → NamesOrEnds m i (place (at + i))

-- why a read of what a mapping names may be refused: as a read of any places that it names
abbrev pub named_read_reasons : {St : Type 0} → View St → ShallowMapping → ℕ → Reasons
named_read_reasons v m n = record none {
  cause = λ e. (at : ℕ) → IsNamedAt v.place m at n → v.limits.cause Read at n e;
  device = v.abilities.is_reliable ≡ false;
  memory = (at : ℕ) → IsNamedAt v.place m at n → v.limits.no_memory Read at n → ⊥;
}

-- why the first part of a read may be refused
abbrev pub chunk_read_reasons : {D St : Type 0} → (D → View St) → FormatAccess D → ℕ → ℕ → Reasons
chunk_read_reasons view x o n = record none {
  cause = read_cause view x o n;
  device = is_reliable view x ≡ false;
  memory = takes_no_memory view x o n → ⊥;
}
