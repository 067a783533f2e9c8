-- SPDX-License-Identifier: MIT
use Rattle.std.specs.Prelude.{◌≡◌, ℕ, ◌+◌, ◌≤◌, ◌⊎◌, ◌&&◌, max, Bool, false, IsTrue}
use Rattle.std.specs.Prelude.{Result, IfOk, OnErr}
use Rattle.imago_storage.specs.declared.error.Error.{Error}
use Rattle.imago_storage.specs.Padding.{Wraps}
use Rattle.imago_drivers.specs.Operation.{Operation, Map, Read, Write}
use Rattle.imago_drivers.specs.Place.{Value, values, PlacesStandAt, PlacesAreSpecialAt}
use Rattle.imago_drivers.specs.Reasons.{Reasons, none}
use Rattle.imago_drivers.specs.LayerBelow.{LayerBelow, IsUnreadableIn}
use Rattle.imago_drivers.specs.Causes.{CauseOver}
use Rattle.imago_drivers.specs.View.{View, EndsIn}
use Rattle.imago_drivers.specs.Prepared.{IsFor}
use Rattle.imago_drivers.specs.declared.mapping.PreparedDataMapping.{PreparedDataMapping}
use Rattle.imago_drivers.specs.Changes.{Change, IsChanged, partly, overwritten}

-- A zero call or discard: what it did to the part that it answers, and, refused, to the range that
-- it was asked for.
pub record HasDone {St : Type 0} (how : (ℕ → Value) → ℕ → Change) (op : Operation) (o n : ℕ)
    (old new : View St) (result : Result (ℕ × ℕ) Error) : Type 0 where
  -- the part is empty, or lies in the range
  pub inside : IfOk result (λ r. (r.1 ≡ 0) ⊎ ((o ≤ r.0) × (r.0 + r.1 ≤ o + n)))
  pub part : IfOk result (λ r. old.limits.answers op o n r.0 r.1)
  pub whole : old.limits.whole op o n → IfOk result (λ r. (r.0 ≡ o) × (r.1 ≡ n))
  pub done : IsTrue old.abilities.keeps_data → (below : ℕ → Value)
      → IfOk result (λ r. IsChanged r.0 r.1 (how below r.0) (values below old.place)
      (values below new.place))
  pub refused : IsTrue old.abilities.keeps_data → (below : ℕ → Value)
      → OnErr result (IsChanged o n (partly (how below o)) (values below old.place)
      (values below new.place))

-- An ensured data mapping: what it did to the part that it answers, and, refused, to the range that
-- it was asked for.
pub record HasEnsured (o n : ℕ) (overwrite : Bool) (old new : ℕ → Value)
    (result : Result (ℕ × ℕ × ℕ) Error) : Type 0 where
  pub done : IfOk result (λ r. IsChanged o r.2 (overwritten overwrite) old new)
  pub torn : OnErr result (IsChanged o n (overwritten overwrite) old new)

-- why a changing call on a range may be refused; a failed device shows in the count of faults
abbrev pub range_reasons : {St : Type 0} → View St → Operation → ℕ → ℕ → Reasons
range_reasons v op o n = record none {
  beyond_disk = EndsIn v.place o n;
  cause = v.limits.cause op o n;
  device = Unit {0};
  memory = v.limits.no_memory op o n → ⊥;
}

-- the same for a call that is lent a layer
abbrev pub lending_reasons : {St : Type 0} → View St → LayerBelow → Operation → ℕ → ℕ → Reasons
lending_reasons v l op o n = record
    (range_reasons v op o n) { cause = CauseOver v.limits.cause v.limits.copies l op o n }

-- why a call on the driver as a whole may be refused
abbrev pub driver_reasons : {St : Type 0} → View St → Operation → ℕ → ℕ → Reasons
driver_reasons v op o n = record (range_reasons v op o n) { beyond_disk = ⊥ }

-- why a mapping may be refused: it takes no memory, and looks at the place asked for, also where
-- nothing more is
abbrev pub map_reasons : {St : Type 0} → View St → ℕ → ℕ → Reasons
map_reasons v o n = record none {
  cause = v.limits.cause Map o (max n 1);
  device = v.abilities.is_reliable ≡ false;
}

-- Why a read of stored bytes may be refused: no stored place is, so the request at the storage
-- wraps around, and that is a cause of a read of any places that stand there.
abbrev pub stored_read_reasons : {St : Type 0} → View St → ℕ → ℕ → ℕ → Reasons
stored_read_reasons v storage offset n = record none {
  cause = λ e. (e ≡ Error.WrapAround) × ((o : ℕ) → PlacesStandAt v.place storage offset n o
      → v.limits.cause Read o n e) × Wraps (v.stores.features storage) offset n;
  device = v.abilities.is_reliable ≡ false;
  memory = (o : ℕ) → PlacesStandAt v.place storage offset n o → v.limits.no_memory Read o n → ⊥;
}

-- the same for special bytes, which the driver may not offer, and one of which may be faulty
abbrev pub special_read_reasons : {St : Type 0} → View St → ℕ → ℕ → Reasons
special_read_reasons v offset n = record none {
  cause = λ e. ((e ≡ Error.WrapAround) ⊎ (e ≡ Error.Unsupported)
      ⊎ ((e ≡ Error.InvalidData) × IsUnreadableIn v.special offset n Error.InvalidData))
      × ((o : ℕ) → PlacesAreSpecialAt v.place offset n o → v.limits.cause Read o n e);
  device = v.abilities.is_reliable ≡ false;
  memory = (o : ℕ) → PlacesAreSpecialAt v.place offset n o → v.limits.no_memory Read o n → ⊥;
}

-- why a write of stored bytes may be refused: the request wraps around, and that is a cause of a
-- write of any places there
abbrev pub stored_write_reasons : {St : Type 0} → View St → ℕ → ℕ → ℕ → Reasons
stored_write_reasons v storage offset n = record none {
  cause = λ e. (e ≡ Error.WrapAround) × ((o : ℕ) → PlacesStandAt v.place storage offset n o
      → v.limits.cause Write o n e) × Wraps (v.stores.features storage) offset n;
  device = Unit {0};
  memory = (o : ℕ) → PlacesStandAt v.place storage offset n o → v.limits.no_memory Write o n → ⊥;
}

-- why a write into a prepared mapping may be refused: the request at its storage wraps around, and
-- that is a cause of a write of the places that it is for
abbrev pub mapping_write_reasons : {St : Type 0} → View St → PreparedDataMapping St → ℕ → ℕ
    → Reasons
mapping_write_reasons v m at n = record none {
  cause = λ e. (e ≡ Error.WrapAround) × ((o : ℕ) → IsFor v m at n o → v.limits.cause Write o n e)
      × Wraps (v.stores.features m.storage) (m.offset + at) n;
  device = Unit {0};
  memory = (o : ℕ) → IsFor v m at n o → v.limits.no_memory Write o n → ⊥;
  foreign_mapping = Unit {0};
}

-- a driver over that layer keeps what is written, and what it copies from there is told
abbrev pub keeps_over : {St : Type 0} → View St → LayerBelow → Bool
keeps_over v l = v.abilities.keeps_data && l.tells_bytes
