-- What each call of a driver promises, as one record.
-- SPDX-License-Identifier: MIT

use Rattle.std.specs.Prelude.{◌≡◌, ℕ, ◌+◌, ◌≤◌, ◌&&◌, Bool, true, false, IsTrue, List, length, None}
use Rattle.std.specs.Prelude.{Result, IfOk, IfErr, OnOk, OnErr, IsOk}
use Rattle.imago_storage.specs.declared.error.Error.{Error}
use Rattle.imago_storage.specs.Faults.{CountsFaults}
use Rattle.imago_drivers.specs.declared.format.PreallocateMode.{PreallocateMode}
use Rattle.imago_drivers.specs.declared.mapping.PreparedDataMapping.{PreparedDataMapping}
use Rattle.imago_drivers.specs.Operation.{Operation, Write, Grow, Shrink, Flush}
use Rattle.imago_drivers.specs.Place.{Value, values, PlacesStandAt}
use Rattle.imago_drivers.specs.Pending.{ShowsRound}
use Rattle.imago_drivers.specs.Prepared.{IsPut, IsWritten, IsFor, IsDataMapping}
use Rattle.imago_drivers.specs.Outside.{StaysOutside}
use Rattle.imago_drivers.specs.Reasons.{allowed}
use Rattle.imago_drivers.specs.LayerBelow.{LayerBelow}
use Rattle.imago_drivers.specs.Causes.{IsSettled, IsOnRange, AddsNone}
use Rattle.imago_drivers.specs.View.{View}
use Rattle.imago_drivers.specs.Changes.{Change, zeroes}
use Rattle.imago_drivers.specs.Frame.{IsKind, IsFramed, IsUnchanged, ReachesNoMore}
use Rattle.imago_drivers.specs.Frame.{LeavesNothingOpen, UsesStorages}
use Rattle.imago_drivers.specs.Lengths.{GrowTo, GrowAt, AreNoLonger}
use Rattle.imago_drivers.specs.Done.{HasDone, HasEnsured, range_reasons, lending_reasons}
use Rattle.imago_drivers.specs.Done.{driver_reasons, stored_write_reasons, mapping_write_reasons}
use Rattle.imago_drivers.specs.Resized.{IsGrown, IsCut, IsSameDisk}

-- Everything that is promised of a write of stored bytes that a mapping names as writable.
pub record IsStoredWrite {St : Type 0} (storage offset : ℕ) (source : List ℕ) (old new : View St)
    (result : Result Unit Error) : Type 0 where
  pub written : OnOk result
      (IsPut storage offset source false old.abilities.keeps_data old.place new.place)
  pub torn : OnErr result
      (IsPut storage offset source true old.abilities.keeps_data old.place new.place)
  pub causes : OnOk result
      ((o : ℕ) → PlacesStandAt old.place storage offset (length source) o
      → IsSettled IsOnRange old.limits.cause new.limits.cause old.limits.copies new.limits.copies o
      (length source))
  pub leaves : LeavesNothingOpen old new
  pub storages : UsesStorages (GrowAt storage offset (length source)) old.abilities.is_reliable old
      new result
  pub framed : IsFramed old new
  pub refusals : IfErr result
      (allowed (stored_write_reasons old storage offset (length source)))

-- Everything that is promised of a write into a prepared mapping, from its `at`-th byte on, beside
-- when the mapping is foreign.
pub record IsPreparedWrite {St : Type 0} (m : PreparedDataMapping St) (at : ℕ) (source : List ℕ)
    (old new : View St) (result : Result Unit Error) : Type 0 where
  pub written : OnOk result (IsWritten false old new m at source)
  pub torn : OnErr result (IsWritten true old new m at source)
  pub round : IsTrue old.abilities.keeps_data → (below : _)
      → ShowsRound (values below old.place) old.pending
      → ShowsRound (values below new.place) new.pending
  pub causes : OnOk result
      ((o : ℕ) → IsFor old m at (length source) o
      → IsSettled IsOnRange old.limits.cause new.limits.cause old.limits.copies new.limits.copies o
      (length source))
  pub reaches : ReachesNoMore old new
  pub storages : UsesStorages (GrowAt m.storage (m.offset + at) (length source))
      old.abilities.is_reliable old new result
  pub framed : IsFramed old new
  pub refusals : IfErr result (allowed (mapping_write_reasons old m at (length source)))

-- Everything that is promised of an ensured data mapping over that layer below.
pub record IsEnsuring {St : Type 0} (below : LayerBelow) (o n : ℕ) (overwrite : Bool)
    (old new : View St) (result : Result (ℕ × ℕ × ℕ) Error) : Type 0 where
  pub mapped : IfOk result (λ r. IsDataMapping o n r.0 r.1 r.2 old new)
  pub changed : IsTrue old.abilities.keeps_data → IsTrue below.tells_bytes
      → HasEnsured o n overwrite (values below.at old.place) (values below.at new.place) result
  pub causes : IfOk result
      (λ r. IsSettled IsOnRange old.limits.cause new.limits.cause old.limits.copies
      new.limits.copies o r.2)
  pub outside : StaysOutside old.abilities.keeps_data old.abilities.block o n old.place new.place
  pub leaves : LeavesNothingOpen old new
  pub storages : UsesStorages (GrowTo (old.limits.longest Write o n))
      (old.abilities.is_reliable && below.is_reliable) old new result
  pub framed : IsFramed old new
  pub refusals : IfErr result (allowed (lending_reasons old below Write o n))

-- Everything that is promised of a zero call, or of a discard to zero.
pub record IsZeroCall {St : Type 0} (op : Operation) (o n : ℕ) (old new : View St)
    (result : Result (ℕ × ℕ) Error) : Type 0 where
  pub done : HasDone (λ _ _. zeroes) op o n old new result
  pub causes : AddsNone old.limits.cause new.limits.cause old.limits.copies new.limits.copies
  pub reaches : ReachesNoMore old new
  pub nothing_pending : new.pending ≡ None
  pub lengths : GrowTo (old.limits.longest op o n) old.stores new.stores
  pub framed : IsFramed old new
  pub faults : CountsFaults old.abilities.is_reliable old.fault_count new.fault_count result
  pub refusals : IfErr result (allowed (range_reasons old op o n))
  -- what shares no block with the range keeps where it stands, at every result
  pub outside : StaysOutside old.abilities.keeps_data old.abilities.block o n old.place new.place

-- Everything that is promised of a discard to any or to backing.
pub record IsDiscard {St : Type 0} (how : (ℕ → Value) → ℕ → Change) (op : Operation) (o n : ℕ)
    (old new : View St) (result : Result (ℕ × ℕ) Error) : Type 0 where
  pub done : HasDone how op o n old new result
  pub causes : IfOk result
      (λ r. IsSettled (λ x. x ≡ op) old.limits.cause new.limits.cause old.limits.copies
      new.limits.copies r.0 r.1)
  pub nothing_pending : new.pending ≡ None
  pub lengths : GrowTo (old.limits.longest op o n) old.stores new.stores
  pub framed : IsFramed old new
  pub faults : CountsFaults old.abilities.is_reliable old.fault_count new.fault_count result
  pub refusals : IfErr result (allowed (range_reasons old op o n))
  -- what shares no block with the range keeps where it stands, at every result
  pub outside : StaysOutside old.abilities.keeps_data old.abilities.block o n old.place new.place

-- What is promised of the preparing of a mapping over that layer below, beside what the mapping is.
pub record IsPreparation {St : Type 0} (below : LayerBelow) (o n : ℕ) (old new : View St)
    (result : Result (PreparedDataMapping St) Error) : Type 0 where
  pub unchanged : IsUnchanged old new
  pub refused : OnErr result (new.pending ≡ None)
  pub causes : IfOk result
      (λ m. IsSettled IsOnRange old.limits.cause new.limits.cause old.limits.copies
      new.limits.copies o m.length)
  pub lengths : GrowTo (old.limits.longest Write o n) old.stores new.stores
  pub faults : CountsFaults (old.abilities.is_reliable && below.is_reliable) old.fault_count
      new.fault_count result
  pub refusals : IfErr result (allowed (lending_reasons old below Write o n))

-- Everything that is promised of a growth over that layer below.
pub record IsGrowth {St : Type 0} (mode : PreallocateMode) (below : LayerBelow) (new_size : ℕ)
    (old new : View St) (result : Result Unit Error) : Type 0 where
  pub grown : OnOk result (IsGrown mode below.tells_bytes below.at new_size old new)
  pub idle : new_size ≤ old.size → IsOk result
  pub unchanged : OnErr result (IsSameDisk old new)
  pub nothing_pending : new.pending ≡ None
  pub no_longer : AreNoLonger (old.limits.longest (Grow mode) new_size 0) old.stores new.stores
  pub kind : IsKind old new
  pub faults : CountsFaults (old.abilities.is_reliable && below.is_reliable) old.fault_count
      new.fault_count result
  pub refusals : IfErr result
      (allowed (record (lending_reasons old below (Grow mode) new_size 0) { beyond_disk = ⊥ }))

-- Everything that is promised of a shrink.
pub record IsShrink {St : Type 0} (new_size : ℕ) (old new : View St) (result : Result Unit Error)
    : Type 0 where
  pub cut : OnOk result (IsCut new_size old new)
  pub idle : old.size ≤ new_size → IsOk result
  pub unchanged : OnErr result (IsSameDisk old new)
  pub nothing_pending : new.pending ≡ None
  pub no_longer : AreNoLonger (old.limits.longest Shrink new_size 0) old.stores new.stores
  pub kind : IsKind old new
  pub faults : CountsFaults old.abilities.is_reliable old.fault_count new.fault_count result
  pub refusals : IfErr result (allowed (driver_reasons old Shrink new_size 0))

-- Everything that is promised of a flush, a sync or an invalidation, each of which is that
-- relation.
pub record IsFlush {Self St : Type 0} (view : Self → View St) (relation : Self → Self
    → Result Unit Error → Type 0) (old new : Self) (result : Result Unit Error) : Type 0 where
  pub performed : relation old new result
  pub unchanged : IsUnchanged (view old) (view new)
  pub pending : (view new).pending ≡ (view old).pending
  pub causes : AddsNone (view old).limits.cause (view new).limits.cause (view old).limits.copies
      (view new).limits.copies
  pub lengths : GrowTo ((view old).limits.longest Flush 0 0) (view old).stores (view new).stores
  pub faults : CountsFaults (view old).abilities.is_reliable (view old).fault_count
      (view new).fault_count result
  pub refusals : IfErr result (allowed (driver_reasons (view old) Flush 0 0))
