-- SPDX-License-Identifier: MIT
use Rattle.std.specs.Prelude.{◌≡◌, ◌↔◌, ◌≤◌, ℕ, ◌+◌, ◌<◌, Bool, true, false, Option, Some, None}
use Rattle.std.specs.Prelude.{Result, IfErr, OnOk, OnErr, IsTrue, IsErrOf, is_some}
use Rattle.imago_storage.specs.declared.error.Error.{Error}
use Rattle.imago_storage.specs.Faults.{CountsFaults}
use Rattle.imago_drivers.specs.Operation.{Operation}
use Rattle.imago_drivers.specs.Place.{Value, Byte, values, PlacesAreWritableAt, SamePlaces}
use Rattle.imago_drivers.specs.Outside.{StayBut}
use Rattle.imago_drivers.specs.Reasons.{Reasons, allowed, none}
use Rattle.imago_drivers.specs.Causes.{IsSettled, IsOnRange}
use Rattle.imago_drivers.specs.Pending.{Pending, IsOwn, ShowsRound}
use Rattle.imago_drivers.specs.View.{View, Limits}
use Rattle.imago_drivers.specs.Changes.{Change, IsChanged, or_torn}
use Rattle.imago_drivers.specs.Frame.{IsFramed, ReachesNoMore}
use Rattle.imago_drivers.specs.Prepared.{IsForeign, IsFor, CommitTakesMemory}
use Rattle.imago_drivers.specs.Lengths.{GrowTo}
use Rattle.imago_drivers.specs.declared.mapping.PreparedDataMapping.{PreparedDataMapping}

-- into the pending mapping's bytes
abbrev pub prepared_bytes : {St : Type 0} → Pending St → Change
prepared_bytes q k v w = w ≡ Byte (q.bytes (q.start + k))

-- What a commit shows: exactly the list apart, over any layer below over which the bytes round it
-- are still the disk's. With no state it shows nothing.
abbrev pub is_committed : {St : Type 0} → Option (Pending St) → Option St → Bool → View St → View St
    → Type 0
is_committed pending None torn old new = SamePlaces old.abilities.keeps_data old.place new.place
is_committed None (Some s) torn old new = ⊥
is_committed (Some q) (Some s) torn old new =
    (torn ≡ false → PlacesAreWritableAt new.place q.storage q.offset q.length q.start)
    × (IsTrue old.abilities.keeps_data → (below : ℕ → Value)
    → ShowsRound (values below old.place) (Some q)
    → IsChanged q.start q.length (or_torn torn (prepared_bytes q)) (values below old.place)
    (values below new.place))

-- why a commit may be refused; one without a state has no cause, and takes no memory
abbrev pub commit_reasons : {St : Type 0} → View St → PreparedDataMapping St → Reasons
commit_reasons v m = record none {
  cause = λ e. (is_some m.state ≡ true)
      × ((o : ℕ) → IsFor v m 0 m.length o → v.limits.cause Operation.Write o m.length e);
  device = Unit {0};
  memory = CommitTakesMemory v m;
  foreign_mapping = Unit {0};
}

-- how long a commit may make each storage: as a write of its places may, and one without a state
-- not at all
abbrev pub commit_longest : {St : Type 0} → Limits → Option (Pending St) → Option St → ℕ → ℕ
commit_longest l pending None index = 0
commit_longest l None (Some s) index = 0
commit_longest l (Some q) (Some s) index = l.longest Operation.Write q.start q.length index

-- which places a commit may move: those in `from .. until` of what is pending, and without a state
-- none
abbrev pub commit_moves : {St : Type 0} → Option (Pending St) → Option St → ℕ → Type 0
commit_moves pending None p = ⊥
commit_moves None (Some s) p = ⊥
commit_moves (Some q) (Some s) p = (q.from ≤ p) × (p < q.until)

-- Everything that is promised of a commit.
pub record IsCommit {Self St : Type 0} (view : Self → View St) (old new : Self)
    (m : PreparedDataMapping St) (result : Result Unit Error) : Type 0 where
  pub foreign : IsErrOf result Error.ForeignMapping ↔ IsForeign (view old) m
  pub untouched : IsErrOf result Error.ForeignMapping → new ≡ old
  pub done : OnOk result (is_committed (view old).pending m.state false (view old) (view new))
  pub torn : (IsErrOf result Error.ForeignMapping → ⊥)
      → OnErr result (is_committed (view old).pending m.state true (view old) (view new))
  pub own_spent : IsOwn (view old).pending m → (view new).pending ≡ None
  pub others_stay : m.state ≡ None → (view new).pending ≡ (view old).pending
  pub reaches : ReachesNoMore (view old) (view new)
  pub settled : OnOk result ((o : ℕ) → IsFor (view old) m 0 m.length o
      → IsSettled IsOnRange (view old).limits.cause (view new).limits.cause (view old).limits.copies
      (view new).limits.copies o m.length)
  pub lengths : GrowTo (commit_longest (view old).limits (view old).pending m.state)
      (view old).stores (view new).stores
  pub framed : IsFramed (view old) (view new)
  pub faults : CountsFaults (view old).abilities.is_reliable (view old).fault_count
      (view new).fault_count result
  pub refusals : IfErr result (allowed (commit_reasons (view old) m))
  -- what it may not move stays, at every result
  pub outside : StayBut (view old).abilities.keeps_data (commit_moves (view old).pending m.state)
      (view old).place (view new).place

-- Everything that is promised of a cancel.
pub record IsCancel {Self St : Type 0} (view : Self → View St) (old new : Self)
    (m : PreparedDataMapping St) : Type 0 where
  pub own_spent : IsOwn (view old).pending m → (view new).pending ≡ None
  pub others_stay : m.state ≡ None → (view new).pending ≡ (view old).pending
  pub untouched : IsForeign (view old) m → new ≡ old
  pub places : SamePlaces (view old).abilities.keeps_data (view old).place (view new).place
  pub reaches : ReachesNoMore (view old) (view new)
  pub lengths : GrowTo (λ index. 0) (view old).stores (view new).stores
  pub framed : IsFramed (view old) (view new)
  pub later : (view old).fault_count ≤ (view new).fault_count
  pub reliable : IsTrue (view old).abilities.is_reliable → (view new).fault_count
      ≡ (view old).fault_count
