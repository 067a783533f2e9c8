-- SPDX-License-Identifier: MIT
use Rattle.std.specs.Prelude.{◌≡◌, ℕ, ◌+◌, ◌<◌, ◌≤◌, ◌⊎◌, ◌&&◌, ◌||◌, not, if◌then◌else◌, Bool}
use Rattle.std.specs.Prelude.{true, false, Option, Some, None, is_none, List, length, slice_index}
use Rattle.std.specs.Prelude.{IsTrue, Result, IfOk, IfErr, OnOk, OnErr}
use Rattle.imago_storage.specs.declared.error.Error.{Error}
use Rattle.imago_storage.specs.Faults.{CountsFaults}
use Rattle.imago_drivers.specs.Operation.{Operation, Write}
use Rattle.imago_drivers.specs.declared.mapping.PreparedDataMapping.{PreparedDataMapping}
use Rattle.imago_drivers.specs.Place.{Value, Byte, Place, Lower, IsIn, values}
use Rattle.imago_drivers.specs.Reasons.{Reasons, allowed}
use Rattle.imago_drivers.specs.LayerBelow.{LayerBelow}
use Rattle.imago_drivers.specs.Causes.{IsSettled, IsOnRange}
use Rattle.imago_drivers.specs.Pending.{Pending, IsOwn, ShowsRound}
use Rattle.imago_drivers.specs.Prepared.{IsFor, IsPrepared}
use Rattle.imago_drivers.specs.View.{View}
use Rattle.imago_drivers.specs.Changes.{Change, IsChanged, into, partly, overwritten}
use Rattle.imago_drivers.specs.Frame.{IsKind, ReachesNoMore}
use Rattle.imago_access.specs.declared.write.Spending.{Spending}
use Rattle.imago_access.specs.declared.write.Spending.TheVariants as By
use Rattle.imago_access.specs.Framed.{StaysFramed}
use Rattle.imago_drivers.specs.Done.{lending_reasons, keeps_over}
use Rattle.imago_drivers.specs.Outside.{SharesBlock}
use Rattle.imago_drivers.specs.Commit.{commit_moves}
use Rattle.imago_access.specs.Moves.{MovesWithin}

-- the mapping is committed, and not cancelled
abbrev pub commits : Spending → Bool
commits By.Commit = true
commits By.Cancel = false

-- a commit may take memory, of the driver or of what calls make of it
abbrev pub CommitMayTakeMemory : {D St : Type 0} → (D → View St) → D → Type 0
CommitMayTakeMemory {D} view d = (e : D) × IsKind (view d) (view e) × (view e).limits.commit_memory

-- why the writing of the first bytes may be refused: as a write, or where a commit takes memory
abbrev pub first_reasons : {St : Type 0} → View St → LayerBelow → Type 0 → ℕ → ℕ → Reasons
first_reasons v l commit_memory o n = record
    (lending_reasons v l Write o n) { memory = (v.limits.no_memory Write o n → ⊥) ⊎ commit_memory }

-- the same for the whole of a range, mapping after mapping: it takes no memory where none of it
-- does, and one mapping is enough
abbrev pub write_reasons : {St : Type 0} → View St → LayerBelow → Type 0 → ℕ → ℕ → Reasons
write_reasons v l commit_memory o n = record
    (lending_reasons v l Write o n) {
      memory = (v.limits.whole Write o n
          × v.limits.no_memory Write o n → ⊥) ⊎ commit_memory;
    }

-- no place of the range is left to the layer below
abbrev pub StandsAlone : (ℕ → Place) → ℕ → ℕ → Type 0
StandsAlone place o n = (p : ℕ) → IsIn o n p → (q : ℕ) (w : Bool) → place p ≡ Lower q w → ⊥

-- the k-th place of a mapping that bytes are written to: the k-th byte, and past the bytes what it
-- was, or whatever it may be where it was prepared for overwriting
abbrev pub filled : Bool → List ℕ → Change
filled overwrite bytes k v w = (k < length bytes → w ≡ Byte (slice_index bytes k))
    × (length bytes ≤ k → overwritten overwrite k v w)

-- How long a mapping is that is prepared for at most n bytes from o on.
pub record IsMappedLength {St : Type 0} (v : View St) (o n c : ℕ) : Type 0 where
  pub within : c ≤ n
  pub some : 0 < n → 0 < c
  pub part : v.limits.answers Write o n o c
  pub whole : v.limits.whole Write o n → c ≡ n

-- the answer tells the length of a mapping that was prepared for these places, and whether it had
-- no state
abbrev pub WasPrepared : {D St : Type 0} → (D → View St) → Bool → (ℕ → Value) → D → ℕ → ℕ → Bool
    → ℕ × Bool → Type 0
WasPrepared {D} {St} view told disk old o n overwrite answer = (mid : D) × (m : PreparedDataMapping St)
    × IsPrepared o n overwrite told disk (view old) (view mid) m × (answer.0 ≡ m.length)
    × (answer.1 ≡ is_none m.state)

-- What waits for the commit of that mapping: the disk shows what it did, and the bytes that fit are
-- in the mapping's list.
pub record IsWaiting {St : Type 0} (l : LayerBelow) (old new : View St) (o : ℕ) (overwrite : Bool)
    (bytes : List ℕ) (m : PreparedDataMapping St) (q : Pending St) : Type 0 where
  pub own : IsOwn (Some q) m
  pub start : q.start ≡ o
  pub same : IsTrue (keeps_over old l) → (p : ℕ) → values l.at new.place p
      ≡ values l.at old.place p
  pub round : IsTrue (keeps_over old l) → ShowsRound (values l.at new.place) (Some q)
  pub listed : IsTrue (keeps_over old l) → (k : ℕ) → k < m.length
      → filled overwrite bytes k (values l.at old.place (o + k)) (Byte (q.bytes (o + k)))

-- the bytes that fit are written to a mapping with or without a state: they stand at its places, or
-- wait for commit
abbrev pub is_filled : {St : Type 0} → Option St → LayerBelow → View St → View St → ℕ → Bool
    → List ℕ → PreparedDataMapping St → Type 0
is_filled None l old new o overwrite bytes m =
    (new.pending ≡ None)
    × (IsTrue (keeps_over old l) → IsChanged o m.length (filled false bytes)
    (values l.at old.place) (values l.at new.place))
is_filled {St} (Some s) l old new o overwrite bytes m = (q : Pending St) × (new.pending ≡ Some q)
    × IsWaiting l old new o overwrite bytes m q

-- why the preparing of a mapping and the writing to it may be refused: memory, also where the bytes
-- don't fill the mapping
abbrev pub filling_reasons : {St : Type 0} → View St → LayerBelow → ℕ → ℕ → List ℕ → Reasons
filling_reasons v l o n bytes = record
    (lending_reasons v l Write o n) {
      memory = v.limits.no_memory Write o n × (n ≤ length bytes)
          → ⊥;
    }

-- What a driver does in the preparing of a mapping and the writing of the bytes that fit. It isn't
-- spent yet; refused, nothing waits, and each place of the range has its old byte or the one that
-- is written there.
pub record HasFilled {St : Type 0} (l : LayerBelow) (old new : View St) (o n : ℕ) (overwrite : Bool)
    (bytes : List ℕ) (result : Result (PreparedDataMapping St) Error) : Type 0 where
  pub mapping : IfOk result (λ m. IsMappedLength old o n m.length)
  pub written : IfOk result (λ m. is_filled m.state l old new o overwrite bytes m)
  -- its bytes are for the places from o on
  pub for : IfOk result (λ m. IsFor new m 0 m.length o)
  pub torn : IsTrue (keeps_over old l)
      → OnErr result (IsChanged o n (partly (filled false bytes)) (values l.at old.place)
      (values l.at new.place))
  pub nothing_pending : OnErr result (new.pending ≡ None)
  pub settled : IfOk result
      (λ m. IsSettled IsOnRange old.limits.cause new.limits.cause old.limits.copies
      new.limits.copies o m.length)
  pub reaches : ReachesNoMore old new
  pub framed : StaysFramed old new
  pub faults : CountsFaults (old.abilities.is_reliable && l.is_reliable) old.fault_count
      new.fault_count result
  pub refusals : IfErr result (allowed (filling_reasons old l o n bytes))
  pub outside : MovesWithin Write o n old new
  -- what a commit may move shares a block with its places
  pub near : IfOk result (λ m. (p : ℕ) → commit_moves new.pending m.state p
      → SharesBlock old.abilities.block o m.length p)

-- the same for the whole of it: also where it is committed, and a commit takes memory
abbrev pub mapping_reasons : {St : Type 0} → View St → LayerBelow → Type 0 → ℕ → ℕ → List ℕ → Bool
    → Reasons
mapping_reasons v l commit_memory o n bytes commit = record
    (filling_reasons v l o n bytes) {
      memory = (filling_reasons v l o n bytes).memory
          ⊎ ((commit ≡ true) × commit_memory);
    }

-- which operations the writing through a mapping leaves no new cause for: all, once it is committed
abbrev pub settles_by : Bool → Operation → Type 0
settles_by commit op = IsOnRange op × (commit ≡ true)

-- how much of a mapping shows, of that length, and with a state or without: all of one that is
-- committed or has none, else nothing
abbrev pub shown_length : Bool → ℕ × Bool → ℕ
shown_length commit m = if commit || m.1 then m.0 else 0

-- what shows of it: the bytes that fit, and past them whatever it may be where it was prepared for
-- overwriting, and has a state
abbrev pub shown_change : Bool → List ℕ → ℕ × Bool → Change
shown_change overwrite bytes m = filled (overwrite && not m.1) bytes

-- What a driver does in the writing through a mapping that is committed or cancelled then, over the
-- layer that it is lent.
pub record HasMapped {St : Type 0} (l : LayerBelow) (commit_memory : Type 0) (old new : View St)
    (o n : ℕ) (overwrite : Bool) (bytes : List ℕ) (commit : Bool) (result : Result (ℕ × Bool) Error)
    : Type 0 where
  pub mapping : IfOk result (λ m. IsMappedLength old o n m.0)
  pub done : IsTrue (keeps_over old l)
      → IfOk result (λ m. IsChanged o (shown_length commit m) (shown_change overwrite bytes m)
      (values l.at old.place) (values l.at new.place))
  pub torn : IsTrue (keeps_over old l)
      → OnErr result (IsChanged o n (partly (filled overwrite bytes)) (values l.at old.place)
      (values l.at new.place))
  -- what shows of it stands in the layer itself
  pub alone : IfOk result (λ m. StandsAlone new.place o (shown_length commit m))
  pub settled : IfOk result (λ m. IsSettled (settles_by commit) old.limits.cause new.limits.cause
      old.limits.copies new.limits.copies o m.0)
  pub reaches : ReachesNoMore old new
  pub framed : StaysFramed old new
  pub spent : new.pending ≡ None
  pub faults : CountsFaults (old.abilities.is_reliable && l.is_reliable) old.fault_count
      new.fault_count result
  pub refusals : IfErr result (allowed (mapping_reasons old l commit_memory o n bytes commit))
  pub outside : MovesWithin Write o n old new

-- What a driver does in the writing of the first bytes of a range: as many as it answers are
-- written, or, refused, each place of the range has its old byte or the new one.
pub record HasWritten {St : Type 0} (l : LayerBelow) (commit_memory : Type 0) (old new : View St)
    (o : ℕ) (bytes : List ℕ) (result : Result ℕ Error) : Type 0 where
  pub some : IfOk result (λ n. (0 < n) × (n ≤ length bytes))
  pub done : IsTrue (keeps_over old l)
      → IfOk result (λ n. IsChanged o n (into bytes) (values l.at old.place)
      (values l.at new.place))
  pub torn : IsTrue (keeps_over old l)
      → OnErr result (IsChanged o (length bytes) (partly (into bytes)) (values l.at old.place)
      (values l.at new.place))
  pub whole : old.limits.whole Write o (length bytes) → IfOk result (λ n. n ≡ length bytes)
  pub alone : IfOk result (λ n. StandsAlone new.place o n)
  pub settled : IfOk result
      (λ n. IsSettled IsOnRange old.limits.cause new.limits.cause old.limits.copies
      new.limits.copies o n)
  pub reaches : ReachesNoMore old new
  pub framed : StaysFramed old new
  pub spent : new.pending ≡ None
  pub faults : CountsFaults (old.abilities.is_reliable && l.is_reliable) old.fault_count
      new.fault_count result
  pub refusals : IfErr result (allowed (first_reasons old l commit_memory o (length bytes)))
  pub outside : MovesWithin Write o (length bytes) old new

-- The same for the whole of a range.
pub record HasWrittenAll {St : Type 0} (l : LayerBelow) (commit_memory : Type 0) (old new : View St)
    (o : ℕ) (bytes : List ℕ) (result : Result Unit Error) : Type 0 where
  pub done : IsTrue (keeps_over old l)
      → OnOk result (IsChanged o (length bytes) (into bytes) (values l.at old.place)
      (values l.at new.place))
  pub torn : IsTrue (keeps_over old l)
      → OnErr result (IsChanged o (length bytes) (partly (into bytes)) (values l.at old.place)
      (values l.at new.place))
  -- the bytes stand in the layer itself, whatever is below
  pub alone : OnOk result (StandsAlone new.place o (length bytes))
  pub settled : OnOk result (IsSettled IsOnRange old.limits.cause new.limits.cause old.limits.copies
      new.limits.copies o (length bytes))
  pub reaches : ReachesNoMore old new
  pub framed : StaysFramed old new
  pub spent : new.pending ≡ None
  pub faults : CountsFaults (old.abilities.is_reliable && l.is_reliable) old.fault_count
      new.fault_count result
  pub refusals : IfErr result (allowed (write_reasons old l commit_memory o (length bytes)))
  pub outside : MovesWithin Write o (length bytes) old new
