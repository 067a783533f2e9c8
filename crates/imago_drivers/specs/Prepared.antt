-- SPDX-License-Identifier: MIT
use Rattle.std.specs.Prelude.{◌≡◌, ℕ, ◌+◌, ◌<◌, ◌≤◌, ◌⊎◌, Bool, true, false, List, Option, Some}
use Rattle.std.specs.Prelude.{None, length, max, slice_index, is_some, IsTrue}
use Rattle.imago_drivers.specs.Operation.{Operation}
use Rattle.imago_drivers.specs.Place.{Value, Byte, Place, Stored, IsIn, PlacesStandAt}
use Rattle.imago_drivers.specs.Place.{PlacesAreWritableAt, HasStranger, SamePlaces}
use Rattle.imago_drivers.specs.Outside.{SharesBlock}
use Rattle.imago_drivers.specs.Pending.{Pending, IsOwn, ShowsRound, StaysPending}
use Rattle.imago_drivers.specs.View.{View}
use Rattle.imago_drivers.specs.Changes.{Change, IsChanged, or_torn, into}
use Rattle.imago_drivers.specs.declared.mapping.PreparedDataMapping.{PreparedDataMapping}

-- the commit of the mapping may take memory: it has a state, and the driver says so
abbrev pub CommitTakesMemory : {St : Type 0} → View St → PreparedDataMapping St → Type 0
CommitTakesMemory v m = (is_some m.state ≡ true) × v.limits.commit_memory

-- A prepared mapping of places from o on, at most so many bytes: it stands for writable places, or
-- has a list apart that waits. The disk's bytes are told only where those of the layer below are.
pub record IsPrepared {St : Type 0} (o most : ℕ) (overwrite told : Bool) (disk : ℕ → Value)
    (old new : View St) (m : PreparedDataMapping St) : Type 0 where
  pub within : m.length ≤ most
  pub some : 0 < most → 0 < m.length
  pub part : old.limits.answers Operation.Write o most o m.length
  pub whole : old.limits.whole Operation.Write o most → m.length ≡ most
  -- where preparing takes no memory, writing and committing take none
  pub no_memory : old.limits.no_memory Operation.Write o most
      → new.limits.no_memory Operation.Write o most
      × new.limits.no_memory Operation.Write o m.length × (CommitTakesMemory new m → ⊥)
  -- what a commit may add to a storage's length, the preparing might have
  pub later : (index : ℕ) → new.limits.longest Operation.Write o m.length index
      ≤ max (length (old.stores.bytes index)) (old.limits.longest Operation.Write o most index)
  -- with no state its bytes are those of these places
  pub direct : m.state ≡ None → (new.pending ≡ None)
      × PlacesAreWritableAt new.place m.storage m.offset m.length o
  -- with state it is the pending one, and its list begins as the disk's bytes, or unspecified for
  -- overwriting
  pub apart : (s : St) → m.state ≡ Some s → (q : Pending St) × (new.pending ≡ Some q)
      × IsOwn (Some q) m × (q.start ≡ o)
      × (IsTrue old.abilities.keeps_data → IsTrue told → overwrite ≡ false → (p : ℕ)
      → IsIn o m.length p → disk p ≡ Byte (q.bytes p))
  -- what is pending is round its places
  pub around : (q : Pending St) → new.pending ≡ Some q → (q.from ≤ q.start)
      × (q.start + q.length ≤ q.until)
  pub round : IsTrue old.abilities.keeps_data → IsTrue told → ShowsRound disk new.pending
  -- what a commit may move shares a block with its places
  pub near : (q : Pending St) → new.pending ≡ Some q → (p : ℕ) → q.from ≤ p → p < q.until
      → SharesBlock old.abilities.block o m.length p

-- what a mapping with or without state is refused as foreign for
abbrev pub is_foreign : {St : Type 0} → Option (Pending St) → PreparedDataMapping St → Option St
    → Type 0
is_foreign pending m None = ⊥
is_foreign pending m (Some s) = IsOwn pending m → ⊥

-- The mapping can't be committed here: it has a state, and isn't the pending one.
abbrev pub IsForeign : {St : Type 0} → View St → PreparedDataMapping St → Type 0
IsForeign v m = is_foreign v.pending m m.state

abbrev pub is_foreign_write : {St : Type 0} → View St → PreparedDataMapping St → Option St → Type 0
is_foreign_write v m None = (v.abilities.is_writable ≡ false)
    ⊎ HasStranger v.place m.storage m.offset m.length
is_foreign_write v m (Some s) = IsOwn v.pending m → ⊥

-- The mapping can't be written here: it has a state and isn't the pending one, or it has none, and
-- the driver isn't writable or one of its bytes is no writable place's.
abbrev pub IsForeignWrite : {St : Type 0} → View St → PreparedDataMapping St → Type 0
IsForeignWrite v m = is_foreign_write v m m.state

abbrev pub is_for : {St : Type 0} → View St → PreparedDataMapping St → Option St → ℕ → ℕ → ℕ
    → Type 0
is_for v m None at n o = PlacesStandAt v.place m.storage (m.offset + at) n o
is_for {St} v m (Some s) at n o = (q : Pending St) × (v.pending ≡ Some q) × (o ≡ q.start + at)

-- the n bytes of the mapping from the at-th on are for the places from o on
abbrev pub IsFor : {St : Type 0} → View St → PreparedDataMapping St → ℕ → ℕ → ℕ → Type 0
IsFor v m at n o = is_for v m m.state at n o

-- Each place that stands at one of these storage bytes has the new byte, or, where the write was
-- torn, maybe its old one. All places stand where they stood.
pub record IsPut (storage offset : ℕ) (bytes : List ℕ) (torn keeps_data : Bool) (old new : ℕ
    → Place) : Type 0 where
  pub stored : (p b s f : ℕ) (w : Bool) → old p ≡ Stored b s f w → (c : ℕ)
      × (new p ≡ Stored c s f w)
  pub hit : IsTrue keeps_data → (p b k : ℕ) (w : Bool) → k < length bytes
      → old p ≡ Stored b storage (offset + k) w
      → (new p ≡ Stored (slice_index bytes k) storage (offset + k) w)
      ⊎ ((torn ≡ true) × (new p ≡ old p))
  pub miss : IsTrue keeps_data → (p : ℕ)
      → ((b k : ℕ) (w : Bool) → k < length bytes → old p ≡ Stored b storage (offset + k) w → ⊥)
      → new p ≡ old p

-- The list apart of a pending mapping changes so, and nothing else of it.
pub record IsPutApart {St : Type 0} (q r : Pending St) (at n : ℕ) (how : Change) : Type 0 where
  pub same : r ≡ record q { bytes = r.bytes }
  pub changed : IsChanged (q.start + at) n how (λ p. Byte (q.bytes p)) (λ p. Byte (r.bytes p))

-- what a write into a mapping with that state does: to its places, or to its list apart alone
abbrev pub is_written : {St : Type 0} → Option St → Bool → View St → View St
    → PreparedDataMapping St → ℕ → List ℕ → Type 0
is_written None torn old new m at bytes = IsPut m.storage (m.offset + at) bytes torn
    old.abilities.keeps_data old.place new.place
    × StaysPending old.abilities.keeps_data old.pending new.pending
is_written {St} (Some s) torn old new m at bytes =
    SamePlaces old.abilities.keeps_data old.place new.place
    × ((q : Pending St) → old.pending ≡ Some q → (r : Pending St) × (new.pending ≡ Some r)
    × (r ≡ record q { bytes = r.bytes })
    × (IsTrue old.abilities.keeps_data
    → IsPutApart q r at (length bytes) (or_torn torn (into bytes))))

abbrev pub IsWritten : {St : Type 0} → Bool → View St → View St → PreparedDataMapping St → ℕ
    → List ℕ → Type 0
IsWritten torn old new m at bytes = is_written m.state torn old new m at bytes

-- What a data mapping answers: the places from o on are writable, and stand in that storage from f
-- on.
pub record IsDataMapping {St : Type 0} (o most s f c : ℕ) (old new : View St) : Type 0 where
  pub within : c ≤ most
  pub some : 0 < most → 0 < c
  pub part : old.limits.answers Operation.Write o most o c
  pub whole : old.limits.whole Operation.Write o most → c ≡ most
  pub origins : PlacesAreWritableAt new.place s f c o
