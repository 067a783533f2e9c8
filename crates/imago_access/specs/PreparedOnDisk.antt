-- SPDX-License-Identifier: MIT
use Rattle.std.specs.Prelude.{◌≡◌, ℕ, ◌+◌, ◌<◌, Bool, true, false, Option, Some, None, List, length}
use Rattle.std.specs.Prelude.{Result, OnOk, OnErr, IsErrOf}
use Rattle.imago_storage.specs.declared.error.Error.{Error}
use Rattle.imago_drivers.specs.declared.mapping.PreparedDataMapping.{PreparedDataMapping}
use Rattle.imago_drivers.specs.Place.{Value, Place, Stored, PlacesAreWritableAt}
use Rattle.imago_drivers.specs.Pending.{Pending, ShowsRound}
use Rattle.imago_drivers.specs.View.{View}
use Rattle.imago_drivers.specs.Changes.{IsChanged, into, or_torn}
use Rattle.imago_drivers.specs.Commit.{prepared_bytes}
use Rattle.imago_access.specs.declared.access.FormatAccess.{FormatAccess}
use Rattle.imago_access.specs.Chain.{driver, disk_value}

-- the disk shows what it did
abbrev pub ShowsSame : (ℕ → Value) → (ℕ → Value) → Type 0
ShowsSame old new = (p : ℕ) → new p ≡ old p

-- The disk after a write of storage bytes: an offset that stands at one of them shows the new byte,
-- or, where the write was torn, maybe its old one; every other offset shows what it did.
pub record ShowsPut (place : ℕ → Place) (storage offset : ℕ) (bytes : List ℕ) (torn : Bool)
    (old new : ℕ → Value) : Type 0 where
  pub hit : (p b k : ℕ) (w : Bool) → k < length bytes → place p ≡ Stored b storage (offset + k) w
      → or_torn torn (into bytes) k (old p) (new p)
  pub miss : (p : ℕ)
      → ((b k : ℕ) (w : Bool) → k < length bytes → place p ≡ Stored b storage (offset + k) w → ⊥)
      → new p ≡ old p
  -- so where they are those of writable offsets from o on, that range changes, and nothing else
  pub range : (o : ℕ) → PlacesAreWritableAt place storage offset (length bytes) o
      → IsChanged o (length bytes) (or_torn torn (into bytes)) old new

-- what the disk shows after a write into a mapping with that state: the bytes, or, where they wait
-- for commit, what it did
abbrev pub shows_written : {D St : Type 0} → (D → View St) → Option St → Bool → FormatAccess D
    → FormatAccess D → PreparedDataMapping St → ℕ → List ℕ → Type 0
shows_written view None torn old new m at bytes = ShowsPut (view (driver old)).place m.storage
    (m.offset + at) bytes torn (disk_value view old) (disk_value view new)
shows_written view (Some s) torn old new m at bytes = ShowsSame (disk_value view old)
    (disk_value view new)

-- What the disk of an image over storages that keep data shows after a write into a prepared
-- mapping.
pub record ShowsPreparedWrite {D St : Type 0} (view : D → View St) (old new : FormatAccess D)
    (m : PreparedDataMapping St) (at : ℕ) (bytes : List ℕ) (result : Result Unit Error) : Type 0
  where
    pub done : OnOk result (shows_written view m.state false old new m at bytes)
    pub torn : OnErr result (shows_written view m.state true old new m at bytes)

-- what the disk shows after a commit of a mapping with that state: what waited, over the disk round
-- it, or what it did
abbrev pub shows_committed : {D St : Type 0} → (D → View St) → Option (Pending St) → Option St
    → Bool → FormatAccess D → FormatAccess D → Type 0
shows_committed view pending None torn old new = ShowsSame (disk_value view old)
    (disk_value view new)
shows_committed view None (Some s) torn old new = ⊥
shows_committed view (Some q) (Some s) torn old new = ShowsRound (disk_value view old) (Some q)
    → IsChanged q.start q.length (or_torn torn (prepared_bytes q)) (disk_value view old)
    (disk_value view new)

-- What the disk of an image over storages that keep data shows after a commit. A foreign mapping
-- changes nothing.
pub record ShowsCommit {D St : Type 0} (view : D → View St) (old new : FormatAccess D)
    (m : PreparedDataMapping St) (result : Result Unit Error) : Type 0 where
  pub done : OnOk result (shows_committed view (view (driver old)).pending m.state false old new)
  pub torn : (IsErrOf result Error.ForeignMapping → ⊥)
      → OnErr result (shows_committed view (view (driver old)).pending m.state true old new)
  pub foreign : IsErrOf result Error.ForeignMapping
      → ShowsSame (disk_value view old) (disk_value view new)
