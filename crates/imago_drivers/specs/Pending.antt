-- SPDX-License-Identifier: MIT
use Rattle.std.specs.Prelude.{◌≡◌, ℕ, ◌+◌, ◌<◌, ◌≤◌, ◌⊎◌, Bool, IsTrue, Option, Some, None}
use Rattle.imago_drivers.specs.Place.{Value, Byte}
use Rattle.imago_drivers.specs.declared.mapping.PreparedDataMapping.{PreparedDataMapping}

-- A prepared mapping with state that isn't spent: the places that it is for, the storage bytes that
-- they will stand in, and the bytes that a commit will show there. A commit may also turn the
-- places round them, in `from .. until`, into stored ones.
pub record Pending (St : Type 0) : Type 0 where
  pub start : ℕ
  pub storage : ℕ
  pub offset : ℕ
  pub length : ℕ
  pub state : St
  pub from : ℕ
  pub until : ℕ
  -- the byte for each place, by its offset in the layer
  pub bytes : ℕ → ℕ

-- the mapping is the one that is pending
abbrev pub IsOwn : {St : Type 0} → Option (Pending St) → PreparedDataMapping St → Type 0
IsOwn None m = ⊥
IsOwn (Some q) m = (m.storage ≡ q.storage) × (m.offset ≡ q.offset) × (m.length ≡ q.length)
    × (m.state ≡ Some q.state)

-- the bytes round the places of a pending mapping are those that the disk has there
abbrev pub ShowsRound : {St : Type 0} → (ℕ → Value) → Option (Pending St) → Type 0
ShowsRound disk None = Unit {0}
ShowsRound disk (Some q) = (p : ℕ) → q.from ≤ p → p < q.until → (p < q.start)
    ⊎ (q.start + q.length ≤ p) → disk p ≡ Byte (q.bytes p)

-- What is pending is the same: in all but its bytes, and in these as far as a commit shows them,
-- where the storages keep data.
pub record IsSamePending {St : Type 0} (keeps_data : Bool) (q r : Pending St) : Type 0 where
  pub same : r ≡ record q { bytes = r.bytes }
  pub shown : IsTrue keeps_data → (p : ℕ) → q.from ≤ p → p < q.until → r.bytes p ≡ q.bytes p

-- the same is pending as before, or nothing as before
abbrev pub StaysPending : {St : Type 0} → Bool → Option (Pending St) → Option (Pending St) → Type 0
StaysPending keeps_data None new = new ≡ None
StaysPending {St} keeps_data (Some q) new = (r : Pending St) × (new ≡ Some r)
    × IsSamePending keeps_data q r
