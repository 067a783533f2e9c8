-- SPDX-License-Identifier: MIT
use Rattle.std.specs.Prelude.{◌≡◌, ℕ, zero, suc, ◌+◌, ◌*◌, ◌%◌, ◌/◌, ◌<◌, ◌≤◌, ◌⊎◌, ◌≢◌, ◌&&◌, Bool}
use Rattle.std.specs.Prelude.{true, false, List, length, slice_index, slice_get, Option, Some, None}
use Rattle.std.specs.Prelude.{if◌then◌else◌, nat_lt, Result, IfOk, IsOk}
use Rattle.imago_storage.specs.declared.error.Error.{Error}
use Rattle.imago_drivers.specs.Place.{Place, Stored, Zeroed, Lower, End, IsIn}
use Rattle.imago_cow.specs.declared.table.GuestBlock.{GuestBlock}
use Rattle.imago_cow.specs.declared.table.GuestBlock.TheVariants as G

-- Data block j stands at that offset of the storage.
abbrev pub data_start : ℕ → ℕ → ℕ
data_start block j = j * block

-- where the byte of an offset of the disk stands in the storage, if its guest block is that data
-- block
abbrev pub origin_in : ℕ → ℕ → ℕ → ℕ
origin_in block j p = j * block + p % block

-- the place of an offset of the disk by the entry of its guest block, over a storage of these bytes
abbrev pub entry_place : List ℕ → ℕ → ℕ → Option GuestBlock → Place
entry_place bytes block p None = End
entry_place bytes block p (Some G.Absent) = Lower p false
entry_place bytes block p (Some G.Zero) = Zeroed true
entry_place bytes block p (Some (G.Data j)) = Stored (slice_index bytes (origin_in block j p)) 0
    (origin_in block j p) true

-- a place of the disk: below the size, that of the entry of its guest block
abbrev pub cow_place : List ℕ → ℕ → ℕ → List GuestBlock → ℕ → Place
cow_place bytes size block entries p = if nat_lt p size then entry_place bytes block p
    (slice_get entries (p / block)) else End

-- Each guest block of the disk has an entry.
abbrev pub Covers : ℕ → ℕ → List GuestBlock → Type 0
Covers size block entries = size ≤ length entries * block

-- No data block is named by two entries.
abbrev pub NamedOnce : List GuestBlock → Type 0
NamedOnce entries = (i k j : ℕ) → slice_get entries i ≡ Some (GuestBlock.Data j)
    → slice_get entries k ≡ Some (GuestBlock.Data j) → i ≡ k

abbrev pub is_data : Option GuestBlock → Bool
is_data None = false
is_data (Some G.Absent) = false
is_data (Some G.Zero) = false
is_data (Some (G.Data j)) = true

-- how many of the first m numbers pass the test
unfoldable pub number_of : (ℕ → Bool) → ℕ → ℕ
number_of test zero = 0
number_of test (suc m) = (if test m then 1 else 0) + number_of test m

-- guest block i holds a place of `from .. until`
abbrev pub is_touched : ℕ → ℕ → ℕ → ℕ → Bool
is_touched block from until i = nat_lt from until
    && (nat_lt (i * block) until && nat_lt from (i * block + block))

-- The guest block lies in the range, as far as the disk goes.
pub record IsWholeBlock (block size o n i : ℕ) : Type 0 where
  pub begins : o ≤ i * block
  pub ends : (i * block + block ≤ o + n) ⊎ (size ≤ o + n)

-- The part holds the places of the guest blocks that lie in the range, and no others.
pub record IsWholePart (block size o n q m : ℕ) : Type 0 where
  pub inside : (p : ℕ) → IsIn q m p → IsIn o n p × IsWholeBlock block size o n (p / block)
  pub all : (p : ℕ) → IsIn o n p → IsWholeBlock block size o n (p / block) → IsIn q m p
  pub none : m ≡ 0 → q ≡ o

-- The guest blocks from `first` on and before `last` became that one, and no other changed.
pub record IsCleared (first last : ℕ) (entry : GuestBlock) (old new : List GuestBlock) : Type 0
  where
    pub len : length new ≡ length old
    pub inside : (i : ℕ) → first ≤ i → i < last → slice_get new i ≡ Some entry
    pub before : (i : ℕ) → i < first → slice_get new i ≡ slice_get old i
    pub behind : (i : ℕ) → last ≤ i → slice_get new i ≡ slice_get old i

-- The guest blocks that lie in the range became that one, and no other changed.
pub record AreWholeCleared (block size o n : ℕ) (entry : GuestBlock) (old new : List GuestBlock)
    : Type 0 where
  pub len : length new ≡ length old
  pub inside : (i : ℕ) → i < length old → IsWholeBlock block size o n i
      → slice_get new i ≡ Some entry
  pub outside : (i : ℕ) → (IsWholeBlock block size o n i → ⊥) → slice_get new i ≡ slice_get old i

-- There are exactly as many entries as the disk needs.
pub record IsExact (size block : ℕ) (entries : List GuestBlock) : Type 0 where
  pub covers : Covers size block entries
  pub near : length entries * block < size + block

-- Guest block i became data block j, and no other changed.
pub record IsEntered (i j : ℕ) (old new : List GuestBlock) : Type 0 where
  pub len : length new ≡ length old
  pub at : slice_get new i ≡ Some (GuestBlock.Data j)
  pub others : (k : ℕ) → k ≢ i → slice_get new k ≡ slice_get old k

-- Entries were added behind the old ones, each of which is that one.
pub record AreAdded (entry : GuestBlock) (old new : List GuestBlock) : Type 0 where
  pub no_fewer : length old ≤ length new
  pub kept : (i : ℕ) → i < length old → slice_get new i ≡ slice_get old i
  pub added : (i : ℕ) → length old ≤ i → i < length new → slice_get new i ≡ Some entry

-- The guest blocks that lie in the range became that one, and the answer is the part that they
-- hold.
abbrev pub IsMade : ℕ → ℕ → ℕ → ℕ → GuestBlock → List GuestBlock → List GuestBlock
    → Result (ℕ × ℕ) Error → Type 0
IsMade o n size block entry old new result = AreWholeCleared block size o n entry old new
    × IfOk result (λ r. IsWholePart block size o n r.0 r.1) × IsOk result

-- The n places from o on lie in the disk, and in one guest block, which is without data.
pub record IsEmptyPart (block size o n : ℕ) (entry : GuestBlock) (entries : List GuestBlock) : Type
    0 where
  pub some : 0 < n
  pub inside : o + n ≤ size
  pub in_block : o % block + n ≤ block
  pub empty : slice_get entries (o / block) ≡ Some entry
