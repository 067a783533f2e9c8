-- SPDX-License-Identifier: MIT
use Rattle.std.specs.Prelude.{◌≡◌, ◌≢◌, ℕ, ◌+◌, ◌-◌, ◌*◌, ◌%◌, ◌/◌, ◌<◌, ◌≤◌, ◌⊎◌, Bool, true}
use Rattle.std.specs.Prelude.{false, IsTrue, List, length, slice_get, slice_set, slice_index}
use Rattle.std.specs.Prelude.{Option, Some, None, Result, OnOk, OnErr, ◌^◌}
use Rattle.imago_storage.specs.declared.error.Error.{Error}
use Rattle.imago_drivers.specs.declared.format.PreallocateMode.{PreallocateMode}
use Rattle.imago_drivers.specs.declared.format.PreallocateMode.TheVariants as Mode
use Rattle.imago_drivers.specs.Place.{Value, Byte, shown}
use Rattle.imago_drivers.specs.Resized.{grown_into}
use Rattle.imago_cow.specs.declared.table.GuestBlock.{GuestBlock}
use Rattle.imago_cow.specs.declared.table.WithoutData.{WithoutData}
use Rattle.imago_cow.specs.Guest.{entry_place, is_data, IsEntered}
use Rattle.imago_cow.specs.Table.{without_data}
use Rattle.imago_cow.specs.Copies.{old_value}
use Rattle.imago_cow.specs.Growth.{SameOutside}

-- what an offset shows by the entry of its guest block, wherever the disk ends
abbrev pub shows_at : (ℕ → Value) → List ℕ → ℕ → List GuestBlock → ℕ → Value
shows_at at bytes block entries p = shown at
    (entry_place bytes block p (slice_get entries (p / block)))

-- a growth in that mode shows the layer below at its new places
abbrev pub shows_below : PreallocateMode → Bool
shows_below Mode.None = false
shows_below Mode.Zero = false
shows_below Mode.FormatAllocate = true
shows_below Mode.FullAllocate = true
shows_below Mode.WriteData = true

-- So many places from the disk's end on lie in the guest block that it cuts, and below the greatest
-- offset.
pub record AreInBlock (block size count : ℕ) : Type 0 where
  pub in_block : size % block + count ≤ block
  pub inside : size + count < 2 ^ 64

-- What a growth reads of the layer below for the guest block that the disk's end cuts: that block,
-- where it is absent, and new places.
abbrev pub IsCutRead : ℕ → ℕ → List GuestBlock → Bool → ℕ → ℕ → Type 0
IsCutRead block size entries lower new_size p =
    ((p < size) × (p / block ≡ size / block)
    × (slice_get entries (p / block) ≡ Some GuestBlock.Absent))
    ⊎ ((lower ≡ true) × (size ≤ p) × (p < new_size))

-- The guest block that the old end cuts shows what it showed before that end, and behind it what
-- the growth's mode says, up to the new end, where the layer below tells its bytes. No other shows
-- anything else.
pub record IsCutFilled (at : ℕ → Value) (mode : PreallocateMode) (keeps told : Bool)
    (block size new_size : ℕ) (old new : List GuestBlock) (old_bytes new_bytes : List ℕ) : Type 0
  where
    pub len : length new ≡ length old
    pub kept : IsTrue keeps → IsTrue told → (p : ℕ) → p < size
        → shows_at at new_bytes block new p ≡ shows_at at old_bytes block old p
    pub cut : IsTrue keeps → IsTrue told → (p : ℕ) → size ≤ p → p < new_size
        → p / block ≡ size / block → 0 < size % block
        → grown_into mode true at p (shows_at at new_bytes block new p)
    pub others : IsTrue keeps → (p : ℕ) → (p / block ≢ size / block) ⊎ (size % block ≡ 0)
        → shows_at at new_bytes block new p ≡ shows_at at old_bytes block old p

-- The guest block that the old end cuts was entered in a data block that none named: its places
-- before that end show what they showed, and so many behind it the layer below, or zeroes, where
-- the layer below tells its bytes. No byte outside the data block changed.
pub record IsTaken (at : ℕ → Value) (told : Bool) (block size count : ℕ) (absent lower : Bool)
    (old new : List GuestBlock) (old_bytes new_bytes : List ℕ) : Type 0 where
  pub number : ℕ
  pub entered : IsEntered (size / block) number old new
  pub unnamed : (i : ℕ) → slice_get old i ≡ Some (GuestBlock.Data number) → ⊥
  pub before : IsTrue told → (k : ℕ) → k < size % block
      → old_value at absent (size - size % block + k)
      ≡ Byte (slice_index new_bytes (number * block + k))
  pub behind : IsTrue told → (k : ℕ) → k < count → old_value at lower (size + k)
      ≡ Byte (slice_index new_bytes (number * block + size % block + k))
  pub outside : SameOutside (number * block) block old_bytes new_bytes

-- The guest block that the disk's end cuts became data, where it wasn't, and no other changed.
pub record IsCutTaken (block size : ℕ) (old new : List GuestBlock) : Type 0 where
  pub cuts : 0 < size % block
  pub empty : is_data (slice_get old (size / block)) ≡ false
  pub number : ℕ
  pub entries : new ≡ slice_set old (size / block) (GuestBlock.Data number)

-- the entries are the old ones, or that one became data
abbrev pub IsCutEntered : ℕ → ℕ → List GuestBlock → List GuestBlock → Type 0
IsCutEntered block size old new = (new ≡ old) ⊎ IsCutTaken block size old new

-- what was told of that guest block: what it is without data; none where it is data, or none is cut
abbrev pub IsCutEmpty : ℕ → ℕ → List GuestBlock → Option WithoutData → Type 0
IsCutEmpty block size entries None = 0 < size % block → is_data (slice_get entries (size / block))
    ≡ true
IsCutEmpty block size entries (Some kind) = slice_get entries (size / block)
    ≡ Some (without_data kind)

-- That guest block became data, and no other changed. Refused, none did.
pub record IsPutIn (i : ℕ) (old new : List GuestBlock) (result : Result (Unit {0}) Error) : Type 0
  where
    pub len : length new ≡ length old
    pub refused : OnErr result (new ≡ old)
    pub done : OnOk result ((j : ℕ) × (new ≡ slice_set old i (GuestBlock.Data j)))
