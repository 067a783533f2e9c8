-- SPDX-License-Identifier: MIT
use Rattle.std.specs.Prelude.{◌≡◌, ℕ, ◌+◌, ◌-◌, ◌*◌, ◌%◌, ◌/◌, ◌<◌, ◌≤◌, ◌⊎◌, Bool, true, false}
use Rattle.std.specs.Prelude.{List, length, take, min, max, Result, Ok, Err}
use Rattle.std.specs.Prelude.{slice_get, Option, Some, None}
use Rattle.imago_drivers.specs.declared.format.PreallocateMode.{PreallocateMode}
use Rattle.imago_drivers.specs.declared.format.PreallocateMode.TheVariants as Mode
use Rattle.imago_cow.specs.declared.table.GuestBlock.{GuestBlock}
use Rattle.imago_cow.specs.declared.table.GuestBlock.TheVariants as G
use Rattle.imago_drivers.specs.Place.{Value}
use Rattle.imago_cow.specs.Guest.{is_data, IsExact, AreAdded}
use Rattle.imago_cow.specs.Table.{named_count}
use Rattle.imago_cow.specs.Growth.{IsExtended}
use Rattle.imago_cow.specs.Cut.{shows_below}

-- what a growth in that mode adds: absent guest blocks, explicit zeroes, or data
abbrev pub IsAddedBy : PreallocateMode → Option GuestBlock → Type 0
IsAddedBy Mode.None entry = entry ≡ Some GuestBlock.Absent
IsAddedBy Mode.Zero entry = entry ≡ Some GuestBlock.Zero
IsAddedBy Mode.FormatAllocate entry = is_data entry ≡ true
IsAddedBy Mode.FullAllocate entry = is_data entry ≡ true
IsAddedBy Mode.WriteData entry = is_data entry ≡ true

-- the guest block doesn't lead to the layer below
abbrev pub not_absent : Option GuestBlock → Bool
not_absent None = true
not_absent (Some G.Absent) = false
not_absent (Some G.Zero) = true
not_absent (Some (G.Data j)) = true

-- a growth in that mode leaves such a guest block what it is, where the old end cuts it; else it
-- becomes data
abbrev pub stays_cut : PreallocateMode → Option GuestBlock → Bool
stays_cut Mode.None entry = true
stays_cut Mode.Zero entry = not_absent entry
stays_cut Mode.FormatAllocate entry = is_data entry
stays_cut Mode.FullAllocate entry = is_data entry
stays_cut Mode.WriteData entry = is_data entry

-- each guest block that was added is in a data block
abbrev pub AddsData : List GuestBlock → List GuestBlock → Type 0
AddsData old new = (i : ℕ) → length old ≤ i → i < length new → is_data (slice_get new i) ≡ true

-- So many guest blocks were added behind the others, each in a data block that was free, or in a
-- new one. There were `before` data blocks, and there are `count`.
pub record ArePushed (at : ℕ → Value) (keeps told : Bool) (block end : ℕ)
    (start now : List GuestBlock) (old new : List ℕ) (before count added : ℕ) : Type 0 where
  pub len : length now ≡ length start + added
  pub prefix : take (length start) now ≡ start
  pub extended : IsExtended at true keeps told block (length start * block)
      (min end (length now * block)) start now old new
  pub in_data : AddsData start now
  pub named : named_count now ≡ named_count start + added
  pub counted : count ≤ max before (named_count start + added)

-- The guest blocks were added that a disk of the new size needs: in data blocks, where a growth in
-- that mode shows the layer below, else as explicit zeroes.
pub record HasNew (at : ℕ → Value) (mode : PreallocateMode) (keeps told : Bool)
    (block new_size : ℕ) (old new : List GuestBlock) (old_bytes new_bytes : List ℕ) : Type 0 where
  pub exact : IsExact new_size block new
  pub extended : IsExtended at (shows_below mode) keeps told block (length old * block) new_size old
      new old_bytes new_bytes
  pub in_data : shows_below mode ≡ true → AddsData old new
  pub zeroes : shows_below mode ≡ false → AreAdded GuestBlock.Zero old new
  pub named : (wanted : ℕ) → new_size ≤ wanted * block → wanted * block < new_size + block
      → (named_count new ≡ named_count old)
      ⊎ ((shows_below mode ≡ true)
      × (named_count new ≡ named_count old + (wanted - length old)))

-- What a growth in that mode makes of the guest block that the old end cuts.
pub record IsCutGrown (mode : PreallocateMode) (block size : ℕ) (old new : List GuestBlock) : Type 0
  where
    pub stays : 0 < size % block → stays_cut mode (slice_get old (size / block)) ≡ true
        → slice_get new (size / block) ≡ slice_get old (size / block)
    pub filled : 0 < size % block → stays_cut mode (slice_get old (size / block)) ≡ false
        → is_data (slice_get new (size / block)) ≡ true

-- What a growth in that mode makes of the guest blocks of a disk of that size: those before its end
-- stay what they are, and of those behind it each is what the mode adds.
pub record AreGrown (mode : PreallocateMode) (block size : ℕ) (old new : List GuestBlock) : Type 0
  where
    pub kept : (i : ℕ) → i < size / block → slice_get new i ≡ slice_get old i
    pub cut : IsCutGrown mode block size old new
    pub added : (i : ℕ) → length old ≤ i → i < length new → IsAddedBy mode (slice_get new i)

-- the size of a disk after a growth from a size to another: refused, it is as it was
abbrev pub size_after : {T E : Type 0} → ℕ → ℕ → Result T E → ℕ
size_after old new (Ok x) = new
size_after old new (Err e) = old
