-- SPDX-License-Identifier: MIT
use Rattle.std.specs.Prelude.{◌≡◌, ℕ, ◌+◌, ◌*◌, ◌/◌, ◌<◌, ◌≤◌, ◌⊎◌, ◌++◌, ◌∷◌, [], Bool, IsTrue}
use Rattle.std.specs.Prelude.{List, length, slice_index, slice_get, Some, max, Result, IfErr}
use Rattle.imago_storage.specs.declared.error.Error.{Error}
use Rattle.imago_storage.specs.Features.{Features}
use Rattle.imago_storage.specs.Padding.{Wraps}
use Rattle.imago_drivers.specs.Place.{Value, Byte, IsIn, shown}
use Rattle.imago_drivers.specs.Reasons.{Reasons, none, allowed}
use Rattle.imago_drivers.specs.Lengths.{padded_to}
use Rattle.imago_drivers.specs.LayerBelow.{LayerBelow}
use Rattle.imago_drivers.specs.Ranges.{HasWrappingPart}
use Rattle.imago_cow.specs.declared.table.GuestBlock.{GuestBlock}
use Rattle.imago_cow.specs.Guest.{origin_in, entry_place}
use Rattle.imago_cow.specs.Copies.{old_value}

-- the bytes outside a range are what they were
abbrev pub SameOutside : ℕ → ℕ → List ℕ → List ℕ → Type 0
SameOutside to count old new = (p : ℕ) → (p < to) ⊎ (to + count ≤ p)
    → slice_index new p ≡ slice_index old p

-- the bytes of the data blocks that these entries name are what they were, as far as they show
-- places before the end
abbrev pub KeepsBytes : Bool → ℕ → ℕ → List GuestBlock → List ℕ → List ℕ → Type 0
KeepsBytes keeps block end entries old new = IsTrue keeps → (i j k : ℕ)
    → slice_get entries i ≡ Some (GuestBlock.Data j) → k < block → i * block + k < end
    → slice_index new (j * block + k) ≡ slice_index old (j * block + k)

-- A guest block was added behind the others, in a data block that none of them names. That one
-- holds what the layer below has at the new block's places before the end, where that layer tells
-- its bytes, and no byte outside it changed.
pub record IsPushed (at : ℕ → Value) (keeps told : Bool) (block end : ℕ) (old new : List GuestBlock)
    (old_bytes new_bytes : List ℕ) : Type 0 where
  pub number : ℕ
  pub entries : new ≡ old ++ GuestBlock.Data number ∷ []
  pub unnamed : (i : ℕ) → slice_get old i ≡ Some (GuestBlock.Data number) → ⊥
  pub holds : IsTrue keeps → IsTrue told → (p : ℕ) → length old * block ≤ p
      → p < length old * block + block → p < end
      → at p ≡ Byte (slice_index new_bytes (origin_in block number p))
  pub outside : IsTrue keeps → SameOutside (number * block) block old_bytes new_bytes

-- The disk goes on up to `until`: places before `from` show what they showed, and the new ones what
-- the layer below has, where it tells its bytes, or zeroes. Entries that name a data block still
-- do, and its bytes before `from` are what they were.
pub record IsExtended (at : ℕ → Value) (lower keeps told : Bool) (block from until : ℕ)
    (old new : List GuestBlock) (old_bytes new_bytes : List ℕ) : Type 0 where
  pub kept : IsTrue keeps → (p : ℕ) → p < from
      → shown at (entry_place new_bytes block p (slice_get new (p / block)))
      ≡ shown at (entry_place old_bytes block p (slice_get old (p / block)))
  pub added : IsTrue keeps → IsTrue told → (p : ℕ) → from ≤ p → p < until
      → shown at (entry_place new_bytes block p (slice_get new (p / block))) ≡ old_value at lower p
  pub names : (i j : ℕ) → slice_get old i ≡ Some (GuestBlock.Data j)
      → slice_get new i ≡ Some (GuestBlock.Data j)
  pub bytes : KeepsBytes keeps block from old old_bytes new_bytes

-- Why data blocks that end by that offset may not be filled, from places of the layer below that
-- are read.
abbrev pub fill_reasons : Features → LayerBelow → ℕ → (ℕ → Type 0) → Reasons
fill_reasons f l limit reads = record none {
  cause = λ e. ((e ≡ Error.WrapAround) × HasWrappingPart (Wraps f) 0 limit)
      ⊎ ((q : ℕ) × (m : ℕ) × (0 < m) × ((p : ℕ) → IsIn q m p → reads p) × l.cause q m e);
  device = Unit {0};
  memory = Unit {0};
}

-- A call that fills data blocks comes to no more than so many: there are no more of them, the
-- storage ends with those at the latest, and a refusal is for one of them, or for places of the
-- layer below that are read.
pub record IsBounded (f : Features) (l : LayerBelow) (block most : ℕ) (reads : ℕ → Type 0)
    (blocks : ℕ) (old new : List ℕ) (result : Result (Unit {0}) Error) : Type 0 where
  pub counted : blocks ≤ most
  pub no_longer : length new ≤ max (length old) (padded_to f 0 (most * block))
  pub refusals : IfErr result (allowed (fill_reasons f l (most * block) reads))
