-- SPDX-License-Identifier: MIT
use Rattle.std.specs.Prelude.{◌≡◌, ℕ, ◌+◌, ◌-◌, ◌/◌, ◌%◌, ◌<◌, ◌≤◌, ◌⊎◌, ◌&&◌, min, Bool, true}
use Rattle.std.specs.Prelude.{false}
use Rattle.std.specs.Prelude.{List, length, slice_index, slice_get, Option, Some, None, Result, Ok}
use Rattle.std.specs.Prelude.{Err, IfErr, OnOk, if◌then◌else◌}
use Rattle.std.specs.Borrow.{Bor}
use Rattle.imago_storage.specs.declared.error.Error.{Error}
use Rattle.imago_storage.specs.Error.{IsExtRefusal}
use Rattle.imago_storage.specs.Faults.{CountsFaults}
use Rattle.imago_storage.specs.Features.{Features}
use Rattle.imago_storage.specs.Padding.{Wraps}
use Rattle.imago_drivers.specs.Operation.{Write}
use Rattle.imago_drivers.specs.CallRelations.{Asking}
use Rattle.imago_drivers.specs.Place.{Value, Byte}
use Rattle.imago_drivers.specs.Reasons.{Reasons, none}
use Rattle.imago_drivers.specs.LayerBelow.{LayerBelow, lent}
use Rattle.imago_drivers.specs.Ranges.{HasWrappingPart}
use Rattle.imago_cow.specs.declared.table.GuestBlock.{GuestBlock}
use Rattle.imago_cow.specs.Cow.{DataWraps, data_count, in_block}

-- what a place without data shows over a layer with these values: that layer's where its guest
-- block is absent, else zero
abbrev pub old_value : (ℕ → Value) → Bool → ℕ → Value
old_value at absent p = if absent then at p else Byte 0

-- What such places show is told: zeroes always are, and the bytes of the layer below where it
-- tells them.
abbrev pub are_told : LayerBelow → Bool → Bool
are_told l true = l.tells_bytes
are_told l false = true

-- the bytes of a buffer are what such places show from o on
abbrev pub HasOldBytes : (ℕ → Value) → Bool → ℕ → List ℕ → Type 0
HasOldBytes at absent o items = (k : ℕ) → k < length items → old_value at absent (o + k)
    ≡ Byte (slice_index items k)

-- What a read of n such places from o on answers: where the guest block is absent, what the layer
-- below answers to that one read; else, and over no layer, it is done.
abbrev pub IsOldRead : {B : Type 0} → (ℕ → ℕ → Asking B (Unit {0})) → Option (Bor B) → Bool → ℕ → ℕ
    → Result (Unit {0}) Error → Type 0
IsOldRead reads None absent o n result = result ≡ Ok tt
IsOldRead reads (Some b) false o n result = result ≡ Ok tt
IsOldRead reads (Some b) true o n result = reads o n b.now result

-- A copy of n such places answers a refusal of that read as it is, and behind a read that is done
-- what the storage refuses.
abbrev pub IsCopyAnswer : {B : Type 0} → (ℕ → ℕ → Asking B (Unit {0})) → Option (Bor B) → Bool → ℕ
    → ℕ → Result (Unit {0}) Error → Type 0
IsCopyAnswer reads below absent o n result = (answer : Result (Unit {0}) Error)
    × IsOldRead reads below absent o n answer × IfErr answer (λ e. result ≡ Err e)
    × OnOk answer (IfErr result IsExtRefusal)

-- the layer below answered that refusal to a read
abbrev pub IsRefusedBelow : {B : Type 0} → (ℕ → ℕ → Asking B (Unit {0})) → Option (Bor B) → Error
    → Type 0
IsRefusedBelow reads None e = ⊥
IsRefusedBelow reads (Some b) e = (o : ℕ) × (n : ℕ) × reads o n b.now (Err e)

-- What each call does that writes the storage and is lent the layer below: the storage keeps its
-- features, and gets no shorter. Each failure of either is counted, and a refusal is one of the
-- storage's own or what the layer below answered to a read.
pub record IsLendingCall {B T : Type 0} (layer : B → LayerBelow)
    (reads : ℕ → ℕ → Asking B (Unit {0})) (below : Option (Bor B))
    (old_features new_features : Features) (old new : List ℕ) (before now : ℕ)
    (result : Result T Error) : Type 0 where
  pub features : new_features ≡ old_features
  pub no_shorter : length old ≤ length new
  pub faults : CountsFaults (old_features.is_reliable && (lent layer below).is_reliable) before now
      result
  pub by_name : IfErr result (λ e. IsExtRefusal e ⊎ IsRefusedBelow reads below e)

-- why what n such places from o on show may not be read
abbrev pub old_reasons : LayerBelow → Bool → ℕ → ℕ → Reasons
old_reasons l absent o n = record none {
  cause = λ e. (absent ≡ true) × l.cause o n e;
  device = Unit {0};
  memory = Unit {0};
}

-- why it may not be copied to that offset of the storage
abbrev pub copy_reasons : Features → LayerBelow → Bool → ℕ → ℕ → ℕ → Reasons
copy_reasons f l absent o n to = record none {
  cause = λ e. (0 < n)
      × (((e ≡ Error.WrapAround) × Wraps f to n) ⊎ ((absent ≡ true) × l.cause o n e));
  device = Unit {0};
  memory = Unit {0};
}

-- the offset in the disk that the guest block of an offset begins at, and where it ends, by the
-- disk's end at the latest
abbrev pub block_from : ℕ → ℕ → ℕ
block_from block o = o - o % block

abbrev pub block_until : ℕ → ℕ → ℕ → ℕ
block_until block size o = min size (block_from block o + block)

-- The range isn't empty, and lies in the guest block of that offset and in the disk.
pub record IsInBlock (block size o q m : ℕ) : Type 0 where
  pub some : 0 < m
  pub above : block_from block o ≤ q
  pub below : q + m ≤ block_until block size o

-- q .. q + m is wholly before o .. o + n, or wholly behind it
abbrev pub IsApart : ℕ → ℕ → ℕ → ℕ → Type 0
IsApart o n q m = (q + m ≤ o) ⊎ (o + n ≤ q)

-- Why the guest block of a range o .. o + n may not be copied to that offset of the storage. For
-- overwriting what bars a read of the range itself is no reason.
abbrev pub round_reasons : Features → LayerBelow → Bool → Bool → ℕ → ℕ → ℕ → ℕ → ℕ → Reasons
round_reasons f l absent overwrite block size o n to = record none {
  cause = λ e. ((e ≡ Error.WrapAround) × HasWrappingPart (Wraps f) to block)
      ⊎ ((absent ≡ true)
      × ((q : ℕ) × (m : ℕ) × IsInBlock block size o q m × (overwrite ≡ true → IsApart o n q m)
      × l.cause q m e));
  device = Unit {0};
  memory = Unit {0};
}

-- Why a prepare for overwriting n bytes from o on may be refused: in the data blocks a write wraps
-- around, or the guest block is absent, and the layer below can't be read before or behind the
-- prepared part of the range. What bars a read of that part is no reason.
abbrev pub over_reasons : Features → LayerBelow → ℕ → ℕ → List GuestBlock → ℕ → ℕ → ℕ → Reasons
over_reasons f l block size entries blocks o n = record none {
  cause = λ e. ((e ≡ Error.WrapAround)
      × DataWraps f block (data_count block size entries blocks None Write o n))
      ⊎ ((slice_get entries (o / block) ≡ Some GuestBlock.Absent)
      × ((q : ℕ) × (m : ℕ) × IsInBlock block size o q m × IsApart o (in_block block o n) q m
      × l.cause q m e));
  device = Unit {0};
  memory = Unit {0};
}
