-- SPDX-License-Identifier: MIT
use Rattle.std.specs.Prelude.{◌≡◌, ◌≢◌, ℕ, ◌+◌, ◌-◌, ◌<◌, ◌≤◌, ◌⊎◌, List, ◌++◌, length, take, drop}
use Rattle.std.specs.Prelude.{min, max, map, replicate, slice_index, EachIndex, Bool, IsTrue}
use Rattle.std.specs.Prelude.{Result, OnOk, OnErr}
use Rattle.std.specs.List.{range_with_len}
use Rattle.imago_storage.specs.declared.error.Error.{Error}
use Rattle.imago_storage.specs.declared.options.PreallocateMode.{PreallocateMode}
use Rattle.imago_storage.specs.declared.options.PreallocateMode.TheVariants as Mode

-- A storage's bytes are a list. The byte at an offset is `slice_index bytes offset`, which is 0
-- past the end.

-- the bytes with these new ones from the offset on, and with zeroes where offsets are skipped
unfoldable pub splice : List ℕ → ℕ → List ℕ → List ℕ
splice bytes at new = take at (bytes ++ replicate (at - length bytes) 0) ++ new ++ drop
    (at + length new) bytes

-- A splice, byte by byte: the new bytes in their range, every other one as it was.
pub record IsSplice (bytes : List ℕ) (at : ℕ) (new now : List ℕ) : Type 0 where
  pub inside : (p : ℕ) → at ≤ p → p < at + length new → slice_index now p ≡ slice_index new (p - at)
  pub before : (p : ℕ) → p < at → slice_index now p ≡ slice_index bytes p
  pub behind : (p : ℕ) → at + length new ≤ p → slice_index now p ≡ slice_index bytes p
  pub size : length now ≡ max (length bytes) (at + length new)

abbrev pub SpliceByOffset : Type 0
SpliceByOffset = (bytes : List ℕ) (at : ℕ) (new : List ℕ)
    → IsSplice bytes at new (splice bytes at new)

-- the bytes with zeroes behind them, up to that length at least
abbrev pub zero_extended : List ℕ → ℕ → List ℕ
zero_extended bytes n = bytes ++ replicate (n - length bytes) 0

-- Each offset has the old byte or the target's, and the length is between theirs. A target is the
-- old bytes with a range changed, so every byte outside that range is as it was.
pub record OldOrNew (old target now : List ℕ) : Type 0 where
  pub each : (p : ℕ) → (slice_index now p ≡ slice_index old p)
      ⊎ (slice_index now p ≡ slice_index target p)
  pub no_shorter : length old ≤ length now
  pub no_longer : length now ≤ length target

-- What a write towards a target did, at any result. Where the storage keeps no data, its length
-- alone is known.
pub record WriteOutcome {T : Type 0} (keeps_data : Bool) (old target now : List ℕ)
    (result : Result T Error) : Type 0 where
  pub done : IsTrue keeps_data → OnOk result (now ≡ target)
  pub len : OnOk result (length now ≡ length target)
  pub refused : IsTrue keeps_data → OnErr result (OldOrNew old target now)
  pub no_shorter : length old ≤ length now
  pub no_longer : length now ≤ length target

-- the n bytes from the offset on, 0 past their end
abbrev pub bytes_at : List ℕ → ℕ → ℕ → List ℕ
bytes_at bytes at n = map (slice_index bytes) (range_with_len at n)

-- the buffer holds the bytes from the offset on, 0 past their end
abbrev pub IsReadAt : List ℕ → ℕ → List ℕ → Type 0
IsReadAt bytes at buffer = EachIndex buffer (λ i. slice_index buffer i ≡ slice_index bytes (at + i))

-- The length and each byte outside the range are as they were.
pub record SameOutside (at n : ℕ) (old now : List ℕ) : Type 0 where
  pub before : (p : ℕ) → p < at → slice_index now p ≡ slice_index old p
  pub behind : (p : ℕ) → at + n ≤ p → slice_index now p ≡ slice_index old p
  pub same_length : length now ≡ length old

-- every byte from the offset on is 0
abbrev pub IsZeroFrom : ℕ → List ℕ → Type 0
IsZeroFrom at bytes = (p : ℕ) → at ≤ p → slice_index bytes p ≡ 0

-- The length is the new size, bytes that stay are kept, and new bytes are 0 unless the mode leaves
-- them unspecified.
pub record IsResized (old : List ℕ) (new_size : ℕ) (mode : PreallocateMode) (now : List ℕ) : Type 0
  where
    pub size : length now ≡ new_size
    pub kept : (p : ℕ) → p < min new_size (length old) → slice_index now p ≡ slice_index old p
    pub zero : (p : ℕ) → mode ≢ Mode.None → length old ≤ p → slice_index now p ≡ 0
