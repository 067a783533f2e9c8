-- SPDX-License-Identifier: MIT
use Rattle.std.specs.Prelude.{◌≡◌, ℕ, ◌⊎◌, List, Result, Ok, Err, OnOk, OnErr}
use Rattle.imago_storage.specs.Bytes.{splice, IsResized}
use Rattle.imago_storage.specs.declared.error.Error.{Error}
use Rattle.imago_storage.specs.declared.options.PreallocateMode.{PreallocateMode}
use Rattle.imago_storage.specs.declared.options.ZeroKind.{ZeroKind}
use Rattle.imago_storage.specs.declared.error.Error.TheVariants.{Unsupported}

-- What each call is beside what the bytes show: relations between the old value, the new one, and
-- the result. Nothing but the call itself gives its relation for a storage that isn't known, so a
-- call can't be left out, made again, or its refusal dropped.
pub record Maintenance (Self : Type 0) : Type 1 where
  pub flushed : Self → Self → Result (Unit {0}) Error → Type 0
  pub synced : Self → Self → Result (Unit {0}) Error → Type 0
  pub invalidated : Self → Self → Result (Unit {0}) Error → Type 0
  pub settled : Self → Self → Result (Unit {0}) Error → Type 0
  -- of a range, by its offset and length
  pub discarded : ℕ → ℕ → Self → Self → Result (Unit {0}) Error → Type 0
  -- to that length, with new bytes made in that mode
  pub resized : ℕ → PreallocateMode → Self → Self → Result (Unit {0}) Error → Type 0
  -- a counted read at that offset, by what is in the buffer afterwards
  pub counted : ℕ → List ℕ → Self → Self → Result (Unit {0}) Error → Type 0
  -- a pure write of these bytes at that offset
  pub written : ℕ → List ℕ → Self → Self → Result (Unit {0}) Error → Type 0
  -- of that kind, of a range
  pub zeroed_in_place : ZeroKind → ℕ → ℕ → Self → Self → Result (Unit {0}) Error → Type 0
  -- a zero write of its own, beside one in place, or else as data
  pub zeroed : ZeroKind → ℕ → ℕ → Self → Self → Result (Unit {0}) Error → Type 0

-- the call succeeded, and nothing changed
abbrev pub IsNothing : {Self : Type 0} → Self → Self → Result (Unit {0}) Error → Type 0
IsNothing old new result = (new ≡ old) × (result ≡ Ok tt)

-- any counted read, write, resize or zero write in place, whatever it did; and no zero write of its
-- own
abbrev pub IsAnyRead : {Self : Type 0} → ℕ → List ℕ → Self → Self → Result (Unit {0}) Error → Type 0
IsAnyRead at buffer old new result = Unit {0}

abbrev pub IsAnyWrite : {Self : Type 0} → ℕ → List ℕ → Self → Self → Result (Unit {0}) Error
    → Type 0
IsAnyWrite at source old new result = Unit {0}

abbrev pub IsAnyResize : {Self : Type 0} → ℕ → PreallocateMode → Self → Self
    → Result (Unit {0}) Error → Type 0
IsAnyResize n mode old new result = Unit {0}

abbrev pub IsAnyZeroing : {Self : Type 0} → ZeroKind → ℕ → ℕ → Self → Self → Result (Unit {0}) Error
    → Type 0
IsAnyZeroing kind at n old new result = Unit {0}

abbrev pub IsNoZeroing : {Self : Type 0} → ZeroKind → ℕ → ℕ → Self → Self → Result (Unit {0}) Error
    → Type 0
IsNoZeroing kind at n old new result = ⊥

-- The bytes are resized to that length, in that mode; refused, they are as they were. No more is
-- told of the storage.
abbrev pub resizes_bytes : {Self : Type 0} → (Self → List ℕ) → ℕ → PreallocateMode → Self → Self
    → Result (Unit {0}) Error → Type 0
resizes_bytes bytes_of n mode old new result = OnOk result
    (IsResized (bytes_of old) n mode (bytes_of new)) × OnErr result (bytes_of new ≡ bytes_of old)

-- The bytes are written at that offset; refused, they are as they were. No more is told of the
-- storage.
abbrev pub writes_bytes : {Self : Type 0} → (Self → List ℕ) → ℕ → List ℕ → Self → Self
    → Result (Unit {0}) Error → Type 0
writes_bytes bytes_of at source old new result =
    OnOk result (bytes_of new ≡ splice (bytes_of old) at source)
    × OnErr result (bytes_of new ≡ bytes_of old)

-- Flush, sync, invalidation, wait and discard do nothing; of a read, a write, a resize, and a zero
-- write in place nothing is said, and there is no other zero write. A storage that has more to say
-- says its own.
abbrev pub no_maintenance : {Self : Type 0} → Maintenance Self
no_maintenance = record {
  flushed = IsNothing;
  synced = IsNothing;
  invalidated = IsNothing;
  settled = IsNothing;
  discarded = λ at n. IsNothing;
  resized = IsAnyResize;
  counted = IsAnyRead;
  written = IsAnyWrite;
  zeroed_in_place = IsAnyZeroing;
  zeroed = IsNoZeroing;
}

-- The storage's own discard of that range was made, and its answer passed on; where it isn't
-- offered, that is no refusal.
pub record IsDiscarded {Self : Type 0} (calls : Maintenance Self) (at n : ℕ) (old new : Self)
    (result : Result (Unit {0}) Error) : Type 0 where
  pub answer : Result (Unit {0}) Error
  pub made : calls.discarded at n old new answer
  pub passed_on : (result ≡ answer) ⊎ ((answer ≡ Err Unsupported) × (result ≡ Ok tt))
