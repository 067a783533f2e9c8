-- What the calls of an open file are, and which of them a storage over it makes.
-- SPDX-License-Identifier: MIT
use Rattle.std.specs.Prelude.{◌≡◌, ℕ, ◌+◌, ◌-◌, ◌^◌, ◌<◌, ◌&&◌, Bool, true, false, List, replicate}
use Rattle.std.specs.Prelude.{nat_lt, length, max, min, Result, Ok, Err, OnOk, OnErr}
use Rattle.std.specs.declared.io.Error.{Error as IoError}
use Rattle.imago_storage.specs.declared.error.Error.{Error}
use Rattle.imago_storage.specs.declared.error.Error.TheVariants.{Device, Unsupported}
use Rattle.imago_storage.specs.declared.options.PreallocateMode.{PreallocateMode}
use Rattle.imago_storage.specs.declared.options.PreallocateMode.TheVariants as Mode

-- what a call of a file answers
abbrev pub Answer : Type 0
Answer = Result (Unit {0}) IoError

-- Relations between a file before a call, the file after it, and the answer. In code that is
-- generic over the file, only the call itself gives its relation, so a call can't be left out, made
-- with other arguments, or have its answer replaced.
pub record FileCalls (File : Type 0) : Type 1 where
  -- the length was asked for
  pub measured : File → Result ℕ IoError → Type 0
  -- a read at that offset, by what is in the buffer afterwards
  pub read : ℕ → List ℕ → File → Answer → Type 0
  -- a write of these bytes at that offset
  pub written : ℕ → List ℕ → File → File → Answer → Type 0
  -- the length was set
  pub resized : ℕ → File → File → Answer → Type 0
  -- the data was synced
  pub synced : File → File → Answer → Type 0

-- nothing is said of any call
abbrev pub any_calls : {File : Type 0} → FileCalls File
any_calls = record {
  measured = λ file answer. Unit {0};
  read = λ at buffer file answer. Unit {0};
  written = λ at source old new answer. Unit {0};
  resized = λ n old new answer. Unit {0};
  synced = λ old new answer. Unit {0};
}

-- what a storage answers where its file answers so: each refusal is the device's
abbrev pub storage_answer : Answer → Result (Unit {0}) Error
storage_answer (Ok t) = Ok t
storage_answer (Err e) = Err Device

-- The call was made, and its answer passed on.
pub record IsPassedOn (call : Answer → Type 0) (result : Result (Unit {0}) Error) : Type 0 where
  pub answer : Answer
  pub made : call answer
  pub result_is : result ≡ storage_answer answer

-- The count of faults behind a call: one more where the device refused it, up to the greatest count,
-- and else as it was.
abbrev pub faults_behind : ℕ → Result (Unit {0}) Error → ℕ
faults_behind count (Err Device) = min (count + 1) (2 ^ 64 - 1)
faults_behind count _ = count

-- The length that a file of that length is taken to have behind a refused write up to some end, by
-- what it answers when it is asked: no less than it had, and no more than the write would have made
-- it.
abbrev pub length_asked : Result ℕ IoError → ℕ → ℕ → ℕ
length_asked (Ok n) len end = max len (min n end)
length_asked (Err e) len end = len

-- A write of a storage's file, and the length that the storage takes it to have: behind a refused
-- write the file was asked.
pub record IsWrittenAt {File : Type 0} (calls : FileCalls File) (at : ℕ) (source : List ℕ)
    (old new : File) (len now : ℕ) (result : Result (Unit {0}) Error) : Type 0 where
  pub answer : Answer
  pub made : calls.written at source old new answer
  pub result_is : result ≡ storage_answer answer
  pub grown : OnOk answer (now ≡ max len (at + length source))
  pub asked : OnErr answer ((n : Result ℕ IoError) × calls.measured new n
      × (now ≡ length_asked n len (at + length source)))

-- A storage's write: that of its file, or none where the file is open for reading only.
abbrev pub IsFileWrite : {File : Type 0} → FileCalls File → Bool → ℕ → List ℕ → File → File → ℕ → ℕ
    → Result (Unit {0}) Error → Type 0
IsFileWrite calls true at source old new len now result =
    IsWrittenAt calls at source old new len now result
IsFileWrite calls false at source old new len now result =
    (new ≡ old) × (now ≡ len) × (result ≡ Err Device)

-- Zeroes were written as data from one offset up to another, piece by piece.
pub data IsZeroed {File : Type 0} (calls : FileCalls File) (start : ℕ) (old : File)
    : ℕ → File → Type 0 where
  Nothing : IsZeroed calls start old start old
  Piece : (at n : ℕ) (mid now : File) → 0 < n → IsZeroed calls start old at mid
      → calls.written at (replicate n 0) mid now (Ok tt) → IsZeroed calls start old (at + n) now

-- Such zeroes were written up to some offset, and the next piece was refused.
pub record IsStopped {File : Type 0} (calls : FileCalls File) (start : ℕ) (old : File)
    (cause : IoError) (now : File) : Type 0 where
  pub at : ℕ
  pub mid : File
  pub zeroed : IsZeroed calls start old at mid
  pub n : ℕ
  pub stopped : calls.written at (replicate n 0) mid now (Err cause)

-- A file that refused such a piece was cut back to the length that it had, or refused that too.
pub record IsCutBack {File : Type 0} (calls : FileCalls File) (len : ℕ) (old : File)
    (cause : IoError) (new : File) : Type 0 where
  pub longer : File
  pub stopped : IsStopped calls len old cause longer
  pub answer : Answer
  pub cut : calls.resized len longer new answer

-- a growth by zeroes that are written as data
abbrev pub IsGrownByData : {File : Type 0} → FileCalls File → ℕ → ℕ → File → File → Answer → Type 0
IsGrownByData calls len n old new (Ok t) = IsZeroed calls len old n new
IsGrownByData calls len n old new (Err cause) = IsCutBack calls len old cause new

-- whether a mode asks for zeroes that are written as data
abbrev pub writes_data : PreallocateMode → Bool
writes_data Mode.None = false
writes_data Mode.Zero = false
writes_data Mode.Allocate = true
writes_data Mode.WriteData = true

-- The length of a file of that length was set: by zeroes as data, or by the file's own call.
pub record IsSizeSet {File : Type 0} (calls : FileCalls File) (len n : ℕ) (mode : PreallocateMode)
    (old new : File) (answer : Answer) : Type 0 where
  pub by_data : (writes_data mode && nat_lt len n) ≡ true → IsGrownByData calls len n old new answer
  pub by_call : (writes_data mode && nat_lt len n) ≡ false → calls.resized n old new answer

-- A storage's resize: its file's length was set, or it isn't writable.
abbrev pub IsFileResize : {File : Type 0} → FileCalls File → Bool → ℕ → ℕ → PreallocateMode → File
    → File → Result (Unit {0}) Error → Type 0
IsFileResize calls true len n mode old new result = IsPassedOn (IsSizeSet calls len n mode old new)
    result
IsFileResize calls false len n mode old new result = (new ≡ old) × (result ≡ Err Unsupported)
