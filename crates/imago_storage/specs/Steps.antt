-- Of which calls a write is made, and in which order.
-- SPDX-License-Identifier: MIT

use Rattle.std.specs.Prelude.{◌≡◌, ℕ, ◌+◌, ◌-◌, ◌*◌, ◌/◌, ◌%◌, List, [], ◌∷◌, ◌++◌, length}
use Rattle.std.specs.Prelude.{take, drop}
use Rattle.std.specs.Prelude.{Result, Ok, Err, OnOk, IsTrue, zero, suc, min}
use Rattle.imago_storage.specs.declared.error.Error.{Error}
use Rattle.imago_storage.specs.Bytes.{splice, WriteOutcome, IsReadAt}
use Rattle.imago_storage.specs.Features.{Features, len_align}
use Rattle.imago_storage.specs.Maintenance.{Maintenance, IsNothing}

-- One step of a write: whole blocks as they are given, or some bytes of one block, from `head` on
-- in it.
pub data WriteStep : Type 0 where
  Blocks : ℕ → List ℕ → WriteStep
  PartOf : ℕ → ℕ → List ℕ → WriteStep

-- the step for these bytes, and none where there are none
abbrev pub blocks_step : ℕ → List ℕ → List WriteStep
blocks_step at [] = []
blocks_step at (b ∷ more) = Blocks at (b ∷ more) ∷ []

abbrev pub part_step : ℕ → ℕ → List ℕ → List WriteStep
part_step start head [] = []
part_step start head (b ∷ more) = PartOf start head (b ∷ more) ∷ []

-- from a block's start on: the blocks that are filled, at once, and then a part of the last one
abbrev pub steps_of_blocks : ℕ → ℕ → List ℕ → List WriteStep
steps_of_blocks block start source = blocks_step start (take (length source / block * block) source)
    ++ part_step (start + length source / block * block) 0
    (drop (length source / block * block) source)

-- the bytes from `head` on up to the block's end, none where the block starts there
abbrev pub up_to_block : ℕ → ℕ → ℕ
up_to_block block head = (block - head) % block

-- from `head` on in a block: a part of that one, and then from the next block's start on
abbrev pub steps_from : ℕ → ℕ → ℕ → List ℕ → List WriteStep
steps_from block head at source = part_step (at - head) head (take (up_to_block block head) source)
    ++ steps_of_blocks block (at + up_to_block block head) (drop (up_to_block block head) source)

-- The steps of a write of any range. One that is aligned is one step.
abbrev pub write_steps : Features → ℕ → List ℕ → List WriteStep
write_steps f at source = steps_from (len_align f) (at % f.req_align) at source

-- The first is made, and behind its success the second. A refusal of the first is the answer, and
-- nothing is made behind it.
pub record IsThen {S : Type 0} (first second : S → S → Result (Unit {0}) Error → Type 0)
    (old new : S) (result : Result (Unit {0}) Error) : Type 0 where
  pub answer : Result (Unit {0}) Error
  pub between : S
  pub made : first old between answer
  pub refused : (e : Error) → answer ≡ Err e → (new ≡ between) × (result ≡ Err e)
  pub behind : answer ≡ Ok tt → second between new result

-- A pure write: the storage's own call of it, and the bytes that it leaves.
pub record IsPureWrite {S : Type 0} (features_of : S → Features) (bytes_of : S → List ℕ)
    (calls : Maintenance S) (at : ℕ) (source : List ℕ) (old new : S)
    (result : Result (Unit {0}) Error) : Type 0 where
  pub made : calls.written at source old new result
  pub bytes : WriteOutcome (features_of old).keeps_data (bytes_of old)
      (splice (bytes_of old) at source) (bytes_of new) result
  pub features : features_of new ≡ features_of old

-- A counted read of a block: the storage's own call of it. It changes no byte, and where the
-- storage tells its bytes, the buffer has those that stand there.
pub record IsBlockRead {S : Type 0} (features_of : S → Features) (bytes_of : S → List ℕ)
    (calls : Maintenance S) (start : ℕ) (buffer : List ℕ) (old new : S)
    (result : Result (Unit {0}) Error) : Type 0 where
  pub made : calls.counted start buffer old new result
  pub shows : IsTrue (features_of old).tells_bytes
      → OnOk result (IsReadAt (bytes_of old) start buffer)
  pub unchanged : bytes_of new ≡ bytes_of old
  pub features : features_of new ≡ features_of old

-- A part of a block is written: the block is read, changed, and written back.
pub record IsUpdated {S : Type 0} (features_of : S → Features) (bytes_of : S → List ℕ)
    (calls : Maintenance S) (block start head : ℕ) (source : List ℕ) (old new : S)
    (result : Result (Unit {0}) Error) : Type 0 where
  pub buffer : List ℕ
  pub is_block : length buffer ≡ block
  pub made : IsThen (IsBlockRead features_of bytes_of calls start buffer)
      (IsPureWrite features_of bytes_of calls start (splice buffer head source)) old new result

-- how a step is made
abbrev pub IsStep : {S : Type 0} → (S → Features) → (S → List ℕ) → Maintenance S → ℕ → WriteStep
    → S → S → Result (Unit {0}) Error → Type 0
IsStep features_of bytes_of calls block (Blocks at source) =
    IsPureWrite features_of bytes_of calls at source
IsStep features_of bytes_of calls block (PartOf start head source) =
    IsUpdated features_of bytes_of calls block start head source

-- these steps were made, in this order, and no others
abbrev pub IsMadeInSteps : {S : Type 0} → (S → Features) → (S → List ℕ) → Maintenance S → ℕ
    → List WriteStep → S → S → Result (Unit {0}) Error → Type 0
IsMadeInSteps features_of bytes_of calls block [] = IsNothing
IsMadeInSteps features_of bytes_of calls block (step ∷ more) =
    IsThen (IsStep features_of bytes_of calls block step)
    (IsMadeInSteps features_of bytes_of calls block more)

-- Calls on ranges, each range by its offset and its length: they were made one after the other, and
-- no others.
abbrev pub AreMadeInOrder : {S : Type 0} → (ℕ → ℕ → S → S → Result (Unit {0}) Error → Type 0)
    → List (ℕ × ℕ) → S → S → Result (Unit {0}) Error → Type 0
AreMadeInOrder call [] = IsNothing
AreMadeInOrder call ((at, n) ∷ more) = IsThen (call at n) (AreMadeInOrder call more)

-- the range, and none where it has no bytes
abbrev pub some_range : ℕ → ℕ → List (ℕ × ℕ)
some_range at zero = []
some_range at (suc n) = (at, suc n) ∷ []

-- so many whole pieces from `at` on, and the rest behind them
abbrev pub pieces_from : ℕ → ℕ → ℕ → ℕ → List (ℕ × ℕ)
pieces_from piece at zero rest = some_range at rest
pieces_from piece at (suc more) rest = (at, piece) ∷ pieces_from piece (at + piece) more rest

-- n bytes from `at` on, in pieces of at most that length
abbrev pub pieces_of : ℕ → ℕ → ℕ → List (ℕ × ℕ)
pieces_of piece at n = pieces_from piece at (n / piece) (n % piece)

-- the same, where the first piece is there also if it has no bytes
abbrev pub one_piece_or_more : ℕ → ℕ → ℕ → List (ℕ × ℕ)
one_piece_or_more piece at n = (at, min piece n) ∷ pieces_of piece (at + piece) (n - piece)

-- the bytes of a range up to its first multiple of the request alignment
abbrev pub head_of : Features → ℕ → ℕ → ℕ
head_of f at n = min (up_to_block f.req_align (at % f.req_align)) n
