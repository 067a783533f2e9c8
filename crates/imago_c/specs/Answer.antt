-- SPDX-License-Identifier: MIT
use Rattle.std.specs.Prelude.{◌≡◌, ℕ, ◌⊎◌, ◌++◌, List, length, take, drop, Result, Ok, Err, IsOk}
use Rattle.imago_storage.specs.declared.error.Error.{Error}
use Rattle.imago_storage.specs.declared.error.Error.TheVariants.{ReadOnly, BeyondDisk}
use Rattle.imago_storage.specs.declared.error.Error.TheVariants.{RangeOverflow, WrapAround}
use Rattle.imago_storage.specs.declared.error.Error.TheVariants.{InvalidData, Unsupported, NoAccess}
use Rattle.imago_storage.specs.declared.error.Error.TheVariants.{Device, Memory, ForeignMapping}
use Rattle.imago_storage.specs.declared.error.Error.TheVariants.{Denied, NotFound}

-- the number of each refusal
abbrev pub code_of : Error → ℕ
code_of ReadOnly = 1
code_of BeyondDisk = 2
code_of RangeOverflow = 3
code_of WrapAround = 4
code_of InvalidData = 5
code_of Unsupported = 6
code_of NoAccess = 7
code_of Device = 8
code_of Memory = 9
code_of ForeignMapping = 10
code_of Denied = 11
code_of NotFound = 12

-- the number of what a call answers that tells nothing else
abbrev pub answer_code : Result (Unit {0}) Error → ℕ
answer_code (Ok done) = 0
answer_code (Err e) = code_of e

-- What a call answers by a number: 0, and what is wanted was told; or the number of its refusal, or
-- of another one that may be, and all was left so.
abbrev pub IsAnswer :
    {X : Type 0} → Result X Error → (Error → Type 0) → (X → Type 0) → Type 0 → ℕ → Type 0
IsAnswer {X} wanted other told left code =
    ((x : X) × (wanted ≡ Ok x) × told x × (code ≡ 0))
    ⊎ ((e : Error) × ((wanted ≡ Err e) ⊎ other e) × left × (code ≡ code_of e))

-- want of memory, where what is wanted is there
abbrev pub IsMemory : {X : Type 0} → Result X Error → Error → Type 0
IsMemory wanted e = (e ≡ Memory) × IsOk wanted

-- As many of these as fit are at the front of a buffer, and what is behind them stayed.
abbrev pub IsFront : {A : Type 0} → List A → List A → List A → Type 0
IsFront old whole new = new ≡ take (length old) whole ++ drop (length whole) old
