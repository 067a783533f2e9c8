-- What an open file holds, where that is told, and what its calls make of it.
-- SPDX-License-Identifier: MIT
use Rattle.std.specs.Prelude.{◌≡◌, ◌≤◌, ℕ, ◌-◌, ◌++◌, List, Option, Some, None, Result, IsOk}
use Rattle.std.specs.Prelude.{length, take, replicate}
use Rattle.std.specs.Option.{ForSome}
use Rattle.imago_storage.specs.Bytes.{splice, IsReadAt}

-- A file's contents are a list of bytes where an implementation tells them, as that of a file in
-- memory does. No contract says what the system's files hold: of these there are none.

-- the bytes that a file shows: what it holds, and, where that isn't told, zeroes of its length
abbrev pub told_bytes : Option (List ℕ) → ℕ → List ℕ
told_bytes None len = replicate len 0
told_bytes (Some bytes) len = bytes

-- what is told is of that length
abbrev pub IsLong : Option (List ℕ) → ℕ → Type 0
IsLong contents len = ForSome contents (λ bytes. length bytes ≡ len)

-- the buffer holds what is told from the offset on, 0 past its end
abbrev pub HoldsAt : Option (List ℕ) → ℕ → List ℕ → Type 0
HoldsAt None at buffer = Unit {0}
HoldsAt (Some bytes) at buffer = IsReadAt bytes at buffer

-- what is told after a write of these bytes at the offset
abbrev pub spliced : Option (List ℕ) → ℕ → List ℕ → Option (List ℕ)
spliced None at new = None
spliced (Some bytes) at new = Some (splice bytes at new)

-- the bytes cut, or filled with zeroes, to that length
abbrev pub sized : List ℕ → ℕ → List ℕ
sized bytes n = take n bytes ++ replicate (n - length bytes) 0

-- what is told after the length was set
abbrev pub resized : Option (List ℕ) → ℕ → Option (List ℕ)
resized None n = None
resized (Some bytes) n = Some (sized bytes n)

-- A file that tells what it holds can always be cut.
abbrev pub IsCut : {T E : Type 0} → Option (List ℕ) → ℕ → Result T E → Type 0
IsCut contents n result = ForSome contents (λ bytes. n ≤ length bytes → IsOk result)

-- what is told is that of a file of that length, with zeroes behind it, or none
abbrev pub IsPartlyGrown : Option (List ℕ) → ℕ → Option (List ℕ) → Type 0
IsPartlyGrown contents len now = (n : ℕ) × (len ≤ n) × (now ≡ resized contents n)
