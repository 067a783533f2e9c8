-- SPDX-License-Identifier: MIT
use Rattle.std.specs.Prelude.{◌≡◌, ℕ, List, [], ◌∷◌, ◌++◌, ◌<◌, ◌≤◌, ◌⊎◌, Ok, length, EachIndex}
use Rattle.std.specs.Prelude.{slice_index}
use Rattle.hex.specs.Hex.{decode_of}

-- a word of a line: one byte or more, each of them one that prints and no space
pub record IsWord (bytes : List ℕ) : Type 0 where
  pub some : 0 < length bytes
  pub prints : EachIndex bytes (λ i. (33 ≤ slice_index bytes i) × (slice_index bytes i ≤ 126))

-- Digits spell bytes: two in hex for each, in either case, and at least one byte; or a hyphen,
-- which spells none.
abbrev pub Spells : List ℕ → List ℕ → Type 0
Spells digits bytes = ((digits ≡ 45 ∷ []) × (bytes ≡ []))
    ⊎ ((0 < length digits) × (decode_of digits ≡ Ok bytes))

-- no bytes are spelt by digits
abbrev pub SpellsNone : List ℕ → Type 0
SpellsNone digits = (bytes : List ℕ) → Spells digits bytes → ⊥

-- A text is cut at its first byte of that value, into what stands before it and what behind it.
-- Where there is none, all stands before.
pub record IsCut (separator : ℕ) (text before behind : List ℕ) : Type 0 where
  pub none_before : EachIndex before (λ i. slice_index before i ≡ separator → ⊥)
  pub whole : (text ≡ before ++ separator ∷ behind) ⊎ ((text ≡ before) × (behind ≡ []))
