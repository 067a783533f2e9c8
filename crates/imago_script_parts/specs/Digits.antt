-- bytes as hexadecimal digits, two for each: which are read already, and what is no digit
-- SPDX-License-Identifier: MIT
use Rattle.std.specs.Prelude.{◌≡◌, ℕ, ◌+◌, ◌*◌, ◌/◌, ◌%◌, ◌<◌}
use Rattle.std.specs.Prelude.{List, Some, None, length, slice_index}
use Rattle.hex.specs.Hex.{hex_digit_value}

-- two digits, in either case, spell a byte
pub record SpellsByte (high low byte : ℕ) : Type 0 where
  pub first : hex_digit_value high ≡ Some (byte / 16)
  pub second : hex_digit_value low ≡ Some (byte % 16)

-- the first bytes, so many, are what the first digits spell
abbrev pub AreRead : List ℕ → List ℕ → ℕ → Type 0
AreRead digits bytes count = (place : ℕ) → place < count
    → SpellsByte (slice_index digits (2 * place)) (slice_index digits (2 * place + 1))
    (slice_index bytes place)

-- at some place is no digit
abbrev pub HasOther : List ℕ → Type 0
HasOther digits = (place : ℕ) × (place < length digits)
    × (hex_digit_value (slice_index digits place) ≡ None)
