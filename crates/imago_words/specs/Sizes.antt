-- What texts of sizes are, and of changes of a size.
-- SPDX-License-Identifier: MIT
use Rattle.std.specs.Prelude.{◌∷◌, ◌+◌, ◌-◌, ◌*◌, ◌^◌, ◌==◌, ◌||◌, ℕ, []}
use Rattle.std.specs.Prelude.{Option, Some, None, if◌then◌else◌, nat_lt, option_and_then}
use Rattle.std.specs.Prelude.{codes, option_map}
use Rattle.std.specs.Str.{bytes_eq}
use Rattle.imago_words.specs.declared.command.NewSize.{NewSize}
use Rattle.imago_words.specs.declared.command.NewSize.TheVariants.{Said, More, Fewer}
use Rattle.imago_words.specs.Reading.{Text, begins_number, first_letter}

-- the number, if it is below 2 ^ 63
abbrev pub bounded : ℕ → Option ℕ
bounded n = if nat_lt n (2 ^ 63) then Some n else None

-- the number with one more decimal digit behind it
abbrev pub with_digit : ℕ → ℕ → Option ℕ
with_digit n digit = bounded (n * 10 + (digit - 48))

-- what a unit's letter stands for, in upper and lower case: B, K, M, G, T, P and E
unfoldable pub unit_of : ℕ → Option ℕ
unit_of letter =
    if letter == 66 || letter == 98 then Some 1 else
    if letter == 75 || letter == 107 then Some (2 ^ 10) else
    if letter == 77 || letter == 109 then Some (2 ^ 20) else
    if letter == 71 || letter == 103 then Some (2 ^ 30) else
    if letter == 84 || letter == 116 then Some (2 ^ 40) else
    if letter == 80 || letter == 112 then Some (2 ^ 50) else
    if letter == 69 || letter == 101 then Some (2 ^ 60) else None

-- the number of so many units, where the unit's letter is the last
abbrev pub with_unit : ℕ → ℕ → Text → Option ℕ
with_unit n letter [] = option_and_then (λ unit. bounded (n * unit)) (unit_of letter)
with_unit n letter (_ ∷ _) = None

-- the size that a text is whose digits so far are that number
unfoldable pub size_from : ℕ → Text → Option ℕ
size_from n [] = Some n
size_from n (b ∷ rest) = if begins_number (b ∷ rest)
    then option_and_then (λ m. size_from m rest) (with_digit n b) else with_unit n b rest

-- the size that a text is: it begins with a digit
abbrev pub size_of : Text → Option ℕ
size_of text = if begins_number text then size_from 0 text else None

-- a size, or behind a sign by how much it changes
unfoldable pub new_size_by : Text → Option (Text × Text) → Option NewSize
new_size_by text None = option_map Said (size_of text)
new_size_by text (Some parts) =
    if bytes_eq parts.0 (codes "+") then option_map More (size_of parts.1) else
    if bytes_eq parts.0 (codes "-") then option_map Fewer (size_of parts.1) else
    option_map Said (size_of text)

abbrev pub new_size_of : Text → Option NewSize
new_size_of text = new_size_by text (first_letter text)
