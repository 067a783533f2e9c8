-- SPDX-License-Identifier: MIT
use Rattle.std.specs.Prelude.{ℕ, ◌^◌, Bool, true, false, ◌&&◌, List, [], ◌∷◌, map, length, Option}
use Rattle.std.specs.Prelude.{Some, None, nat_lt, ◌==◌, if◌then◌else◌}
use Rattle.std.specs.Char.{is_whitespace}
use Rattle.std.specs.List.{filter, slice_split, position_or_len, before_first, after_first}
use Rattle.std.specs.Str.{is_utf8, chars, encode_utf8_all, all_ascii_digits, bytes_eq}
use Rattle.std.specs.Str.Parse.{without_leading_plus, digits_value}

-- the bytes, if they are UTF-8
unfoldable pub utf8_of : List ℕ → Option (List ℕ)
utf8_of bytes = if is_utf8 bytes then Some bytes else None

-- the lines of a text, cut at each byte of value 10: what follows the last one is a line too
abbrev pub lines_of : List ℕ → List (List ℕ)
lines_of bytes = slice_split (λ b. b == 10) bytes

-- the lines of what is left of a text, if anything is
abbrev pub lines_left : Option (List ℕ) → List (List ℕ)
lines_left None = []
lines_left (Some bytes) = lines_of bytes

-- the two texts are the same
abbrev pub is_text : List ℕ → List ℕ → Bool
is_text = bytes_eq

abbrev pub is_filled : List ℕ → Bool
is_filled [] = false
is_filled (c ∷ cs) = true

-- the words among characters: the parts between white space, less the empty ones
abbrev pub char_words : List ℕ → List (List ℕ)
char_words cs = filter is_filled (slice_split is_whitespace cs)

-- the words of a text, parted by runs of white space, each as its bytes
unfoldable pub words_of : List ℕ → List (List ℕ)
words_of text = map encode_utf8_all (char_words (chars text))

-- what stands before and after the first byte of that value, where there is one
abbrev pub cut_at : ℕ → List ℕ → Option (List ℕ × List ℕ)
cut_at c text = if nat_lt (position_or_len (λ b. b == c) text) (length text) then Some
    (before_first (λ b. b == c) text, after_first (λ b. b == c) text) else None

-- the number that a text is: a plus sign or none, then one digit or more, below 2 ^ bits
unfoldable pub number_of : ℕ → List ℕ → Option ℕ
number_of bits text =
    let digits = without_leading_plus text in
    if (is_filled digits && all_ascii_digits digits)
    && nat_lt (digits_value 10 digits) (2 ^ bits) then Some (digits_value 10 digits) else None
