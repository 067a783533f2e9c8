-- Cutting the first line off a text, and what it tells.
-- SPDX-License-Identifier: MIT
use Rattle.std.proofs.Common.{◌≡◌, ◌∙◌, ℕ, ◌+◌, ◌<◌, ◌≤◌, Bool, true, false, List, [], ◌∷◌, Option, Some, None, MatchOption, length, take, drop, eqb, nat_lt, refl, sym, ap, arith}
use Rattle.std.specs.Prelude.{if◌then◌else◌}
use Rattle.std.specs.List.{position_or_len, position}
use Rattle.std.proofs.lemmas.Bool.Decides.{nat_tests}
use Rattle.std.proofs.lemmas.List.Elements.{All-from_get_or}
use Rattle.std.proofs.lemmas.List.Splits.{slice_split_first, slice_split_none, length-slice_split}
use Rattle.std.proofs.lemmas.List.Sums.{fails_before_first}
use Rattle.imago_formats.specs.Text.{lines_of, first_tells, sees_descriptor, is_passed_over, names_version}

abbrev pub newline : ℕ → Bool
newline b = eqb b 10

-- a line ends at the first newline, if there is one
abbrev pub LineEnd : List ℕ → Option ℕ → Type 0
LineEnd text found = MatchOption found (lines_of text ≡ text ∷ []) (λ at. (at < length text)
    × (lines_of text ≡ take at text ∷ lines_of (drop (at + 1) text)))

pub line_end : (text : List ℕ) (found : Option ℕ) → found ≡ position newline text → LineEnd text found
line_end text found is = either (nat_lt (position_or_len newline text) (length text)) refl
  where
    either : (b : Bool) → nat_lt (position_or_len newline text) (length text) ≡ b → LineEnd text found
    either true lt =
        let here : found ≡ Some (position_or_len newline text) = rw lt at is in
        let below : position_or_len newline text < length text = grind (arith, nat_tests, lt) in
        rw here (below, slice_split_first newline text 0 below)
    either false lt =
        let here : found ≡ None = rw lt at is in
        let past : length text ≤ position_or_len newline text = grind (arith, nat_tests, lt) in
        rw here (slice_split_none newline text (All-from_get_or (λ b. newline b ≡ false) text 0
        (λ k below. fails_before_first newline text k 0 (omega (arith, below, past)))))

-- a line with others behind it
first_with : (line : List ℕ) (lines : List (List ℕ)) → 0 < length lines
    → first_tells (line ∷ lines) ≡ (if is_passed_over line then first_tells lines else names_version line)
first_with line [] some = absurd (omega (arith, some))
first_with line (next ∷ lines) some = refl

pub line_tells : (text line behind : List ℕ) → lines_of text ≡ line ∷ lines_of behind
    → sees_descriptor text ≡ (if is_passed_over line then sees_descriptor behind else names_version line)
line_tells text line behind is =
    ap first_tells is ∙ first_with line (lines_of behind) (omega (arith, length-slice_split newline behind))

pub told : (text line behind : List ℕ) (b : Bool) → lines_of text ≡ line ∷ lines_of behind
    → b ≡ is_passed_over line → b ≡ false → names_version line ≡ sees_descriptor text
told text line behind b is says stays =
    let passed : is_passed_over line ≡ false = sym says ∙ stays in
    let told = line_tells text line behind is in
    sym (rw passed at told)
