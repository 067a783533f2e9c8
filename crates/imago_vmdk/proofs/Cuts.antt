-- Cutting the first line off a text.
-- SPDX-License-Identifier: MIT
use Rattle.std.proofs.Common.{◌≡◌, ℕ, ◌+◌, ◌-◌, ◌<◌, Bool, true, false, List, [], ◌∷◌, Option, Some, None, option_map, IfSome, Bor, length, take, drop, slice_index, refl, sym, ap, ◌∙◌, arith, eqb}
use Rattle.std.specs.List.{position_or_len}
use Rattle.std.proofs.lemmas.List.{take_all, length-drop}
use Rattle.std.proofs.lemmas.List.Elements.{All-from_get_or}
use Rattle.std.proofs.lemmas.List.Splits.{slice_split_first, slice_split_none}
use Rattle.std.proofs.lemmas.List.Sums.{position_or_len_is}
use Rattle.imago_vmdk.specs.Text.{lines_of, lines_left}

pub not_true : (b : Bool) → (b ≡ true → ⊥) → b ≡ false
not_true true h = absurd (h refl)
not_true false h = refl

-- a line ends at the first byte that ends one, and the others stand behind it
pub first_line : (at : ℕ) (text : List ℕ) → at < length text → eqb (slice_index text at) 10 ≡ true → ((k : ℕ) → k < at → eqb (slice_index text k) 10 ≡ false)
    → lines_of text ≡ take at text ∷ lines_of (take (length text - (at + 1)) (drop (at + 1) text))
first_line at text inside there before =
    let p : ℕ → Bool = λ b. eqb b 10 in
    let is : position_or_len p text ≡ at = position_or_len_is p text at 0 (omega (arith, inside)) before (λ _. there) in
    let some : position_or_len p text < length text = omega (arith, is, inside) in
    let behind : take (length text - (at + 1)) (drop (at + 1) text) ≡ drop (at + 1) text = take_all (length text - (at + 1)) (drop (at + 1) text) (omega (arith, length-drop (at + 1) text)) in
    slice_split_first p text 0 some ∙ ap (λ k. take k text ∷ lines_of (drop (k + 1) text)) is ∙ ap (λ x. take at text ∷ lines_of x) (sym behind)

-- where no byte ends a line, there is one
pub one_line : (text : List ℕ) → ((k : ℕ) → k < length text → eqb (slice_index text k) 10 ≡ false) → lines_of text ≡ text ∷ []
one_line text none = slice_split_none (λ b. eqb b 10) text (All-from_get_or (λ x. eqb x 10 ≡ false) text 0 none)

-- a line less is left
pub next_line : {B : Type 0} (f : List (List ℕ) → B) (left rest : Option (Bor (List ℕ))) (text : Bor (List ℕ)) (x : List ℕ) → left ≡ Some text → lines_of text.now ≡ x ∷ lines_left (option_map (λ s. s.now) rest)
    → f (lines_left (option_map (λ s. s.now) left)) ≡ f (x ∷ lines_left (option_map (λ s. s.now) rest))
next_line f left rest text x is cut = rw is (ap f cut)

pub no_line : {B : Type 0} (f : List (List ℕ) → B) (left : Option (Bor (List ℕ))) → left ≡ None → f (lines_left (option_map (λ s. s.now) left)) ≡ f []
no_line f left is = rw is refl

-- how many bytes are left, and one for a text of none
abbrev pub bytes_left : Option (Bor (List ℕ)) → ℕ
bytes_left None = 0
bytes_left (Some text) = length text.now + 1

pub fewer_left : (left rest : Option (Bor (List ℕ))) (text : Bor (List ℕ)) → left ≡ Some text → IfSome rest (λ r. length r.now < length text.now) → bytes_left rest < bytes_left left
fewer_left left None text is h = rw is (omega arith)
fewer_left left (Some r) text is h = rw is (omega (arith, h))
