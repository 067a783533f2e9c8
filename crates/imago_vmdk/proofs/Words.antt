-- The words of a text, as `split_whitespace` gives them one after the other.
-- SPDX-License-Identifier: MIT
use Rattle.std.proofs.Common.{◌≡◌, ℕ, ◌<◌, Bool, true, false, not, List, [], ◌∷◌, ◌++◌, map, length, Option, Some, None, refl, sym, ap, ◌∙◌, append_assoc, arith, MatchOption, Bor}
use Rattle.std.specs.Char.{is_whitespace, is_not_whitespace}
use Rattle.std.specs.List.{filter, slice_split, All}
use Rattle.std.specs.Str.{chars, IsUtf8, NoCharPasses, NonePass, EmptyOrStartsWithPassing}
use Rattle.std.proofs.lemmas.Str.{chars-nil, chars_past_char, IsUtf8-past_char}
use Rattle.std.proofs.lemmas.List.Splits.{slice_split-cons_yes, slice_split_none, slice_split_at}
use Rattle.std.proofs.lemmas.List.{append-nil}
use Rattle.std.proofs.lemmas.List.Elements.{All-nil, All-cons}
use Rattle.std.specs.Str.Iter.{split_whitespace_rest, split_whitespace_steps}
use Rattle.std.specs.declared.str.SplitWhitespace.{SplitWhitespace}
use Rattle.std.proofs.lemmas.Iterator.{YieldsList}
use Rattle.std.proofs.lemmas.Iterator.Splits.{YieldsList-from_shown_while}
use lib.Utf8.{encode, encodes}
use Rattle.imago_vmdk.specs.Text.{is_filled, char_words, words_of}

yes : (b : Bool) → not b ≡ false → b ≡ true
yes true h = refl
yes false h = (cc)

-- white space in front changes no words
over_gap : (gap rest : List ℕ) → NonePass is_not_whitespace gap → char_words (gap ++ rest) ≡ char_words rest
over_gap [] rest h = refl
over_gap (c ∷ cs) rest h = rw (slice_split-cons_yes is_whitespace c (cs ++ rest) (yes (is_whitespace c) h.0)) (over_gap cs rest h.1)

none_all : (cs : List ℕ) → NonePass is_whitespace cs → All (λ c. is_whitespace c ≡ false) cs
none_all [] h = All-nil (λ x. is_whitespace x ≡ false)
none_all (c ∷ cs) h = All-cons (λ x. is_whitespace x ≡ false) c cs h.0 (none_all cs h.1)

filled_all : (w : List ℕ) → 0 < length w → is_filled w ≡ true
filled_all [] h = absurd (omega arith)
filled_all (c ∷ cs) h = refl

-- what follows a word: nothing, or white space
abbrev pub EmptyOrWhite : List ℕ → Type 0
EmptyOrWhite [] = Unit {0}
EmptyOrWhite (c ∷ cs) = is_whitespace c ≡ true

kept : (w : List ℕ) (ws : List (List ℕ)) → 0 < length w → filter is_filled (w ∷ ws) ≡ w ∷ filter is_filled ws
kept w ws l = rw (filled_all w l) refl

-- a word comes off the front
one_word : (w rest : List ℕ) → 0 < length w → NonePass is_whitespace w → EmptyOrWhite rest → char_words (w ++ rest) ≡ w ∷ char_words rest
one_word w [] l h s = rw (append-nil w) (rw (slice_split_none is_whitespace w (none_all w h)) (kept w [] l))
one_word w (y ∷ ys) l h s = rw (slice_split_at is_whitespace w y ys (none_all w h) s) (kept w (slice_split is_whitespace ys) l ∙ ap (λ (ws : List (List ℕ)). w ∷ ws) (sym (ap (filter is_filled) (slice_split-cons_yes is_whitespace y ys s))))

-- the characters of a text whose front is spelled by cs
pub chars_over : (cs rest : List ℕ) → IsUtf8 (encodes cs ++ rest) → (chars (encodes cs ++ rest) ≡ cs ++ chars rest) × IsUtf8 rest
chars_over [] rest u = (refl, u)
chars_over (c ∷ cs) rest u =
    let e : encodes (c ∷ cs) ++ rest ≡ encode c ++ (encodes cs ++ rest) = append_assoc (encode c) (encodes cs) rest in
    let after = chars_over cs rest (IsUtf8-past_char _ (encodes cs ++ rest) c u e) in
    (chars_past_char _ (encodes cs ++ rest) c u e ∙ ap (λ (xs : List ℕ). c ∷ xs) after.0, after.1)

nonempty_chars : (xs : List ℕ) → 0 < length (encodes xs) → 0 < length xs
nonempty_chars [] h = h
nonempty_chars (x ∷ xs) h = omega arith

white_chars : (rest : List ℕ) → IsUtf8 rest → ((more : List ℕ) × EmptyOrStartsWithPassing is_whitespace rest more) → EmptyOrWhite (chars rest)
white_chars [] u s = rw chars-nil tt
white_chars (b ∷ bs) u s =
    let first = s.1 (omega arith) in
    rw (chars_past_char (b ∷ bs) s.0 first.0 u first.2) first.1

-- one step of `split_whitespace`
pub next_some : (bs x rest : List ℕ) → IsUtf8 bs
    → ((gap : List ℕ) × (bs ≡ gap ++ (x ++ rest)) × (0 < length x) × NoCharPasses is_not_whitespace gap × NoCharPasses is_whitespace x × ((more : List ℕ) × EmptyOrStartsWithPassing is_whitespace rest more))
    → (words_of bs ≡ x ∷ words_of rest) × IsUtf8 rest
unfolding words_of
next_some bs x rest u h =
    let gs = h.3.0 in
    let xs = h.4.0 in
    let e : bs ≡ encodes gs ++ (encodes xs ++ rest) = rw (h.3.1, h.4.1) h.1 in
    let behind_gap = chars_over gs (encodes xs ++ rest) (rw e at u) in
    let behind_word = chars_over xs rest behind_gap.1 in
    let cs : chars bs ≡ gs ++ (xs ++ chars rest) = ap chars e ∙ behind_gap.0 ∙ ap (λ (ys : List ℕ). gs ++ ys) behind_word.0 in
    let l : 0 < length (encodes xs) = rw h.4.1 h.2 in
    let parts : char_words (chars bs) ≡ xs ∷ char_words (chars rest) = ap char_words cs ∙ over_gap gs (xs ++ chars rest) h.3.2 ∙ one_word xs (chars rest) (nonempty_chars xs l) h.4.2 (white_chars rest behind_word.1 h.5) in
    (ap (map encodes) parts ∙ ap (λ (w : List ℕ). w ∷ map encodes (char_words (chars rest))) h.4.1, behind_word.1)

pub next_none : (bs : List ℕ) → IsUtf8 bs → NoCharPasses is_not_whitespace bs → words_of bs ≡ []
unfolding words_of
next_none bs u h =
    let e : encodes h.0 ++ [] ≡ bs = append-nil (encodes h.0) ∙ h.1 in
    let over = chars_over h.0 [] (rw (← e) at u) in
    let cs : chars bs ≡ h.0 ++ chars [] = ap chars (sym e) ∙ over.0 in
    let parts : char_words (chars bs) ≡ char_words (chars []) = ap char_words cs ∙ over_gap h.0 (chars []) h.2 in
    ap (map encodes) (parts ∙ ap char_words chars-nil)

pub word_step : (s : SplitWhitespace) (r : Option (Bor (List ℕ))) (t : SplitWhitespace) → IsUtf8 (split_whitespace_rest s) → split_whitespace_steps s r t
    → MatchOption r (words_of (split_whitespace_rest s) ≡ []) (λ x. words_of (split_whitespace_rest s) ≡ x.now ∷ words_of (split_whitespace_rest t)) × IsUtf8 (split_whitespace_rest t)
word_step s None t u h =
    let here : split_whitespace_rest t ≡ split_whitespace_rest s = ap split_whitespace_rest h.0 in
    (next_none (split_whitespace_rest s) u h.1, rw here u)
word_step s (Some x) t u h = next_some (split_whitespace_rest s) x.now (split_whitespace_rest t) u h

-- the words of a text are what `split_whitespace` yields
pub yields_words : (s : SplitWhitespace) → IsUtf8 (split_whitespace_rest s) → YieldsList split_whitespace_steps (λ x. x.now) s (words_of (split_whitespace_rest s))
yields_words s u = YieldsList-from_shown_while split_whitespace_steps (λ (x : Bor (List ℕ)). x.now) (λ (t : SplitWhitespace). words_of (split_whitespace_rest t)) (λ (t : SplitWhitespace). IsUtf8 (split_whitespace_rest t))
    (λ a b v h. rw (next_none (split_whitespace_rest a) v h.1) refl)
    (λ a x b v h. let w = next_some (split_whitespace_rest a) x.now (split_whitespace_rest b) v h in (w.1, w.0)) s u
