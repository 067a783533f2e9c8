-- Settings, by the commas between them.
-- SPDX-License-Identifier: MIT
use Rattle.std.proofs.Common.{◌≡◌, ◌≢◌, ◌∙◌, ◌∷◌, ◌++◌, ◌+◌, ◌<◌, ◌==◌, ℕ, false, [], length, get_or}
use Rattle.std.proofs.Common.{refl, sym, ap, arith, Bor}
use Rattle.std.proofs.lemmas.Bool.{false≢true}
use Rattle.std.proofs.lemmas.Bool.Decides.{nat_tests}
use Rattle.std.proofs.lemmas.Grind.{common_steps}
use Rattle.std.specs.Prelude.{Option, Some, None, MatchOption, Result, Ok, Err, IsErr, is_ok, is_some, option_and_then}
use Rattle.imago_words.specs.declared.settings.Settings.{Settings}
use Rattle.imago_words.specs.Reading.{Text}
use Rattle.imago_words.specs.Settings.{set_all, set_one, texts_of}

-- no byte of a text is a comma
abbrev Lacks : Text → Type 0
Lacks xs = (i : ℕ) → i < length xs → get_or xs i 0 ≢ 44

head_differs : (x : ℕ) (xs : Text) → Lacks (x ∷ xs) → (x == 44) ≡ false
head_differs x xs h = let ne : x ≢ 44 = h 0 (grind (arith, common_steps)) in grind (arith, nat_tests)

tail_lacks : (x : ℕ) (xs : Text) → Lacks (x ∷ xs) → Lacks xs
tail_lacks x xs h i lt = let k = h (i + 1) (grind (arith, common_steps)) in grind (arith, common_steps)

-- without a comma a text is one part, and else its first one ends at the first comma
pub one_text : (xs : Text) → Lacks xs → texts_of xs ≡ xs ∷ []
one_text [] h = refl
one_text (x ∷ xs) h = rw (head_differs x xs h, one_text xs (tail_lacks x xs h))

pub first_text : (xs ys : Text) → Lacks xs → texts_of (xs ++ 44 ∷ ys) ≡ xs ∷ texts_of ys
first_text [] ys h = refl
first_text (x ∷ xs) ys h = rw (head_differs x xs h, first_text xs ys (tail_lacks x xs h))

-- what follows nothing is nothing
pub none_then : {A B : Type 0} (f : A → Option B) (o : Option A) → false ≡ is_some o
    → false ≡ is_some (option_and_then f o)
none_then f None e = refl
none_then f (Some x) e = absurd (false≢true e)

pub last_is_all : {A : Type 0} (o : Option A) → option_and_then (λ x. Some x) o ≡ o
last_is_all None = refl
last_is_all (Some x) = refl

-- all settings of a text, by its first one
pub set_first : (text first behind : Text) (s t : Settings) → texts_of text ≡ first ∷ texts_of behind
    → set_one first s ≡ Some t → set_all (texts_of text) s ≡ set_all (texts_of behind) t
set_first text first behind s t cut set = ap (λ ts. set_all ts s) cut
    ∙ ap (option_and_then (set_all (texts_of behind))) set

pub set_none : (text first behind : Text) (s : Settings) → texts_of text ≡ first ∷ texts_of behind
    → false ≡ is_some (set_one first s) → false ≡ is_some (set_all (texts_of text) s)
set_none text first behind s cut none =
    none_then (set_all (texts_of behind)) (set_one first s) none ∙ ap (λ ts. is_some (set_all ts s)) (sym cut)

pub set_last : (text : Text) (s : Settings) → texts_of text ≡ text ∷ []
    → set_one text s ≡ set_all (texts_of text) s
set_last text s whole = sym (last_is_all (set_one text s)) ∙ ap (λ ts. set_all ts s) (sym whole)

pub cut_texts : (text : Text) (r : Option (Bor Text × Bor Text))
    → MatchOption r (Lacks text) (λ x. (text ≡ x.0.now ++ (44 ∷ x.1.now)) × Lacks x.0.now)
    → MatchOption r (texts_of text ≡ text ∷ []) (λ x. texts_of text ≡ x.0.now ∷ texts_of x.1.now)
cut_texts text None lacks = one_text text lacks
cut_texts text (Some x) (is, lacks) = ap texts_of is ∙ first_text x.0.now x.1.now lacks

pub not_ok : {T E : Type 0} (r : Result T E) → IsErr r → is_ok r ≡ false
not_ok (Ok x) h = absurd (false≢true h)
not_ok (Err e) h = refl
