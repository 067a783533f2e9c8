-- A pair of double quotes round a text, as `strip_prefix` and `strip_suffix` take it off.
-- SPDX-License-Identifier: MIT
use Rattle.std.proofs.Common.{◌≡◌, ℕ, ◌+◌, ◌-◌, ◌<◌, Bool, true, false, ◌&&◌, cond, List, [], ◌∷◌, ◌++◌, length, take, get_or, refl, sym, ap, ◌∙◌, arith, lt-ltb, ltb-true, eqb-true, length-append}
use Rattle.std.proofs.lemmas.List.{take_more, take_all}
use Rattle.std.proofs.Common.{lit<}
use Rattle.std.proofs.Math.Seq.{take-append_seam, get_or-append_seam}
use Rattle.std.proofs.lemmas.Str.{encode_ascii}
use lib.Utf8.{encode}
use Rattle.imago_vmdk.specs.Line.{unquoted, ends_in}

-- a test of two parts that fails
other : (a b : Bool) (x y : List ℕ) → (a ≡ true → b ≡ true → ⊥) → y ≡ cond (a && b) x y
other false b x y h = refl
other true false x y h = refl
other true true x y h = absurd (h refl refl)

quote : encode 34 ≡ 34 ∷ []
quote = encode_ascii 34 (lit< tt)

both_true : (a b : Bool) → a && b ≡ true → (a ≡ true) × (b ≡ true)
both_true true true h = (refl, refl)
both_true true false h = (cc)
both_true false b h = (cc)

pub no_front : (text : List ℕ) → ((rest : List ℕ) → text ≡ encode 34 ++ rest → ⊥) → text ≡ unquoted text
unfolding unquoted
no_front [] h = refl
no_front (b ∷ bs) h = other _ _ _ _ (λ first _. h bs (rw (quote, eqb-true b 34 first) refl))

has_front : (text : List ℕ) → ends_in 34 text ≡ true → text ≡ take (length text - 1) text ++ 34 ∷ []
has_front text h =
    let t = both_true _ _ h in
    let l : 0 < length text = ltb-true _ _ t.0 in
    let i : length text - 1 < length text = omega arith in
    let n : length text - 1 + 1 ≡ length text = omega arith in
    let e = take_more text (length text - 1) 0 i in
    let last : get_or text (length text - 1) 0 ≡ 34 = eqb-true _ _ t.1 in
    sym (take_all (length text) text (omega arith)) ∙ ap (λ k. take k text) (sym n) ∙ e ∙ ap (λ k. take (length text - 1) text ++ k ∷ []) last

pub no_back : (text rest : List ℕ) → text ≡ 34 ∷ rest → ((front : List ℕ) → rest ≡ front ++ encode 34 → ⊥) → text ≡ unquoted text
unfolding unquoted
no_back text rest e h =
    rw e (other true (ends_in 34 rest) _ _ (λ _ last. h (take (length rest - 1) rest) (rw quote (has_front rest last))))

pub both : (text rest inner : List ℕ) → text ≡ 34 ∷ rest → rest ≡ inner ++ 34 ∷ [] → inner ≡ unquoted text
unfolding unquoted
both text rest inner e h =
    let shape : text ≡ 34 ∷ (inner ++ 34 ∷ []) = rw h at e in
    let n : length (inner ++ 34 ∷ []) - 1 ≡ length inner = omega (arith, length-append inner (34 ∷ [])) in
    let p : 0 < length (inner ++ 34 ∷ []) = omega (arith, length-append inner (34 ∷ [])) in
    let last : ends_in 34 (inner ++ 34 ∷ []) ≡ true = rw (lt-ltb _ _ p, n, get_or-append_seam inner 34 [] 0) refl in
    rw (shape, last, n) (sym (take-append_seam inner (34 ∷ [])))
