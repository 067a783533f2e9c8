-- `parse` of an unsigned integer.
-- SPDX-License-Identifier: MIT
use Rattle.std.proofs.Common.{◌≡◌, ℕ, ◌<◌, ◌^◌, Bool, true, false, ◌&&◌, cond, List, [], ◌∷◌, length, Option, Some, None, Result, Ok, Err, refl, ap, arith, nat_lt, lt-ltb, ltb-true}
use Rattle.std.specs.Result.{result_ok}
use Rattle.std.specs.Str.{all_ascii_digits}
use Rattle.std.specs.Str.Parse.{ParsesUnsigned, digits_value, without_leading_plus}
use Rattle.std.proofs.lemmas.Str.Parse.{IsNumeralModel, tells_all_ascii_digits, numerals_by_value}
use Rattle.imago_vmdk.specs.Text.{is_filled, number_of}

own : IsNumeralModel (λ ds. all_ascii_digits ds ≡ true) (digits_value 10)
own = numerals_by_value _ tells_all_ascii_digits

filled_length : (ds : List ℕ) → 0 < length ds → is_filled ds ≡ true
filled_length [] h = absurd (omega arith)
filled_length (d ∷ ds) h = refl

length_filled : (ds : List ℕ) → is_filled ds ≡ true → 0 < length ds
length_filled [] h = (cc)
length_filled (d ∷ ds) h = omega arith

pick : (a b c : Bool) (v : Option ℕ) → (a ≡ true → b ≡ true → c ≡ true → ⊥) → None ≡ cond ((a && b) && c) v None
pick false b c v h = refl
pick true false c v h = refl
pick true true false v h = refl
pick true true true v h = absurd (h refl refl refl)

pub number_from_parse : {E : Type 0} (bits : ℕ) (text : List ℕ) (r : Result ℕ E) → ParsesUnsigned bits 10 text r → result_ok r ≡ number_of bits text
unfolding number_of
number_from_parse bits text (Ok n) h =
    let ds = without_leading_plus text in
    let filled : is_filled ds ≡ true = filled_length ds h.0.0.0 in
    let digits : all_ascii_digits ds ≡ true = own.from ds h.0.0.1 in
    let small : nat_lt (digits_value 10 ds) (2 ^ bits) ≡ true = lt-ltb _ _ h.0.1 in
    rw (filled, digits, small) (ap Some h.1)
number_from_parse bits text (Err e) h =
    let ds = without_leading_plus text in
    pick (is_filled ds) (all_ascii_digits ds) (nat_lt (digits_value 10 ds) (2 ^ bits)) (Some (digits_value 10 ds))
    (λ a b c. h ((length_filled ds a, own.to ds b), ltb-true _ _ c))
