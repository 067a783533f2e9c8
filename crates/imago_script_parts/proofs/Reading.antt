-- Bytes that are read from digits: one more of them, all of them, and what is no digit.
-- SPDX-License-Identifier: MIT
use Rattle.std.proofs.Common.{◌≡◌, ℕ, suc, ◌+◌, ◌*◌, ◌/◌, ◌%◌, ◌<◌, ◌≤◌}
use Rattle.std.proofs.Common.{List, [], ◌∷◌, length, slice_index, slice_set}
use Rattle.std.proofs.Common.{Option, Some, None, Ok, Err, true, is_some, refl, sym, ap, ◌∙◌, arith}
use Rattle.std.specs.Prelude.{MatchOption, IsOk, Result}
use Rattle.std.proofs.lemmas.List.{get_or-set_same, get_or-set_other}
use borrow.Author.Count.{below_more}
use Rattle.hex.specs.Hex.{decode_of, decode_pairs, hex_digit_value, pair_value}
use Rattle.hex.specs.declared.error.FromHexError.{FromHexError}
use Rattle.hex.proofs.HexLemmas.{decode_of-even, decode_of-ok}
use Rattle.hex.proofs.Pairs.{cons_byte, decode_pairs-ok_pair}
use Rattle.imago_script_parts.specs.Digits.{AreRead, HasOther, SpellsByte}

-- what `value_of` says of a digit, by the value that it may have
abbrev pub IsValue : Option ℕ → ℕ → Type 0
IsValue o value = MatchOption o (16 ≤ value) (λ v. value ≡ v)

some_of : (o : Option ℕ) (value : ℕ) → IsValue o value → value < 16 → o ≡ Some value
some_of (Some v) value is small = ap Some (sym is)
some_of None value is small = absurd (omega arith)

none_of : (o : Option ℕ) (value : ℕ) → ((v : ℕ) → o ≡ Some v → v < 16) → IsValue o value
    → 16 ≤ value → o ≡ None
none_of (Some v) value below is large = let small = below v refl in absurd (omega arith)
none_of None value below is large = refl

value_below : (digit v : ℕ) → hex_digit_value digit ≡ Some v → v < 16
value_below digit v h = grind arith

-- two digits spell the byte of their values
spells : (high low first second byte : ℕ) → IsValue (hex_digit_value high) first
    → IsValue (hex_digit_value low) second → first < 16 → second < 16 → byte ≡ 16 * first + second
    → SpellsByte high low byte
spells high low first second byte is_first is_second f s e =
    let upper : first ≡ byte / 16 = omega arith in
    let lower : second ≡ byte % 16 = omega arith in record {
      first = some_of (hex_digit_value high) first is_first f ∙ ap Some upper;
      second = some_of (hex_digit_value low) second is_second s ∙ ap Some lower;
    }

-- one more byte is read
read_more : (digits bytes : List ℕ) (place byte : ℕ) → place < length bytes
    → AreRead digits bytes place
    → SpellsByte (slice_index digits (2 * place)) (slice_index digits (2 * place + 1)) byte
    → AreRead digits (slice_set bytes place byte) (place + 1)
read_more digits bytes place byte inside before spelt =
    let new : List ℕ = slice_set bytes place byte in
    let here : slice_index new place ≡ byte = get_or-set_same bytes place byte 0 inside in
    let kept : (k : ℕ) → k < place → slice_index new k ≡ slice_index bytes k =
    λ k lt. get_or-set_other bytes place k byte 0 (λ e. absurd (omega arith)) in
    let at : ℕ → Type 0 =
    λ k. SpellsByte (slice_index digits (2 * k)) (slice_index digits (2 * k + 1))
    (slice_index new k) in
    below_more at place (λ k lt. rw (kept k lt) (before k lt)) (rw here spelt)

-- the same, of the values of both digits
pub read_values : (digits bytes : List ℕ) (place first second byte : ℕ) → place < length bytes
    → AreRead digits bytes place
    → IsValue (hex_digit_value (slice_index digits (2 * place))) first
    → IsValue (hex_digit_value (slice_index digits (2 * place + 1))) second
    → first < 16 → second < 16 → byte ≡ 16 * first + second
    → AreRead digits (slice_set bytes place byte) (place + 1)
read_values digits bytes place first second byte inside before is_first is_second f s e =
    read_more digits bytes place byte inside before
    (spells _ _ first second byte is_first is_second f s e)

-- what has too large a value is no digit
pub other_at : (digits : List ℕ) (place value : ℕ) → place < length digits
    → IsValue (hex_digit_value (slice_index digits place)) value → 16 ≤ value → HasOther digits
other_at digits place value inside is large =
    let digit : ℕ = slice_index digits place in
    (place, inside, none_of (hex_digit_value digit) value (value_below digit) is large)

-- bytes that are all read are what the digits decode to
pairs_read : (at : ℕ) (digits bytes : List ℕ) → length digits ≡ 2 * length bytes
    → AreRead digits bytes (length bytes) → decode_pairs at digits ≡ Ok bytes
unfolding decode_pairs
pairs_read at [] [] len all = refl
pairs_read at [] (v ∷ vs) len all = absurd (omega arith)
pairs_read at (a ∷ []) bytes len all = absurd (omega arith)
pairs_read at (a ∷ b ∷ rest) [] len all = absurd (omega arith)
pairs_read at (a ∷ b ∷ rest) (v ∷ vs) len all =
    let head = all 0 (omega arith) in
    let whole : v / 16 * 16 + v % 16 ≡ v = omega arith in
    let pair : pair_value a b at ≡ Ok v = rw (head.first, head.second) (ap Ok whole) in
    let later : AreRead rest vs (length vs) = λ k lt.
    let second : 2 * suc k + 1 ≡ suc (suc (2 * k + 1)) = omega arith in
    let first : 2 * suc k ≡ suc (suc (2 * k)) = omega arith in
    rw (second, first) at (all (suc k) (omega arith)) in
    let tail = pairs_read (at + 2) rest vs (omega arith) later in
    decode_pairs-ok_pair at a b v rest pair ∙ ap (cons_byte v) tail

pub decode_of-read : (digits bytes : List ℕ) → length digits ≡ 2 * length bytes
    → AreRead digits bytes (length bytes) → decode_of digits ≡ Ok bytes
decode_of-read digits bytes len all =
    decode_of-even digits (omega (arith, len)) ∙ pairs_read 0 digits bytes len all

-- the value of a result that is `Ok`
ok_of : (r : Result (List ℕ) FromHexError) → IsOk r → (bytes : List ℕ) × (r ≡ Ok bytes)
ok_of (Ok bytes) h = (bytes, refl)
ok_of (Err e) h = cc h

-- what is no digit doesn't decode
pub other_refused : (digits : List ℕ) → HasOther digits → IsOk (decode_of digits) → ⊥
other_refused digits other decodes =
    let ok = ok_of (decode_of digits) decodes in
    let each = (decode_of-ok digits ok.0 ok.1).1 in
    let digit : ℕ = slice_index digits other.0 in
    let here : is_some (hex_digit_value digit) ≡ true = each other.0 0 other.1 in
    cc (sym here ∙ ap is_some other.2)
