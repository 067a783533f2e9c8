-- SPDX-License-Identifier: MIT
use Rattle.std.proofs.Common.{◌≡◌, ◌<◌, ◌≤◌, ◌↔◌, ◌∷◌, Bool, true, false, List, [], length, take}
use Rattle.std.proofs.Common.{drop, get_or, ap, refl, arith, lt-ltb, Bor}
use Rattle.std.proofs.lemmas.Bool.{le-ltb}
use Rattle.std.specs.List.{list_any}
use Rattle.std.specs.Prelude.{map, ◌||◌, Option, Some, None, IfSome, IsSome, nat_lt, option_map}
use Rattle.std.specs.Prelude.{if◌then◌else◌}
use Rattle.std.specs.Str.{IsCharBoundary, IsUtf8, bytes_eq}
use Rattle.std.proofs.lemmas.Str.{IsCharBoundary-after_ascii}
use Rattle.imago_words.specs.declared.words.Given.{Given}
use Rattle.imago_words.specs.Reading.{Known, State, Text, first_letter, is_key, lettered, letters}
use Rattle.imago_words.specs.Reading.{option_of_letter, shown}

-- what letters come to, by the first of them
abbrev pub letters_by : List Known → Option (Text × Text) → State → Option State
letters_by options None s = None
letters_by options (Some p) s = lettered (option_of_letter options p.0) p.1 (letters options p.1) s

either : (t : Bool) (options : List Known) (p : Text × Text) (s : State)
    → (if t then lettered (option_of_letter options p.0) p.1 (letters options p.1) s else None)
    ≡ letters_by options (if t then Some p else None) s
either true options p s = refl
either false options p s = refl

-- the first letter, and then those behind it
pub letters_step : (options : List Known) (rest : Text) (s : State) → 0 < length rest
    → letters options rest s ≡ letters_by options (first_letter rest) s
unfolding letters first_letter
letters_step options [] s l = absurd (omega arith)
letters_step options (b ∷ rest) s l = either (nat_lt b 128) options (b ∷ [], rest) s

-- no letter is left
pub letters_end : (options : List Known) (rest : Text) (s : State) → length rest ≡ 0
    → letters options rest s ≡ Some s
unfolding letters
letters_end options [] s h = refl
letters_end options (b ∷ rest) s h = absurd (omega arith)

abbrev parts : Option (Bor Text × Bor Text) → Option (Text × Text)
parts r = option_map {U = Text × Text} (λ x. (x.0.now, x.1.now)) r

-- a text is split behind a letter of one byte
pub cut_is : (text : Text) (r : Option (Bor Text × Bor Text)) → IsUtf8 text → 0 < length text
    → get_or text 0 0 < 128 → (IsSome r ↔ IsCharBoundary text 1)
    → IfSome r (λ x. x.0.now ≡ take 1 text) → IfSome r (λ x. x.1.now ≡ drop 1 text)
    → parts r ≡ first_letter text
unfolding first_letter
cut_is [] r u l h v f k = absurd (omega arith)
cut_is (b ∷ bs) None u l h v f k =
    let boundary = IsCharBoundary-after_ascii (b ∷ bs) 0 u l h in
    let bad : IsSome {T = Bor Text × Bor Text} None = v.1 boundary in (cc)
cut_is (b ∷ bs) (Some x) u l h v f k = rw (f, k, lt-ltb b 128 h) refl

pub none_is : (text : Text) → length text ≡ 0 → first_letter text ≡ None
unfolding first_letter
none_is [] l = refl
none_is (b ∷ bs) l = absurd (omega arith)

pub long_is : (text : Text) → 128 ≤ get_or text 0 0 → first_letter text ≡ None
unfolding first_letter
long_is [] l = refl
long_is (b ∷ bs) l = rw (le-ltb b 128 l) refl

-- one of what was given passes a test, as items and as they are shown
pub any_shown : (test : Known × Text → Bool) (items : List Given)
    → list_any (λ g. test (shown g)) items ≡ list_any test (map shown items)
any_shown test [] = refl
any_shown test (g ∷ items) = ap (λ b. test (shown g) || b) (any_shown test items)

pub any_given : (key : Text) (items : List Given)
    → list_any (λ g. bytes_eq g.row.key.now key) items ≡ list_any (is_key key) (map shown items)
any_given key items = any_shown (is_key key) items
