-- What is put behind a text.
-- SPDX-License-Identifier: MIT
use Rattle.std.proofs.Common.{◌≡◌, ℕ, ◌+◌, ◌-◌, ◌≤◌, List, [], ◌++◌, length, take, replicate, ap, sym, refl, ◌∙◌, arith}
use Rattle.std.specs.Fmt.{decimal}
use Rattle.std.proofs.lemmas.List.{take-replicate, take-take, length-take-le, take_at, length-replicate}
use Rattle.std.proofs.lemmas.Slice.{take-put_mid}
use Rattle.std.proofs.Math.ListN.{length-append}
use borrow.Rule.Slice.PartMut.{put_mid}
use Rattle.std.proofs.Math.Seq.{take-append-add}
use mathlib.Core.List.{append_assoc}
use Rattle.imago_img_disks.specs.Lines.{column}

-- digits and spaces, of which a column is the first part
pub column_of :
    (text : List ℕ) (k n : ℕ) → text ≡ decimal n ++ replicate 21 32 → k ≡ 21
    → length (decimal n) ≤ 20 → take k text ≡ column n
column_of text k n is at few =
    let d = decimal n in
    let e : k ≡ length d + (21 - length d) = omega (arith, at, few) in
    rw (is, e) (take-append-add d (replicate 21 32) (21 - length d)
    ∙ ap (λ t. d ++ t) (take-replicate (21 - length d) 21 32 (omega arith)))

-- a column has 21 bytes
pub column_length : (n : ℕ) → length (decimal n) ≤ 20 → length (column n) ≡ 21
column_length n few =
    let d = decimal n in
    omega (arith, few, length-append d (replicate (21 - length d) 32), length-replicate {A = ℕ} (21 - length d) 32)

-- the first bytes of what was put in the middle
pub first_of_mid :
    (a k m n : ℕ) (xs ys : List ℕ) → n ≡ a + m → m ≤ length ys → a ≤ length xs
    → take n (put_mid a k xs ys) ≡ take a xs ++ take m ys
first_of_mid a k m n xs ys is within inside =
    let all : take (a + length ys) (put_mid a k xs ys) ≡ take a xs ++ ys
    = take-put_mid a k xs ys (a + length ys) refl inside in
    let long : length (take a xs) ≡ a = length-take-le a xs inside in
    let e : n ≡ length (take a xs) + m = omega (arith, is, long) in
    sym (take-take n (a + length ys) (put_mid a k xs ys) (omega (arith, is, within)))
    ∙ ap (take n) all ∙ ap (λ i. take i (take a xs ++ ys)) e
    ∙ take-append-add (take a xs) ys m

-- digits and spaces, of which the digits are the first part
pub digits_of :
    (text : List ℕ) (k m n : ℕ) → text ≡ decimal n ++ replicate 21 32 → k ≡ 20
    → m ≡ length (decimal n) → m ≤ 20 → take m (take k text) ≡ decimal n
digits_of text k m n is at few most =
    let d = decimal n in
    take-take m k text (omega (arith, at, few, most)) ∙ ap (take m) is
    ∙ take_at d (replicate 21 32) m (sym few)

-- what stands behind a text stands behind its last part
pub behind :
    (new old part rest : List ℕ) → new ≡ old ++ part → new ++ rest ≡ old ++ (part ++ rest)
behind new old part rest e = ap (λ t. t ++ rest) e ∙ append_assoc old part rest

-- the parts that were put into an empty text, one behind the other, with a rest behind them
pub seven_parts :
    (t a b c d e f g : List ℕ) (p q r s u v w rest : List ℕ)
    → t ≡ [] → a ≡ t ++ p → b ≡ a ++ q → c ≡ b ++ r → d ≡ c ++ s → e ≡ d ++ u → f ≡ e ++ v
    → g ≡ f ++ w
    → g ++ rest ≡ p ++ (q ++ (r ++ (s ++ (u ++ (v ++ (w ++ rest))))))
seven_parts t a b c d e f g p q r s u v w rest h0 h1 h2 h3 h4 h5 h6 h7 =
    behind g f w rest h7 ∙ behind f e v (w ++ rest) h6 ∙ behind e d u (v ++ (w ++ rest)) h5
    ∙ behind d c s (u ++ (v ++ (w ++ rest))) h4
    ∙ behind c b r (s ++ (u ++ (v ++ (w ++ rest)))) h3
    ∙ behind b a q (r ++ (s ++ (u ++ (v ++ (w ++ rest))))) h2
    ∙ behind a t p (q ++ (r ++ (s ++ (u ++ (v ++ (w ++ rest)))))) h1
    ∙ ap (λ x. x ++ (p ++ (q ++ (r ++ (s ++ (u ++ (v ++ (w ++ rest)))))))) h0

-- four parts, of which the last one may as well stand behind the others
pub three_before :
    (a b c d rest : List ℕ) → a ++ (b ++ (c ++ (d ++ rest))) ≡ (a ++ (b ++ (c ++ d))) ++ rest
three_before a b c d rest = sym (append_assoc a (b ++ (c ++ d)) rest
    ∙ ap (λ x. a ++ x) (append_assoc b (c ++ d) rest ∙ ap (λ x. b ++ x) (append_assoc c d rest)))
