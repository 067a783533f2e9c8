-- SPDX-License-Identifier: MIT
use Rattle.std.proofs.Common.{◌≡◌, ℕ, ◌+◌, ◌-◌, ◌<◌, ◌≤◌, ⊎_elim, List, ◌++◌, length, take, get_or, sym, ap, ◌∙◌, arith, length-append, length-take, length-drop, subst}
use Rattle.std.proofs.Math.ListN.{get_or-append}
use Rattle.std.proofs.lemmas.List.{get_or-append_right, take-append-le}
use Rattle.std.proofs.Math.Seq.{take-append-add, take-length}
use Rattle.std.proofs.lemmas.Bool.{cases_lt}
use Rattle.std.proofs.lemmas.List.{take_all}
use borrow.Rule.Slice.PartMut.{put_mid, post_of, mid_of, same_len_mid}
use Rattle.imago_drivers.specs.Place.{Value, Byte, HasValues}

pub has_append : (V : ℕ → Value) (o n : ℕ) (xs ys : List ℕ) → length xs ≡ n → HasValues V o xs → HasValues V (o + n) ys → HasValues V o (xs ++ ys)
has_append V o n xs ys e h j k lt =
    ⊎_elim
    (λ below. h k below ∙ ap Byte (sym (get_or-append xs ys 0 k below)))
    (λ above.
    let m : k - n < length ys = omega (arith, length-append xs ys) in
    let q : o + n + (k - n) ≡ o + k = omega arith in
    let le : n ≤ k = omega arith in
    rw q at (j (k - n) m) ∙ ap Byte (sym (get_or-append_right xs ys n k 0 e le)))
    (cases_lt k (length xs))

take_mid : (a k n : ℕ) (xs ys : List ℕ) → a ≤ length xs → n ≤ length ys → take (a + n) (put_mid a k xs ys) ≡ take a xs ++ take n ys
take_mid a k n xs ys h j =
    let e : length (take a xs) ≡ a = simp length-take (omega arith) in
    let f = take-append-add (take a xs) (ys ++ post_of a k xs) n in
    rw e at f ∙ ap (λ z. take a xs ++ z) (take-append-le n ys (post_of a k xs) j)

-- what a chunk reads goes on where the chunks before it end
pub has_more : (V : ℕ → Value) (o a k n : ℕ) (xs ys : List ℕ) → a ≤ length xs → n ≤ length ys → HasValues V o (take a xs) → HasValues V (o + a) (take n ys) → HasValues V o (take (a + n) (put_mid a k xs ys))
has_more V o a k n xs ys h j f g =
    let e : length (take a xs) ≡ a = simp length-take (omega arith) in
    subst (HasValues V o) (sym (take_mid a k n xs ys h j)) (has_append V o a (take a xs) (take n ys) e f g)

-- the rest of the buffer is set to zero, where the values are zero
pub has_end : (V : ℕ → Value) (o a k : ℕ) (xs ys : List ℕ) → a ≤ length xs → length ys ≡ length (mid_of a k xs) → k ≡ length xs - a → HasValues V o (take a xs) → ((i : ℕ) → i < length ys → get_or ys i 0 ≡ 0) → ((p : ℕ) → o + a ≤ p → a < length xs → V p ≡ Byte 0) → HasValues V o (put_mid a k xs ys)
has_end V o a k xs ys h j m f g z =
    let whole : length (put_mid a k xs ys) ≡ length xs = same_len_mid a k xs ys j in
    let tail : length ys ≡ length xs - a = simp (length-take, length-drop) at j ∙ omega arith in
    let q : HasValues V (o + a) (take (length ys) ys) = rw take-length (λ i lt. z (o + a + i) (omega arith) (omega arith) ∙ ap Byte (sym (g i lt))) in
    let r = has_more V o a k (length ys) xs ys h (omega arith) f q in
    let e : a + length ys ≡ length (put_mid a k xs ys) = omega arith in
    rw (e, take-length) at r

pub take_front : (n : ℕ) (xs ys : List ℕ) → length xs ≡ n → take n (xs ++ ys) ≡ xs
take_front n xs ys h = let k : n ≤ length xs = omega arith in take-append-le n xs ys k ∙ take_all n xs (omega arith)

pub has_front : (V : ℕ → Value) (o n : ℕ) (xs ys : List ℕ) → length xs ≡ n → HasValues V o xs → HasValues V o (take n (xs ++ ys))
has_front V o n xs ys h v = subst (HasValues V o) (sym (take_front n xs ys h)) v
