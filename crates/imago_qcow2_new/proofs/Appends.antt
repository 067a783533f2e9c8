-- Bytes put in one after the other, and lists by place.
-- SPDX-License-Identifier: MIT
use Rattle.std.proofs.Common.{◌≡◌, ℕ, ◌+◌, ◌-◌, ◌<◌, ◌≤◌, ⊎_elim, Bool, true, false, List, ◌++◌, length, take, map, get_or, replicate, Option, Some, None, refl, sym, ap, ◌∙◌, subst, arith}
use Rattle.std.specs.Prelude.{if◌then◌else◌}
use Rattle.std.specs.List.{range_with_len}
use Rattle.std.proofs.lemmas.Bool.{cases_lt}
use Rattle.std.proofs.lemmas.List.{same_lists, get_or_append_left, get_or-append_right, length-append, append_assoc, get_or_default, length-take-le, get_or-take, get_or-replicate, length-replicate}
use Rattle.std.proofs.lemmas.List.FromFn.{length-map-range_with_len, get_or-map-range_with_len}
use borrow.Rule.Slice.PartMut.{put_mid, post_of}
use Rattle.imago_copy.specs.Appended.{IsAppended}

-- two appends are one
pub appended_both : (old mid new : Option (List ℕ)) (xs ys zs : List ℕ) → zs ≡ xs ++ ys → IsAppended old mid xs → IsAppended mid new ys → IsAppended old new zs
appended_both None mid new xs ys zs e a b = tt
appended_both (Some old) mid new xs ys zs e a b =
    let c : new ≡ Some ((old ++ xs) ++ ys) = subst (λ (z : Option (List ℕ)). IsAppended z new ys) a b in
    c ∙ ap (λ (z : List ℕ). Some z) (append_assoc old xs ys ∙ ap (λ (z : List ℕ). old ++ z) (sym e))

-- a list that is known by place, in two parts
pub map_both : (f : ℕ → ℕ) (o a b : ℕ) → map f (range_with_len o (a + b)) ≡ map f (range_with_len o a) ++ map f (range_with_len (o + a) b)
map_both f o a b =
    let l : List ℕ = map f (range_with_len o a) in
    let r : List ℕ = map f (range_with_len (o + a) b) in
    let left : length l ≡ a = length-map-range_with_len f o a in
    let right : length r ≡ b = length-map-range_with_len f (o + a) b in
    let whole : length (map f (range_with_len o (a + b))) ≡ a + b = length-map-range_with_len f o (a + b) in
    same_lists _ _ (whole ∙ sym (length-append l r ∙ ap (λ (z : ℕ). z + length r) left ∙ ap (λ (z : ℕ). a + z) right))
    (λ k d h.
    let lt : k < a + b = omega (arith, h, whole) in
    get_or-map-range_with_len f o (a + b) k (o + k) d lt refl ∙ ⊎_elim
    (λ (inside : k < a). let in_left : k < length l = omega (arith, inside, left) in sym (get_or_append_left l r d k in_left ∙ get_or-map-range_with_len f o a k (o + k) d inside refl))
    (λ (behind : a ≤ k).
    let rest : k - a < b = omega (arith, lt, behind) in
    let is : o + a + (k - a) ≡ o + k = omega (arith, behind) in
    sym (get_or-append_right l r a k d left behind ∙ get_or-map-range_with_len f (o + a) b (k - a) (o + k) d rest is))
    (cases_lt k a))

-- a list that has these values by place
pub listed : (f : ℕ → ℕ) (xs : List ℕ) (o n : ℕ) → length xs ≡ n → ((k : ℕ) → k < n → get_or xs k 0 ≡ f (o + k)) → xs ≡ map f (range_with_len o n)
listed f xs o n e h =
    same_lists _ _ (e ∙ sym (length-map-range_with_len f o n))
    (λ k d lt. let in_n : k < n = omega (arith, lt, e) in get_or_default xs k d 0 lt ∙ h k in_n ∙ sym (get_or-map-range_with_len f o n k (o + k) d in_n refl))

pub same_if : (b : Bool) (x y z : ℕ) → (b ≡ true → x ≡ y) → (if b then x else z) ≡ (if b then y else z)
same_if true x y z h = h refl
same_if false x y z h = refl

-- a list with a part of it written over
pub mid_below : (a k : ℕ) (xs ys : List ℕ) (i : ℕ) → i < a → a ≤ length xs → get_or (put_mid a k xs ys) i 0 ≡ get_or xs i 0
mid_below a k xs ys i h g =
    let e : length (take a xs) ≡ a = length-take-le a xs g in
    get_or_append_left (take a xs) (ys ++ post_of a k xs) 0 i (omega (arith, h, e)) ∙ get_or-take a xs i 0 h

pub mid_in : (a k : ℕ) (xs ys : List ℕ) (i : ℕ) → a ≤ i → i < a + length ys → a ≤ length xs → get_or (put_mid a k xs ys) i 0 ≡ get_or ys (i - a) 0
mid_in a k xs ys i h j g =
    let e : length (take a xs) ≡ a = length-take-le a xs g in
    get_or-append_right (take a xs) (ys ++ post_of a k xs) a i 0 e h ∙ get_or_append_left ys (post_of a k xs) 0 (i - a) (omega (arith, h, j))

-- a list of zeroes
pub all_zero : (xs : List ℕ) → ((k : ℕ) → k < length xs → get_or xs k 0 ≡ 0) → xs ≡ replicate (length xs) 0
all_zero xs h =
    same_lists _ _ (sym (length-replicate {A = ℕ} (length xs) 0))
    (λ k d lt. get_or_default xs k d 0 lt ∙ h k lt ∙ sym (get_or-replicate (length xs) k 0 d lt))
