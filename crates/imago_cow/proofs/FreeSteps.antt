-- SPDX-License-Identifier: MIT
use Rattle.std.proofs.Common.{◌≡◌, ℕ, ◌+◌, ◌-◌, ◌^◌, ◌<◌, ◌≤◌, List, [], ◌∷◌, length, Result, Ok, Err, refl, sym, ap, ◌∙◌, arith}
use Rattle.std.specs.Prelude.{sum_by, slice_index_or, IsOk, OnOk, OnErr}
use Rattle.std.specs.List.Sorted.{IsPermutation}
use Rattle.std.specs.BinaryHeap.{IsUpperBound, heap_items, heap_len}
use Rattle.std.specs.Ordering.{nat_cmp}
use Rattle.std.proofs.lemmas.Bool.Decides.{nat_tests}
use Rattle.std.proofs.lemmas.List.Sums.{sum_by-cons}
use Rattle.std.proofs.lemmas.List.Sorted.{sum_by-IsPermutation}
use Rattle.imago_cow.specs.declared.free.FreeBlocks.{FreeBlocks}
use Rattle.imago_cow.specs.Free.{one_if_same, IsEmpty, IsLowest, IsWithout}
use Rattle.std.proofs.lemmas.List.{nil_from_length}

-- what holds of an answer that isn't refused
pub on_ok : {T E : Type 0} (r : Result T E) (P : Type 0) → IsOk r → OnOk r P → P
on_ok (Ok x) P i h = h
on_ok (Err e) P i h = let z : ⊥ = cc in absurd z

-- what holds anyway holds of a refusal
pub on_err : {T E : Type 0} (r : Result T E) (P : Type 0) → P → OnErr r P
on_err (Ok x) P p = tt
on_err (Err e) P p = p

abbrev most : ℕ
most = 2 ^ 64 - 1

-- how often a number's distance stands in a list
abbrev times_in : ℕ → List ℕ → ℕ
times_in j xs = sum_by (λ x. one_if_same (x + j) most) xs

-- the number at a distance is that one alone
at_distance : (m x j k : ℕ) → x + j ≡ m → one_if_same (x + k) m ≡ one_if_same j k
at_distance m x j k e = grind (arith, nat_tests)

not_there : (m n : ℕ) → n < m → one_if_same n m ≡ 0
not_there m n h = grind (arith, nat_tests)

there : (n : ℕ) → one_if_same n n ≡ 1
there n = grind (arith, nat_tests)

one_more : (x j k : ℕ) (xs : List ℕ) → x + j ≡ most → times_in k (x ∷ xs) ≡ one_if_same j k + times_in k xs
one_more x j k xs e = sum_by-cons (λ y. one_if_same (y + k) most) x xs ∙ ap (λ n. n + times_in k xs) (at_distance most x j k e)

-- a heap that another is with one more
pub without : (x j : ℕ) (with others : FreeBlocks) → x + j ≡ most → IsPermutation (heap_items with.distances) (x ∷ heap_items others.distances) → heap_len others.distances + 1 ≡ heap_len with.distances → IsWithout j with others
without x j with others e p l = record {
  counts = λ k. sym (sum_by-IsPermutation (λ y. one_if_same (y + k) most) _ _ p) ∙ one_more x j k (heap_items others.distances) e;
  count = sym l;
}

pub without_pushed : (x j : ℕ) (with others : FreeBlocks) → x + j ≡ most → IsPermutation (x ∷ heap_items others.distances) (heap_items with.distances) → heap_len with.distances ≡ heap_len others.distances + 1 → IsWithout j with others
without_pushed x j with others e p l = record {
  counts = λ k. sum_by-IsPermutation (λ y. one_if_same (y + k) most) _ _ p ∙ one_more x j k (heap_items others.distances) e;
  count = l;
}

top_counts : (xs : List ℕ) (x j : ℕ) → 0 < length xs → x ≡ slice_index_or xs 0 x → x + j ≡ most → 1 ≤ times_in j xs
top_counts [] x j h t e = let z : ⊥ = omega arith in absurd z
top_counts (y ∷ ys) x j h t e =
    let b : times_in j (y ∷ ys) ≡ one_if_same j j + times_in j ys = one_more y j j ys (ap (λ n. n + j) (sym t) ∙ e) in
    let d = there j in
    omega (arith, b, d)

at_most : (x y : ℕ) (ys : List ℕ) → IsUpperBound nat_cmp x (y ∷ ys) → y ≤ x
at_most x y ys h = let a = h.0 in grind (arith, nat_tests)

-- nothing lower than the top is there
none_lower : (xs : List ℕ) (x j k : ℕ) → IsUpperBound nat_cmp x xs → x + j ≡ most → k < j → times_in k xs ≡ 0
none_lower [] x j k h e l = refl
none_lower (y ∷ ys) x j k h e l =
    let b : times_in k (y ∷ ys) ≡ one_if_same (y + k) most + times_in k ys = sum_by-cons (λ z. one_if_same (z + k) most) y ys in
    let u : y ≤ x = at_most x y ys h in
    let n : y + k < most = omega arith in
    let d = not_there most (y + k) n in
    let r : times_in k ys ≡ 0 = none_lower ys x j k h.1 e l in
    omega (arith, b, d, r)

-- the top is the lowest
pub top_is_lowest : (free : FreeBlocks) (x j : ℕ) → 0 < length (heap_items free.distances) → x ≡ slice_index_or (heap_items free.distances) 0 x → x + j ≡ most → IsUpperBound nat_cmp x (heap_items free.distances) → IsLowest free j
top_is_lowest free x j nonempty top e bound = record {
  among = top_counts (heap_items free.distances) x j nonempty top e;
  none_lower = λ k l. none_lower (heap_items free.distances) x j k bound e l;
}

-- a heap without items
pub empty : (free : FreeBlocks) → heap_len free.distances ≡ 0 → length (heap_items free.distances) ≡ 0 → IsEmpty free
empty free l h = record {
  count = l;
  none = λ j. ap (times_in j) (nil_from_length (heap_items free.distances) h);
}
