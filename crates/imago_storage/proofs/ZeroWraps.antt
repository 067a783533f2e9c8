-- SPDX-License-Identifier: MIT
use Rattle.std.proofs.Common.{◌≡◌, ◌≢◌, ℕ, ◌+◌, ◌-◌, ◌*◌, ◌/◌, ◌%◌, ◌^◌, ◌<◌, ◌≤◌, ◌⊎◌, min, arith, inl, inr, ⊎_elim, ap, ◌∙◌, sym}
use Rattle.std.proofs.Math.Nat.{add-mul-mod_self_left, div-add-mod, mod-eq_of_lt, mod-lt}
use Rattle.std.proofs.lemmas.Bool.{cases_lt}
use Rattle.std.specs.Int.{next_multiple_of}
use Rattle.imago_storage.specs.Features.{Features, ZeroSupport, AsData, MayBeUnsupported, AreLawful, IsAlignedRequest, IsAlignedTo, len_align}
use Rattle.imago_storage.specs.Padding.{padded_length, padded_end, Wraps, aligned_start, aligned_end, RangeWraps, IsAlignedPart}
use Rattle.imago_storage.specs.Zeroes.{DataWraps, EdgeWraps, MayWrap, FitsZeroes, IsHead}
use Rattle.imago_storage.proofs.Alignment.{power_positive, multiple_add, multiple_of_multiple, multiple_sub}
use Rattle.imago_storage.proofs.Padding.{len_positive, len_whole, next_whole_zero, next_multiple, next_below}

-- a request behind whole blocks ends where the whole does
next_behind : (x a done : ℕ) → done % a ≡ 0 → next_multiple_of (done + x) a ≡ done + next_multiple_of x a
next_behind x a done whole =
    let blocks : done ≡ a * (done / a) = omega (arith, whole, div-add-mod done a) in
    let sum : done + x ≡ x + a * (done / a) = omega (arith, blocks) in
    let rest : (done + x) % a ≡ x % a = ap (λ n. n % a) sum ∙ add-mul-mod_self_left x a (done / a) in
    rw rest (omega arith)

-- the padded end of a request that starts on the request alignment
end_from_start : (f : Features) (at n : ℕ) → at % f.req_align ≡ 0 → padded_end f at n ≡ at + next_multiple_of n (len_align f)
end_from_start f at n start = let all : 0 + n ≡ n = omega arith in rw (start, all) (omega arith)

-- the last piece of a range is padded to the range's padded end
pub last_piece_end : (f : Features) (at n done : ℕ) → AreLawful f → at % f.req_align ≡ 0 → done % len_align f ≡ 0 → done ≤ n
    → padded_end f (at + done) (n - done) ≡ padded_end f at n
last_piece_end f at n done a start whole le =
    let steps : done % f.req_align ≡ 0 = multiple_of_multiple f.req_align (len_align f) done whole (len_whole f a) in
    let next : (at + done) % f.req_align ≡ 0 = multiple_add f.req_align at done start steps in
    let sum : next_multiple_of n (len_align f) ≡ done + next_multiple_of (n - done) (len_align f) = ap (λ x. next_multiple_of x (len_align f)) (omega arith) ∙ next_behind (n - done) (len_align f) done whole in
    end_from_start f (at + done) (n - done) next ∙ omega (arith, sum) ∙ sym (end_from_start f at n start)

-- a piece wraps around only where the whole range does
pub piece_wraps : (f : Features) (at n done k : ℕ) → AreLawful f → at % f.req_align ≡ 0 → done % len_align f ≡ 0 → done + k ≤ n → at + n < 2 ^ 64
    → (k % len_align f ≡ 0) ⊎ (k ≡ n - done) → Wraps f (at + done) k → Wraps f at n
piece_wraps f at n done k a start whole fits ends which w = elim which [
  | inr last ↦ (omega (arith, w.0), rw (← last_piece_end f at n done a start whole (omega arith), ← last) w.1)
  | inl full ↦
      let steps : done % f.req_align ≡ 0 = multiple_of_multiple f.req_align (len_align f) done whole (len_whole f a) in
      let e : padded_end f (at + done) k ≡ at + done + k = end_from_start f (at + done) k (multiple_add f.req_align at done start steps) ∙ ap (λ x. at + done + x) (next_whole_zero k (len_align f) (len_positive f a) full) in
      absurd (omega (arith, w.1, e))
]

-- a piece is whole, or the last one
pub piece_kind : (a piece left : ℕ) → piece % a ≡ 0 → (min piece left % a ≡ 0) ⊎ (min piece left ≡ left)
piece_kind a piece left whole = elim (cases_lt piece left) [
  | inl l ↦ let e : min piece left ≡ piece = omega arith in inl (rw e whole)
  | inr l ↦ inr (omega arith)
]

-- a piece that isn't the last one is an aligned request
pub piece_aligned : (f : Features) (at n done k : ℕ) → AreLawful f → at % f.req_align ≡ 0 → done % len_align f ≡ 0 → done + k ≤ n → at + n < 2 ^ 64
    → (k % len_align f ≡ 0) ⊎ (k ≡ n - done) → done + k < n → IsAlignedRequest f (at + done) k
piece_aligned f at n done k a start whole fits ends which more = elim which [
  | inr last ↦ absurd (omega (arith, last, more))
  | inl full ↦ record {
    start = multiple_add f.req_align at done start (multiple_of_multiple f.req_align (len_align f) done whole (len_whole f a));
    whole = full;
    ends = omega (arith, ends, more);
  }
]

-- a piece of a whole number of blocks is aligned, the last one too
pub piece_in_whole : (f : Features) (at n done k : ℕ) → AreLawful f → at % f.req_align ≡ 0
    → done % len_align f ≡ 0 → done + k ≤ n → at + n < 2 ^ 64
    → (k % len_align f ≡ 0) ⊎ (k ≡ n - done) → n % len_align f ≡ 0 → IsAlignedRequest f (at + done) k
piece_in_whole f at n done k a start whole fits ends which all = record {
  start = multiple_add f.req_align at done start (multiple_of_multiple f.req_align (len_align f) done whole (len_whole f a));
  whole = elim which [
    | inl full ↦ full
    | inr last ↦ rw last (multiple_sub (len_align f) n done all whole)
  ];
  ends = omega (arith, ends, fits);
}

-- where the last piece fits, so does the range
pub last_fits : (f : Features) (at n done k : ℕ) → AreLawful f → at % f.req_align ≡ 0 → done % len_align f ≡ 0 → done + k ≡ n → 0 < k
    → ¬ Wraps f (at + done) k → ¬ Wraps f at n
last_fits f at n done k a start whole all some fits w =
    let rest : n - done ≡ k = omega arith in
    fits (some, rw (← rest, last_piece_end f at n done a start whole (omega arith)) w.1)

-- of a range that starts on the request alignment nothing stands before its first multiple
pub data_from_start : (f : Features) (at n : ℕ) → AreLawful f → at % f.req_align ≡ 0 → (Wraps f at n → DataWraps f at n) × ((¬ Wraps f at n) → ¬ DataWraps f at n)
data_from_start f at n a start =
    let here : aligned_start f.req_align at ≡ at = next_whole_zero at f.req_align (power_positive f.req_align a.req) start in
    let rest : at + n - at ≡ n = omega arith in
    let none : min n (at - at) ≡ 0 = omega arith in (
      λ w. inr (rw (here, rest) w),
      λ fits d. elim d [
        | inl head ↦ let no : 0 < min n (aligned_start f.req_align at - at) = head.0 in absurd (omega (arith, no, here))
        | inr all ↦ fits (rw (here, rest) at all)
      ],
    )

-- the first multiple of the request alignment behind an offset that isn't one
pub first_multiple : (at a : ℕ) → 0 < at % a → 0 < a → aligned_start a at ≡ at + (a - at % a)
first_multiple at a some p = let m : (a - at % a) % a ≡ a - at % a = mod-eq_of_lt (omega arith) in omega (arith, m)

-- the head of a range
pub is_head : (f : Features) (at n first : ℕ) → AreLawful f → at % f.req_align ≢ 0 → 0 < n → first ≡ min (f.req_align - at % f.req_align) n → IsHead f at n first
is_head f at n first a off some is =
    let p : 0 < f.req_align = power_positive f.req_align a.req in
    let next : aligned_start f.req_align at ≡ at + (f.req_align - at % f.req_align) = first_multiple at f.req_align (omega (arith, off)) p in
    let head : min n (aligned_start f.req_align at - at) ≡ first = omega (arith, next, is) in
    let here : first < n → at + first ≡ aligned_start f.req_align at = λ l. omega (arith, next, is) in
    let rest : first < n → at + n - (at + first) ≡ n - first = λ l. omega (arith, next, is) in
    record {
      positive = omega (arith, is, mod-lt at p);
      within = omega (arith, is);
      rest_start = λ l. rw (here l) (next_multiple at f.req_align p);
      wraps = λ w. inl (rw head w);
      fits = λ all no d. elim d [
        | inl h ↦ no (rw head at h)
        | inr r ↦ let left : 0 < at + n - aligned_start f.req_align at = r.0 in absurd (omega (arith, left, next, is, all))
      ];
      rest_wraps = λ l w. inr (rw (← here l, rest l) w);
      rest_fits = λ l no left d. elim d [
        | inl h ↦ no (rw head at h)
        | inr r ↦ left (rw (← here l, rest l) at r)
      ];
    }

pub edge_wraps : (f : Features) (at n start end : ℕ) → IsAlignedPart f.zero_align at n start end → Wraps f at (start - at) ⊎ Wraps f end (at + n - end) → EdgeWraps f at n
edge_wraps f at n start end p w = rw (← p.is_start, ← p.is_end) w

pub edge_fits : (f : Features) (at n start end : ℕ) → IsAlignedPart f.zero_align at n start end → ¬ Wraps f at (start - at) → ¬ Wraps f end (at + n - end) → ¬ EdgeWraps f at n
edge_fits f at n start end p head tail w =
    let edges : Wraps f at (start - at) ⊎ Wraps f end (at + n - end) = rw (p.is_start, p.is_end) w in
    elim edges [ inl h ↦ head h | inr t ↦ tail t ]

-- a range that is its own aligned part has no edges to wrap around
pub no_edges : (f : Features) (at n start end : ℕ) → IsAlignedPart f.zero_align at n start end → start ≡ at → end ≡ at + n → ¬ EdgeWraps f at n
no_edges f at n start end p first last = edge_fits f at n start end p
    (λ w. let some : 0 < start - at = w.0 in omega (arith, some, first))
    (λ w. let some : 0 < at + n - end = w.0 in omega (arith, some, last))

-- a range whose aligned part is had doesn't wrap around
pub range_fits : (align at n start end : ℕ) → IsAlignedPart align at n start end → RangeWraps align at n → ⊥
range_fits align at n start end p w = ⊎_elim (λ x. omega (arith, p.range_ends)) (λ y. omega (arith, p.is_start, p.start_fits)) w

-- a range that doesn't wrap around, with no aligned part
pub fits_without_part : (f : Features) (z : ZeroSupport) (at n start end : ℕ) → IsAlignedPart f.zero_align at n start end → end ≤ start → ¬ DataWraps f at n → FitsZeroes f z at n
fits_without_part f z at n start end p none fits =
    let no : aligned_end f.zero_align at n ≤ aligned_start f.zero_align at = omega (arith, p.is_start, p.is_end) in
    record {
      range = λ w. elim w [ inl x ↦ omega (arith, x, p.range_ends) | inr x ↦ omega (arith, x, p.start_fits, p.is_start) ];
      no_part = λ _. fits;
      in_place = λ has. absurd (omega (arith, has, no));
      whole_data = λ has. absurd (omega (arith, has, no));
      odd_data = λ has. absurd (omega (arith, has, no));
      either = λ has. absurd (omega (arith, has, no));
    }

-- its part was zeroed by the storage, and its edges fit
pub fits_by_edges : (f : Features) (z : ZeroSupport) (at n start end : ℕ) → IsAlignedPart f.zero_align at n start end → start < end → ¬ EdgeWraps f at n
    → (z ≡ AsData → (end - start) % f.mem_align ≢ 0 → ⊥) → FitsZeroes f z at n
fits_by_edges f z at n start end p some fits even = record {
  range = λ w. elim w [ inl x ↦ omega (arith, x, p.range_ends) | inr x ↦ omega (arith, x, p.start_fits, p.is_start) ];
  no_part = λ none. absurd (none (omega (arith, p.is_start, p.is_end)));
  in_place = λ _ _. fits;
  whole_data = λ _ _ _. fits;
  odd_data = λ _ made odd. absurd (even made (rw (p.is_start, p.is_end) odd));
  either = λ _ _. inl fits;
}

-- the storage refused to zero its part, and it fits as data
pub fits_by_data : (f : Features) (z : ZeroSupport) (at n start end : ℕ) → IsAlignedPart f.zero_align at n start end → start < end → MayBeUnsupported z f.mem_align (end - start)
    → ¬ DataWraps f at n → FitsZeroes f z at n
fits_by_data f z at n start end p some refused fits = record {
  range = λ w. elim w [ inl x ↦ omega (arith, x, p.range_ends) | inr x ↦ omega (arith, x, p.start_fits, p.is_start) ];
  no_part = λ _. fits;
  in_place = λ _ place. absurd (refused.not_in_place place);
  whole_data = λ _ made whole. absurd (refused.as_data made (rw (p.is_start, p.is_end) whole));
  odd_data = λ _ _ _. fits;
  either = λ _ _. inr fits;
}

-- what may wrap around in each case
pub wrap_without_part : (f : Features) (z : ZeroSupport) (at n start end : ℕ) → IsAlignedPart f.zero_align at n start end → 0 < n → end ≤ start → DataWraps f at n → MayWrap f z at n
wrap_without_part f z at n start end p some none w = record { some = some; why = inr (inr (inl (λ has. omega (arith, has, p.is_start, p.is_end, none)), w)) }

pub wrap_by_edges : (f : Features) (z : ZeroSupport) (at n start end : ℕ) → IsAlignedPart f.zero_align at n start end → 0 < n → start < end → EdgeWraps f at n
    → (z ≡ AsData → (end - start) % f.mem_align ≢ 0 → ⊥) → MayWrap f z at n
wrap_by_edges f z at n start end p some has w even = record { some = some; why = inr (inl (omega (arith, p.is_start, p.is_end), rw (← p.is_start, ← p.is_end) offered, w)) }
  where
    offered : z ≡ AsData → (end - start) % f.mem_align ≡ 0
    offered made = ⊎_elim (λ (odd : 0 < (end - start) % f.mem_align). absurd (even made (λ e. omega (arith, e)))) (λ (none : (end - start) % f.mem_align ≤ 0). omega arith) (cases_lt 0 ((end - start) % f.mem_align))

pub wrap_by_data : (f : Features) (z : ZeroSupport) (at n start end : ℕ) → IsAlignedPart f.zero_align at n start end → 0 < n → MayBeUnsupported z f.mem_align (end - start) → DataWraps f at n → MayWrap f z at n
wrap_by_data f z at n start end p some refused w = record { some = some; why = inr (inr (inr (rw (← p.is_start, ← p.is_end) refused), w)) }

-- an aligned range is its own aligned part
pub part_of_aligned : (align at n start end : ℕ) → 0 < align → 0 < n → IsAlignedTo align at n → IsAlignedPart align at n start end → (start ≡ at) × (end ≡ at + n)
part_of_aligned align at n start end p some i part =
    let first : aligned_start align at ≡ at = next_whole_zero at align p i.start in
    let whole : (at + n) % align ≡ 0 = multiple_add align at n i.start i.whole in
    (part.is_start ∙ first, omega (arith, part.is_end, whole))

pub padded_covers : (f : Features) (at n : ℕ) → at + n ≤ padded_end f at n
padded_covers f at n = omega arith

pub padded_near : (f : Features) (at n : ℕ) → AreLawful f → padded_end f at n < at + n + len_align f
padded_near f at n a =
    let b : padded_length f at n < at % f.req_align + n + len_align f = next_below (at % f.req_align + n) (len_align f) (len_positive f a) in
    omega (arith, b, power_positive f.req_align a.req)
