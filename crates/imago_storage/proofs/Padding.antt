-- SPDX-License-Identifier: MIT
use Rattle.std.proofs.Common.{◌≡◌, ℕ, ◌+◌, ◌-◌, ◌*◌, ◌%◌, ◌/◌, ◌^◌, ◌<◌, ◌≤◌, arith, inl, inr, ap, ◌∙◌}
use Rattle.std.proofs.Math.Nat.{dvd-add, dvd-mul_right, mod-eq-zero_of_dvd, mod_self, mod-eq_of_lt, div-add-mod, le_of_dvd, dvd_of_mod-eq-zero, add-mod_left}
use Rattle.std.proofs.lemmas.Nat.Gcd.{dvd_refl}
use Rattle.std.proofs.lemmas.Bool.{cases_lt}
use Rattle.std.specs.Int.{next_multiple_of}
use Rattle.imago_storage.specs.Features.{Features, AreLawful, len_align}
use Rattle.imago_storage.specs.Padding.{padded_start, padded_length, padded_end, WrapCauses, IsPaddedRequest, aligned_start, aligned_end, IsAlignedPart}
use Rattle.imago_storage.proofs.Alignment.{power_positive, max_power, max_first, multiple_add, multiple_sub, multiple_of_multiple}

pub len_positive : (f : Features) → AreLawful f → 0 < len_align f
len_positive f a = power_positive (len_align f) (max_power f.req_align f.mem_align a.req a.mem)

-- the multiple of lengths is one of starts
pub len_whole : (f : Features) → AreLawful f → len_align f % f.req_align ≡ 0
len_whole f a = max_first f.req_align f.mem_align a.req a.mem

down_whole : (x a : ℕ) → (x - x % a) % a ≡ 0
down_whole x a = let e : x - x % a ≡ a * (x / a) = omega (arith, div-add-mod x a) in rw e (mod-eq-zero_of_dvd a (dvd-mul_right a (x / a)))

pub next_whole_zero : (x a : ℕ) → 0 < a → x % a ≡ 0 → next_multiple_of x a ≡ x
next_whole_zero x a h e = let s : a - x % a ≡ a = omega (arith, e) in let z : (a - x % a) % a ≡ 0 = rw s (mod_self a) in omega arith

pub next_multiple : (x a : ℕ) → 0 < a → next_multiple_of x a % a ≡ 0
next_multiple x a h = elim (cases_lt 0 (x % a)) [
  | inl l ↦ let m : (a - x % a) % a ≡ a - x % a = mod-eq_of_lt (omega arith) in
      let e : x + (a - x % a) % a ≡ a * (x / a) + a = omega (arith, div-add-mod x a) in
      rw e (mod-eq-zero_of_dvd a (dvd-add a (dvd-mul_right a (x / a)) (dvd_refl a)))
  | inr l ↦ let z : x % a ≡ 0 = omega arith in rw (next_whole_zero x a h z) z
]

pub next_below : (x a : ℕ) → 0 < a → next_multiple_of x a < x + a
next_below x a h = omega arith

pub next_add : (x a : ℕ) → next_multiple_of (a + x) a ≡ a + next_multiple_of x a
next_add x a = let e : (a + x) % a ≡ x % a = add-mod_left a x in rw e (omega arith)

pub multiple_ge : (x a : ℕ) → 0 < x → x % a ≡ 0 → a ≤ x
multiple_ge x a h e = le_of_dvd h (dvd_of_mod-eq-zero a e)

-- the next multiple of something is one at least
pub next_one : (x a : ℕ) → 0 < a → 0 < x → a ≤ next_multiple_of x a
next_one x a h some = multiple_ge (next_multiple_of x a) a (omega arith) (next_multiple x a h)

-- the next multiple is the least one
next_least : (x a y : ℕ) → 0 < a → x ≤ y → y % a ≡ 0 → next_multiple_of x a ≤ y
next_least x a y p h e = elim (cases_lt y (next_multiple_of x a)) [
  | inl l ↦ absurd (omega (arith, next_below x a p, multiple_ge (next_multiple_of x a - y) a (omega arith) (multiple_sub a (next_multiple_of x a) y (next_multiple x a p) e)))
  | inr l ↦ l
]

-- a multiple below twice the number is the number
pub multiple_one : (x a : ℕ) → 0 < a → 0 < x → x % a ≡ 0 → x < a + a → x ≡ a
multiple_one x a p h e l =
    let g : a ≤ x = multiple_ge x a h e in
    let s : (x - a) % a ≡ x - a = mod-eq_of_lt (omega arith) in
    omega (arith, multiple_sub a x a e (mod_self a), s, g)

pub padded_request_of : (f : Features) (at n start len : ℕ) → AreLawful f → start ≡ padded_start f at → len ≡ padded_length f at n → start + len < 2 ^ 64 → IsPaddedRequest f at n start len
padded_request_of f at n start len a s l fits =
    let r : 0 < f.req_align = power_positive f.req_align a.req in
    let w : 0 < len_align f = len_positive f a in
    let b : padded_length f at n < at % f.req_align + n + len_align f = next_below (at % f.req_align + n) (len_align f) w in
    record {
      is_start = s;
      is_len = l;
      aligned = record { start = rw s (down_whole at f.req_align); whole = rw l (next_multiple (at % f.req_align + n) (len_align f) w); ends = fits };
      before = omega arith;
      near = omega arith;
      covers = omega arith;
      small = omega arith;
      same_start = λ i. omega (arith, i.start);
      same_len = λ i. l ∙ ap (λ x. next_multiple_of (x + n) (len_align f)) i.start ∙ ap (λ x. next_multiple_of x (len_align f)) (omega arith) ∙ next_whole_zero n (len_align f) w i.whole;
    }

pub aligned_part_of : (align at n start end : ℕ) → 0 < align → start ≡ aligned_start align at → end ≡ aligned_end align at n → at + n < 2 ^ 64 → start < 2 ^ 64 → IsAlignedPart align at n start end
aligned_part_of align at n start end p s e h k =
    let first : start % align ≡ 0 = rw s (next_multiple at align p) in
    let last : end % align ≡ 0 = rw e (down_whole (at + n) align) in
    record {
      is_start = s;
      is_end = e;
      range_ends = h;
      start_fits = k;
      before = omega arith;
      behind = omega arith;
      aligned = λ le. record { start = first; whole = multiple_sub align end start last first; ends = omega (arith, e) };
    }

pub wrap_causes : WrapCauses
wrap_causes f a at n some =
    let r : 0 < f.req_align = power_positive f.req_align a.req in
    let w : 0 < len_align f = len_positive f a in
    let covers : at + n ≤ padded_end f at n = omega arith in
    let whole : padded_length f at n % f.req_align ≡ 0 = multiple_of_multiple f.req_align (len_align f) (padded_length f at n) (next_multiple (at % f.req_align + n) (len_align f) w) (len_whole f a) in
    let all : padded_end f at n % f.req_align ≡ 0 = multiple_add f.req_align (padded_start f at) (padded_length f at n) (down_whole at f.req_align) whole in
    let up : next_multiple_of (at + n) f.req_align ≤ padded_end f at n = next_least (at + n) f.req_align (padded_end f at n) r covers all in
    (λ h. inr (inr h.1), λ h. (some, elim h [ inl x ↦ omega arith | inr y ↦ elim y [ inl x ↦ omega arith | inr x ↦ x ] ]))
