-- SPDX-License-Identifier: MIT
use Rattle.std.proofs.Common.{◌≡◌, ℕ, ◌+◌, ◌*◌, ◌/◌, ◌%◌, ◌^◌, ◌<◌, ◌≤◌, ◌↔◌, IsTrue, arith, inl, inr, zero, suc, ◌∙◌, ap, refl}
use Rattle.std.proofs.Math.Nat.{pow-suc, pow-le-pow_right, mul_comm}
use Rattle.std.proofs.lemmas.Bool.{cases_lt, eqb-true, eq-eqb}
use Rattle.std.proofs.lemmas.Nat.{zero_from_ones, ones_le_self}
use Rattle.std.specs.Int.{IsPowerOfTwo, is_power_of_two}
use Rattle.std.specs.Int.RustNames.{count_ones}
use Rattle.imago_storage.specs.Powers.{IsAlignment, power_of_two}
use Rattle.imago_storage.proofs.Alignment.{power_divides}
use lib.Count.{ones_step, ones-le}

-- a number with one digit set is a power of two
one_digit : (d n : ℕ) → n ≤ d → count_ones n ≡ 1 → IsPowerOfTwo n
one_digit zero n h e = absurd (omega (arith, ones_le_self n))
one_digit (suc d) n h e =
    let step : count_ones n ≡ n % 2 + count_ones (n / 2) = ones_step n in
    elim (cases_lt 0 (n % 2)) [
      | inl odd ↦ let none : n / 2 ≡ 0 = zero_from_ones (n / 2) (omega arith) in (0, omega arith)
      | inr even ↦
          let half : IsPowerOfTwo (n / 2) = one_digit d (n / 2) (omega (arith, ones_le_self n)) (omega arith) in
          (suc half.0, omega (arith, half.1, pow-suc 2 half.0))
    ]

digits_of_power : (k : ℕ) → count_ones (2 ^ k) ≡ 1
digits_of_power zero = omega (arith, ones_step 1, ones-le 0 0 (omega arith))
digits_of_power (suc k) =
    let double : 2 ^ suc k ≡ 2 * 2 ^ k = pow-suc 2 k ∙ mul_comm (2 ^ k) 2 in
    let half : 2 ^ suc k / 2 ≡ 2 ^ k = omega (arith, double) in
    ones_step (2 ^ suc k) ∙ omega (arith, double, ap count_ones half, digits_of_power k)

-- the next power of two above 2 ^ 63 doesn't fit
too_great : (n : ℕ) → (p : IsPowerOfTwo n) → 2 ^ 63 < n → n < 2 ^ 64 → ⊥
too_great n p above fits =
    let two : 0 < 2 = omega arith in
    elim (cases_lt 63 p.0) [
      | inl l ↦ let high : 2 ^ 64 ≤ 2 ^ p.0 = pow-le-pow_right two l in omega (arith, p.1, high)
      | inr l ↦ let low : 2 ^ p.0 ≤ 2 ^ 63 = pow-le-pow_right two l in omega (arith, p.1, low)
    ]

-- the run-time test for powers of two tells alignments
pub alignment_test : (n : ℕ) → n < 2 ^ 64 → IsTrue (is_power_of_two n) ↔ IsAlignment n
alignment_test n fits = (
  λ h. (let p : IsPowerOfTwo n = one_digit n n (omega arith) (eqb-true _ _ h) in
      let top : IsPowerOfTwo (2 ^ 63) = (63, refl) in
      elim (cases_lt (2 ^ 63) n) [ inl l ↦ absurd (too_great n p l fits) | inr l ↦ power_divides n (2 ^ 63) p top l ]),
  λ h. (let p : IsPowerOfTwo n = power_of_two n h in eq-eqb _ _ (ap count_ones p.1 ∙ digits_of_power p.0)),
)
