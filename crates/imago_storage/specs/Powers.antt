-- SPDX-License-Identifier: MIT
use Rattle.std.specs.Prelude.{◌≡◌, ℕ, ◌+◌, ◌-◌, ◌*◌, ◌/◌, ◌%◌, ◌^◌, ◌<◌}
use Rattle.std.specs.Int.{IsPowerOfTwo}
use Rattle.std.proofs.Common.{arith, inl, inr, zero, suc, ◌∙◌, ap, sym}
use Rattle.std.proofs.Math.Nat.{mod-eq-zero_of_dvd, dvd-mul_right, mod-eq_of_lt, mod-zero}
use Rattle.std.proofs.Math.Nat.{div-add-mod, pow-suc, mul_comm, mul_assoc, add-mul}
use Rattle.std.proofs.lemmas.Bool.{cases_lt}

-- The number divides 2 ^ 63: it is a power of two that fits `usize`. In this form a written number
-- is tested by computing.
abbrev pub IsAlignment : ℕ → Type 0
IsAlignment n = 2 ^ 63 % n ≡ 0

-- An odd number that divides twice another one divides that one.
odd_divides : (n x c : ℕ) → 0 < n % 2 → 2 * x ≡ n * c → x % n ≡ 0
odd_divides n x c odd product =
    let a = n / 2 in
    let half : n ≡ 2 * a + 1 = omega arith in
    let split : n * c ≡ 2 * (a * c) + c = ap (λ m. m * c) half ∙ add-mul (2 * a) 1 c
    ∙ ap (λ m. m + 1 * c) (mul_assoc 2 a c) ∙ omega arith in
    let e = x - a * c in
    let even : c ≡ 2 * e = omega (arith, product, split) in
    let swap : n * (2 * e) ≡ 2 * (n * e) = sym (mul_assoc n 2 e) ∙ ap (λ m. m * e) (mul_comm n 2)
    ∙ mul_assoc 2 n e in
    let same : x ≡ n * e = omega (arith, product, ap (λ m. n * m) even, swap) in
    rw same (mod-eq-zero_of_dvd n (dvd-mul_right n e))

divides_one : (n : ℕ) → 1 % n ≡ 0 → n ≡ 1
divides_one n h = elim (cases_lt 1 n) [
  | inl l ↦ absurd (omega (arith, mod-eq_of_lt l))
  | inr l ↦ elim (cases_lt 0 n) [
    | inl m ↦ omega arith
    | inr m ↦ let none : n ≡ 0 = omega arith in let one : 1 % 0 ≡ 0 = rw none at h in
        absurd (omega (arith, one, mod-zero 1))
  ]
]

divides_power : (k n : ℕ) → 2 ^ k % n ≡ 0 → IsPowerOfTwo n
divides_power zero n h = (0, divides_one n h)
divides_power (suc k) n h =
    let double : 2 ^ suc k ≡ 2 * 2 ^ k = pow-suc 2 k ∙ mul_comm (2 ^ k) 2 in
    let c = 2 ^ suc k / n in
    let product : 2 * 2 ^ k ≡ n * c = omega (arith, double, div-add-mod (2 ^ suc k) n) in
    elim (cases_lt 0 (n % 2)) [
      | inl odd ↦ divides_power k n (odd_divides n (2 ^ k) c odd product)
      | inr even ↦
          let half : n ≡ 2 * (n / 2) = omega arith in
          let both : n * c ≡ 2 * (n / 2 * c) = ap (λ m. m * c) half ∙ mul_assoc 2 (n / 2) c in
          let same : 2 ^ k ≡ n / 2 * c = omega (arith, product, both) in
          let p : IsPowerOfTwo (n / 2) = divides_power k (n / 2)
          (rw same (mod-eq-zero_of_dvd (n / 2) (dvd-mul_right (n / 2) c))) in
          (suc p.0, half ∙ ap (λ m. 2 * m) p.1 ∙ sym (pow-suc 2 p.0 ∙ mul_comm (2 ^ p.0) 2))
    ]

-- an alignment is a power of two
pub power_of_two : (n : ℕ) → IsAlignment n → IsPowerOfTwo n
power_of_two n h = divides_power 63 n h
