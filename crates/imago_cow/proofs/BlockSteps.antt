-- SPDX-License-Identifier: MIT
use Rattle.std.proofs.Common.{◌≡◌, ℕ, ◌*◌, ◌^◌, ◌<◌, ◌≤◌, IsTrue, arith, inl, inr, suc, ap, ◌∙◌}
use Rattle.std.proofs.Math.Nat.{pow-suc, pow-le-pow_right}
use Rattle.std.proofs.lemmas.Bool.{cases_lt}
use Rattle.std.proofs.lemmas.Nat.{pow_below}
use Rattle.std.specs.Int.{IsPowerOfTwo, is_power_of_two}
use Rattle.imago_storage.specs.Powers.{power_of_two}
use Rattle.imago_storage.proofs.Powers.{alignment_test}

-- a power of two is its own greatest one
pub power_at : (n r : ℕ) → IsTrue (is_power_of_two n) → n < 2 ^ 64 → 2 ^ r ≤ n → n < 2 * 2 ^ r → n ≡ 2 ^ r
power_at n r is fits low high =
    let p : IsPowerOfTwo n = power_of_two n ((alignment_test n fits).0 is) in
    let two : 0 < 2 = omega arith in
    elim (cases_lt p.0 r) [
      | inl less ↦ absurd (omega (arith, pow_below p.0 r less, p.1, low))
      | inr more ↦ elim (cases_lt r p.0) [
        | inl above ↦
            let twice : 2 ^ suc r ≤ 2 ^ p.0 = pow-le-pow_right two above in
            absurd (omega (arith, twice, pow-suc 2 r, p.1, high))
        | inr below ↦ let same : p.0 ≡ r = omega arith in p.1 ∙ ap (λ k. 2 ^ k) same
      ]
    ]
