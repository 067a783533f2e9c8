-- The lengths by which guest clusters are found are powers of two.
-- SPDX-License-Identifier: MIT
use Rattle.std.proofs.Common.{◌≡◌, ℕ, ◌+◌, ◌-◌, ◌*◌, ◌/◌, ◌%◌, ◌^◌, ◌<◌, ◌≤◌, ⊎_elim, sym, ap, ◌∙◌, arith, bit_and}
use Rattle.std.specs.Int.{w64, bit_at, trailing_zeros}
use Rattle.std.proofs.Math.Nat.{pow-le-pow_right}
use Rattle.std.proofs.lemmas.Bool.{cases_lt}
use Rattle.std.proofs.lemmas.Nat.{pow-add, and_mask}
use Rattle.std.proofs.lemmas.Nat.Bits.{bit_at-pow_other, bit_at-trailing_zeros}
use Rattle.imago_qcow2.specs.Header.{IsClusterSize}

-- what the digits below a power of two are
pub masked : (n k power : ℕ) → power ≡ 2 ^ k → bit_and n (power - 1) ≡ n % power
masked n k power is = rw is (and_mask n k)

-- an eighth of a power of two is one
pub eighth : (bits length : ℕ) → 9 ≤ bits → length ≡ 2 ^ bits → length / 8 ≡ 2 ^ (bits - 3)
eighth bits length least is =
    let e : bits - 3 + 3 ≡ bits = omega (arith, least) in
    let p : length ≡ 2 ^ (bits - 3) * 2 ^ 3 = is ∙ sym (ap (λ x. 2 ^ x) e) ∙ pow-add 2 (bits - 3) 3 in
    omega (arith, p)

-- and has a half
pub halved : (bits length : ℕ) → 9 ≤ bits → length ≡ 2 ^ bits → length ≡ length / 2 * 2
halved bits length least is =
    let e : bits - 1 + 1 ≡ bits = omega (arith, least) in
    let p : length ≡ 2 ^ (bits - 1) * 2 ^ 1 = is ∙ sym (ap (λ x. 2 ^ x) e) ∙ pow-add 2 (bits - 1) 1 in
    omega (arith, p)

-- and so is what an L2 table is for: as many clusters as its entries
pub span_power : (bits length : ℕ) → 9 ≤ bits → length ≡ 2 ^ bits → length / 8 * length ≡ 2 ^ (2 * bits - 3)
span_power bits length least is =
    let e : 2 * bits - 3 ≡ bits - 3 + bits = omega (arith, least) in
    ap (λ x. x * length) (eighth bits length least is) ∙ ap (λ x. 2 ^ (bits - 3) * x) is ∙ sym (pow-add 2 (bits - 3) bits) ∙ sym (ap (λ x. 2 ^ x) e)

-- the exponent of a power of two is the place of its lowest 1
exponent : (k n t : ℕ) → n ≡ 2 ^ k → bit_at n t ≡ 1 → t ≡ k
exponent k n t is one =
    let here : bit_at (2 ^ k) t ≡ 1 = rw is at one in
    let clash = λ (other : t ≡ k → ⊥). let z : bit_at (2 ^ k) t ≡ 0 = bit_at-pow_other k t other in let y : ⊥ = omega (arith, z, here) in y in
    ⊎_elim
    (λ under. absurd (clash (λ e. let y : ⊥ = omega (arith, e, under) in y)))
    (λ over. ⊎_elim (λ past. absurd (clash (λ e. let y : ⊥ = omega (arith, e, past) in y))) (λ most. omega (arith, over, most)) (cases_lt k t))
    (cases_lt t k)

-- of the length of a cluster
pub record IsExponent (size t : ℕ) : Type 0 where
  pub power : size ≡ 2 ^ t
  pub least : 9 ≤ t
  pub most : t ≤ 21
  pub shortest : 512 ≤ size
  pub longest : size ≤ 2 ^ 21

pub size_exponent : (size : ℕ) → IsClusterSize size → size < 2 ^ 64 → IsExponent size (trailing_zeros w64 size)
size_exponent size (k, least, most, is) fits =
    let two : 0 < 2 = omega arith in
    let low : 2 ^ 9 ≤ 2 ^ k = pow-le-pow_right two least in
    let high : 2 ^ k ≤ 2 ^ 21 = pow-le-pow_right two most in
    let some : 0 < size = omega (arith, low, is) in
    let one = (bit_at-trailing_zeros w64 size some fits).1 in
    let e = exponent k size (trailing_zeros w64 size) is one in
    record {
      power = is ∙ sym (ap (λ x. 2 ^ x) e);
      least = omega (arith, e, least);
      most = omega (arith, e, most);
      shortest = omega (arith, low, is);
      longest = omega (arith, high, is);
    }
