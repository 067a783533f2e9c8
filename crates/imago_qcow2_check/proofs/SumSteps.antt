-- Sums over indices.
-- SPDX-License-Identifier: MIT
use Rattle.std.proofs.Common.{◌≡◌, ℕ, zero, suc, ◌+◌, ◌<◌, refl, ⊎_elim, add-one, arith}
use Rattle.std.proofs.lemmas.Bool.{cases_eq}
use Rattle.imago_qcow2_check.specs.Sums.{total}

pub total_none : (f : ℕ → ℕ) → total f 0 ≡ 0
unfolding total
total_none f = refl

pub total_more : (f : ℕ → ℕ) (n : ℕ) → total f (n + 1) ≡ total f n + f n
unfolding total
total_more f n = rw add-one refl

pub total_same : (f g : ℕ → ℕ) (n : ℕ) → ((i : ℕ) → i < n → f i ≡ g i) → total f n ≡ total g n
unfolding total
total_same f g zero h = refl
total_same f g (suc n) h =
    let a = total_same f g n (λ i below. h i (omega arith)) in
    let b = h n (omega arith) in
    omega (arith, a, b)

-- where the sum is 0, each value is
pub total_each : (f : ℕ → ℕ) (n i : ℕ) → total f n ≡ 0 → i < n → f i ≡ 0
unfolding total
total_each f zero i e h = absurd (omega arith)
total_each f (suc n) i e h = ⊎_elim
    (λ same. let p : total f n + f n ≡ 0 = e in let q : f n ≡ 0 = omega (arith, p) in rw same q)
    (λ apart. let p : total f n + f n ≡ 0 = e in total_each f n i (omega (arith, p)) (omega (arith, h, apart)))
    (cases_eq i n)
