-- Which layer has what some offsets of a disk lead to.
-- SPDX-License-Identifier: MIT
use Rattle.std.proofs.Common.{◌≡◌, ℕ, ◌+◌, ◌-◌, ◌<◌, ◌≤◌, ⊎_elim, ◌∙◌, subst, arith}
use Rattle.std.proofs.lemmas.Bool.{cases_lt}
use Rattle.imago_access.specs.Target.{Target}
use Rattle.imago_copy.specs.declared.allocation.Allocation.{Allocation}
use Rattle.imago_copy.specs.Allocations.{allocation_of, AreAllocated}

-- what is allocated so for some bytes, and for those behind, is so for all
pub more_allocated : (leads : ℕ → Target) (p n m : ℕ) (a b : Allocation) → AreAllocated leads p n a → AreAllocated leads (p + n) m b → b ≡ a → AreAllocated leads p (n + m) a
more_allocated leads p n m a b h k same i lt = ⊎_elim
    (λ (inside : i < n). h i inside)
    (λ (behind : n ≤ i).
    let j : ℕ = i - n in
    let within : j < m = omega (arith, lt, behind) in
    let there : p + n + j ≡ p + i = omega (arith, behind) in
    subst (λ (z : ℕ). allocation_of (leads z) ≡ a) there (k j within ∙ same))
    (cases_lt i n)

-- what is known of the first of some bytes
pub first_allocated : (leads : ℕ → Target) (p m : ℕ) (b : Allocation) → AreAllocated leads p m b → 0 < m → allocation_of (leads p) ≡ b
first_allocated leads p m b k some =
    let here : p + 0 ≡ p = omega arith in
    subst (λ (z : ℕ). allocation_of (leads z) ≡ b) here (k 0 some)
