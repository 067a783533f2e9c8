-- SPDX-License-Identifier: MIT
use Rattle.std.proofs.Common.{◌≡◌, ℕ, ◌<◌, ⊎_elim, List, Option, Some, None, refl, sym, subst, arith}
use Rattle.std.proofs.lemmas.Bool.{cases_eq}
use Rattle.imago_cow.specs.declared.table.GuestBlock.{GuestBlock}
use Rattle.imago_cow.specs.Table.{times_used}
use Rattle.imago_cow.specs.Worked.{two_named}
use Rattle.imago_cow.proofs.laws.lowest_unused_ones.Goals as goal

-- three numbers, one by one
three_used : (entries : List GuestBlock) (held : Option ℕ) → times_used 0 entries held ≡ 1 → times_used 1 entries held ≡ 1 → times_used 2 entries held ≡ 1 → (j : ℕ) → j < 3 → times_used j entries held ≡ 1
three_used entries held zeroth first second j h = ⊎_elim
    (λ e. subst (λ k. times_used k entries held ≡ 1) (sym e) zeroth)
    (λ n. ⊎_elim
    (λ e. subst (λ k. times_used k entries held ≡ 1) (sym e) first)
    (λ m. let e : j ≡ 2 = omega (arith, n, m, h) in subst (λ k. times_used k entries held ≡ 1) (sym e) second)
    (cases_eq j 1))
    (cases_eq j 0)

two_used : (entries : List GuestBlock) (held : Option ℕ) → times_used 0 entries held ≡ 1 → times_used 1 entries held ≡ 1 → (j : ℕ) → j < 2 → times_used j entries held ≡ 1
two_used entries held zeroth first j h = ⊎_elim
    (λ e. subst (λ k. times_used k entries held ≡ 1) (sym e) zeroth)
    (λ n. let e : j ≡ 1 = omega (arith, n, h) in subst (λ k. times_used k entries held ≡ 1) (sym e) first)
    (cases_eq j 0)

pub returns-clause-free : goal.returns-clause-free
returns-clause-free c = record { within = omega arith; unused = refl; lowest = two_used two_named None refl refl }

pub returns-clause-new : goal.returns-clause-new
returns-clause-new c = record { within = omega arith; unused = refl; lowest = three_used two_named (Some 2) refl refl refl }

pub returns-clause-first : goal.returns-clause-first
returns-clause-first c = record { within = omega arith; unused = refl; lowest = λ j h. let z : ⊥ = omega (arith, h) in absurd z }
