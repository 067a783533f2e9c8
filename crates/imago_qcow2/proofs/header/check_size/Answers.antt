-- SPDX-License-Identifier: MIT
use Rattle.std.proofs.Common.{◌≡◌, ℕ, ◌≤◌, ◌<◌, ◌*◌, ◌/◌, ⊎_elim, false, nat_lt, refl, arith}
use Rattle.std.proofs.lemmas.Bool.{cases_lt}
use Rattle.std.proofs.lemmas.Bool.Decides.{nat_tests}
use Rattle.imago_qcow2.specs.Numbers.{be32, be64}
use Rattle.imago_qcow2.specs.Header.{size_fault}
use Rattle.imago_qcow2.proofs.header.check_size.Goals as goal

most : (a n s : ℕ) → a < 18446744073709551616 → (n < 18446744073709551616 → ⊥) → a ≤ n
most a n s h small = ⊎_elim (λ l. absurd (small l)) (λ o. omega (arith, h, o)) (cases_lt n 18446744073709551616)

pub returns-in_default-clause-covers : goal.returns-in_default-clause-covers
returns-in_default-clause-covers c =
    let e = c.number32-count.ensures in
    let f = c.number64-size.ensures in
    let x : c.number64-size.result ≤ c.number32-count.result * (c.args.cluster / 8 * c.args.cluster) = most c.number64-size.result (c.number32-count.result * (c.args.cluster / 8 * c.args.cluster)) 0 c.number64-size.type_inv c.in_default.ensures in
    let y : be64 c.args.head.now 24 ≤ c.number32-count.result * (c.args.cluster / 8 * c.args.cluster) = rw f at x in
    let z : be64 c.args.head.now 24 ≤ be32 c.args.head.now 36 * (c.args.cluster / 8 * c.args.cluster) = rw e at y in z

pub returns-in_default-clause-fault : goal.returns-in_default-clause-fault
unfolding size_fault
returns-in_default-clause-fault c =
    let x = returns-in_default-clause-covers c in
    let t : nat_lt (be32 c.args.head.now 36 * (c.args.cluster / 8 * c.args.cluster)) (be64 c.args.head.now 24) ≡ false = grind (arith, nat_tests, x) in
    rw t refl
