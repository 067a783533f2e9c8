-- What the reader makes of entries.
-- SPDX-License-Identifier: MIT
use Rattle.std.proofs.Common.{◌≡◌, ℕ, ◌+◌, ◌-◌, ◌/◌, ◌%◌, ◌<◌, ◌≤◌, ◌⊎◌, inl, inr, ⊎_elim, true, false, nat_eq, nat_lt, refl, arith}
use Rattle.std.proofs.lemmas.Bool.{cases_lt}
use Rattle.std.proofs.lemmas.Bool.Decides.{nat_tests}
use Rattle.std.proofs.Math.Nat.{mod-eq_of_lt}
use Rattle.imago_qcow2.specs.declared.entry.L2Table.{L2Table}
use Rattle.imago_qcow2.specs.declared.entry.GuestCluster.{GuestCluster}
use Rattle.imago_qcow2.specs.Entry.{table_in_entry, cluster_in_entry}

zero_mod : (c : ℕ) → 0 < c → 0 % c ≡ 0
zero_mod c h = mod-eq_of_lt h

pub table_entry : (file c t : ℕ) → t < 72057594037927936 → t % c ≡ 0 → 0 < t → t + c ≤ file → table_in_entry file c (9223372036854775808 + t) ≡ L2Table.Stored t
unfolding table_in_entry
table_entry file c t small whole some inside =
    let low : (9223372036854775808 + t) % 72057594037927936 ≡ t = omega (arith, small) in
    let high : (9223372036854775808 + t) / 72057594037927936 ≡ 128 = omega (arith, small) in
    let there : nat_eq t 0 ≡ false = grind (arith, nat_tests) in
    let fits : nat_lt file (t + c) ≡ false = grind (arith, nat_tests) in
    rw (low, high, whole, there, fits) refl

pub no_table : (file c : ℕ) → 0 < c → table_in_entry file c 0 ≡ L2Table.Absent
unfolding table_in_entry
no_table file c h = rw (zero_mod c h) refl

pub cluster_entry : (version c d : ℕ) → d < 72057594037927936 → d % c ≡ 0 → d % 2 ≡ 0 → 0 < d → cluster_in_entry version c (9223372036854775808 + d) ≡ GuestCluster.Stored d
unfolding cluster_in_entry
cluster_entry version c d small whole even some =
    let low : (9223372036854775808 + d) % 72057594037927936 ≡ d = omega (arith, small) in
    let high : (9223372036854775808 + d) / 72057594037927936 ≡ 128 = omega (arith, small) in
    let none : d - 0 ≡ d = omega arith in
    let there : nat_eq d 0 ≡ false = grind (arith, nat_tests) in
    rw (low, high, even, none, whole, there) refl

pub no_cluster : (version c : ℕ) → 0 < c → cluster_in_entry version c 0 ≡ GuestCluster.Absent
unfolding cluster_in_entry
no_cluster version c h = rw (zero_mod c h) refl

-- the entry of a zero cluster, which version 2 doesn't know
pub zero_cluster : (version c : ℕ) → 512 ≤ c → (cluster_in_entry version c 1 ≡ GuestCluster.Zero) ⊎ (cluster_in_entry version c 1 ≡ GuestCluster.Invalid)
unfolding cluster_in_entry
zero_cluster version c h =
    let z : 0 % c ≡ 0 = zero_mod c (omega (arith, h)) in
    ⊎_elim
    (λ (old : version < 3). let t : nat_lt version 3 ≡ true = grind (arith, nat_tests) in inr (rw (z, t) refl))
    (λ (new : 3 ≤ version). let t : nat_lt version 3 ≡ false = grind (arith, nat_tests) in inl (rw (z, t) refl))
    (cases_lt version 3)

pub zero_known : (version c : ℕ) → 512 ≤ c → 3 ≤ version → cluster_in_entry version c 1 ≡ GuestCluster.Zero
unfolding cluster_in_entry
zero_known version c h new =
    let z : 0 % c ≡ 0 = zero_mod c (omega (arith, h)) in
    let t : nat_lt version 3 ≡ false = grind (arith, nat_tests) in rw (z, t) refl
