-- What ranges of bytes use.
-- SPDX-License-Identifier: MIT
use Rattle.std.proofs.Common.{◌≡◌, ℕ, ◌+◌, ◌-◌, ◌*◌, ◌/◌, ◌<◌, ◌≤◌, true, false, nat_lt, nat_eq, not, refl, ⊎_elim, arith}
use Rattle.std.proofs.lemmas.Bool.{cases_lt}
use Rattle.std.proofs.lemmas.Bool.Decides.{nat_tests}
use Rattle.imago_qcow2_check.specs.TallyParts.{between}
use Rattle.imago_qcow2_check.specs.Clusters.{Setting, cluster_count, passes, use_of}

pub use_zero : (s : Setting) (at count n : ℕ) → count ≡ 0 → use_of s at count n ≡ 0
unfolding use_of
use_zero s at count n e = let z : nat_eq count 0 ≡ true = grind (arith, nat_tests) in rw z refl

pub use_past : (s : Setting) (at count n : ℕ) → passes s at count ≡ true → use_of s at count n ≡ 0
unfolding use_of
use_past s at count n e = ⊎_elim
    (λ (z : count < 1). let t : nat_eq count 0 ≡ true = grind (arith, nat_tests) in rw t refl)
    (λ (z : 1 ≤ count). let t : nat_eq count 0 ≡ false = grind (arith, nat_tests) in rw (t, e) refl)
    (cases_lt count 1)

pub not_past : (s : Setting) (clusters at count : ℕ) → clusters ≡ cluster_count s → passes s at count ≡ false → 0 < count → at + count ≤ clusters * s.cluster
unfolding passes
not_past s clusters at count is h some =
    let z : nat_eq count 0 ≡ false = grind (arith, nat_tests) in
    let p : nat_lt (cluster_count s * s.cluster) (at + count) ≡ false = rw z at h in
    let q : at + count ≤ cluster_count s * s.cluster = grind (arith, nat_tests, p) in
    rw is q

flip : (a n : ℕ) → not (nat_lt n (a + 1)) ≡ nat_lt a n
flip a n = ⊎_elim
    (λ (h : a < n). let x : nat_lt a n ≡ true = grind (arith, nat_tests) in let y : nat_lt n (a + 1) ≡ false = grind (arith, nat_tests) in rw (x, y) refl)
    (λ (h : n ≤ a). let x : nat_lt a n ≡ false = grind (arith, nat_tests) in let y : nat_lt n (a + 1) ≡ true = grind (arith, nat_tests) in rw (x, y) refl)
    (cases_lt a n)

pub range_use : (s : Setting) (clusters at count first last n : ℕ) → clusters ≡ cluster_count s → at + count ≤ clusters * s.cluster → 0 < count → first ≡ at / s.cluster → last ≡ (at + count - 1) / s.cluster
    → between first (last + 1) n ≡ use_of s at count n
unfolding use_of passes
range_use s clusters at count first last n is inside some is_first is_last =
    let z : nat_eq count 0 ≡ false = grind (arith, nat_tests) in
    let q : at + count ≤ cluster_count s * s.cluster = rw is at inside in
    let p : nat_lt (cluster_count s * s.cluster) (at + count) ≡ false = grind (arith, nat_tests) in
    rw (z, p, flip last n, is_first, is_last) refl
