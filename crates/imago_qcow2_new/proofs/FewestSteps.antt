-- As few reference counts as count all clusters.
-- SPDX-License-Identifier: MIT
use Rattle.std.proofs.Common.{◌≡◌, ℕ, ◌+◌, ◌*◌, ◌/◌, ◌<◌, ◌≤◌, ap, arith}
use Rattle.std.specs.Int.{div_ceil}
use Rattle.std.proofs.lemmas.Nat.{mul-le}
use Rattle.imago_qcow2.proofs.HeldSteps.{enough}
use Rattle.imago_qcow2_new.specs.declared.layout.Layout.{Layout}
use Rattle.imago_qcow2_new.specs.Layout.{counted_clusters, per_block, per_table, HasFewestCounts, CountsAll}
use Rattle.imago_qcow2_new.proofs.Whole.{power_least}

module _ (l : Layout) (few : HasFewestCounts l) where
  least : 512 ≤ l.cluster
  least = power_least l.cluster l.header.cluster_bits l.power l.least

  positive : 0 < per_block l.cluster
  positive = let x = least in omega (arith, x)

  -- each block counts itself, and each cluster of the table itself and its blocks
  beside : (t b : ℕ) → CountsAll l t b → counted_clusters l + t ≤ b * per_block l.cluster
  beside t b (named, counts) =
      let x = least in
      let e : l.cluster / 2 ≡ per_block l.cluster + 1 = omega (arith, x) in
      let f : b * (l.cluster / 2) ≡ b * (per_block l.cluster + 1) = ap (λ (n : ℕ). b * n) e in
      let g : b * (per_block l.cluster + 1) ≡ b * per_block l.cluster + b = omega arith in
      omega (arith, counts, f, g)

  behind : (t b : ℕ) → CountsAll l t b → counted_clusters l ≤ t * per_table l.cluster
  behind t b all =
      let x = least in
      let p = positive in
      let near = beside t b all in
      let n : per_block l.cluster * (l.cluster / 8) ≡ per_table l.cluster + 1 = (let q : 1 * 1 ≤ per_block l.cluster * (l.cluster / 8) = mul-le 1 1 (per_block l.cluster) (l.cluster / 8) (omega (arith, p)) (omega (arith, x)) in omega (arith, q)) in
      let m : b * per_block l.cluster ≤ t * (l.cluster / 8) * per_block l.cluster = mul-le b (per_block l.cluster) (t * (l.cluster / 8)) (per_block l.cluster) all.0 (omega arith) in
      let e : t * (l.cluster / 8) * per_block l.cluster ≡ t * (per_block l.cluster * (l.cluster / 8)) = omega arith in
      let f : t * (per_block l.cluster * (l.cluster / 8)) ≡ t * (per_table l.cluster + 1) = ap (λ (k : ℕ). t * k) n in
      let g : t * (per_table l.cluster + 1) ≡ t * per_table l.cluster + t = omega arith in
      omega (arith, near, m, e, f, g)

  spans : 0 < per_table l.cluster
  spans =
      let x = least in
      let q : 2 * 2 ≤ per_block l.cluster * (l.cluster / 8) = mul-le 2 2 (per_block l.cluster) (l.cluster / 8) (omega (arith, x)) (omega (arith, x)) in
      omega (arith, q)

  pub fewest : (t b : ℕ) → CountsAll l t b → (l.header.counts_clusters ≤ t) × (l.blocks ≤ b)
  fewest t b all =
      let short : div_ceil (counted_clusters l) (per_table l.cluster) ≤ t = enough (counted_clusters l) t (per_table l.cluster) spans (behind t b all) in
      let first : l.header.counts_clusters ≤ t = omega (arith, short, few.table) in
      let near = beside t b all in
      let rest : counted_clusters l + l.header.counts_clusters ≤ b * per_block l.cluster = omega (arith, near, first) in
      let less : div_ceil (counted_clusters l + l.header.counts_clusters) (per_block l.cluster) ≤ b = enough (counted_clusters l + l.header.counts_clusters) b (per_block l.cluster) positive rest in
      (first, omega (arith, less, few.blocks))
