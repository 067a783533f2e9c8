-- What the table of blocks of counts uses.
-- SPDX-License-Identifier: MIT
use Rattle.std.proofs.Common.{◌≡◌, ℕ, ◌+◌, ◌*◌, ◌/◌, ◌%◌, ◌<◌, List, length, not, nat_eq, refl, ap, sym, arith}
use Rattle.imago_storage.specs.Bytes.{IsReadAt}
use Rattle.imago_qcow2.proofs.NumberSteps.{read64}
use Rattle.imago_qcow2.specs.Numbers.{be64}
use Rattle.imago_qcow2_check.specs.declared.tally.Tally.{Tally}
use Rattle.imago_qcow2_check.specs.Sums.{total, one_if}
use Rattle.imago_qcow2_check.specs.Clusters.{Setting, use_of, past_fault}
use Rattle.imago_qcow2_check.specs.Uses.{block_length, block_use, block_faults, blocks_uses, blocks_faults}
use Rattle.imago_qcow2_check.specs.Tallies.{Adds}
use Rattle.imago_qcow2_check.proofs.SumSteps.{total_same}
use Rattle.imago_qcow2_check.proofs.TallySteps.{adds_same, adds_then, told_adds}

module _ (s : Setting) (a b c : Tally) where
  pub block_adds : (entry rest count : ℕ) → rest ≡ entry % s.cluster → count ≡ block_length s.cluster entry → Adds a b (λ n. 0) (one_if (not (nat_eq rest 0)))
      → Adds b c (use_of s entry count) (past_fault s entry count) → Adds a c (block_use s entry) (block_faults s entry)
  unfolding block_use block_faults
  block_adds entry rest count is_rest is_count p q =
      let x = rw is_rest at p in
      let y = rw is_count at q in
      adds_same a c (use_of s entry (block_length s.cluster entry)) (block_use s entry) (block_faults s entry) (block_faults s entry) (λ n. refl) refl
      (told_adds a b c (use_of s entry (block_length s.cluster entry)) (one_if (not (nat_eq (entry % s.cluster) 0))) (past_fault s entry (block_length s.cluster entry)) (block_faults s entry) x y refl)

  pub blocks_adds : (bytes table : List ℕ) (start : ℕ) → IsReadAt bytes start table
      → Adds a b (use_of s start (length table)) (past_fault s start (length table))
      → Adds b c (λ n. total (λ i. block_use s (be64 table (8 * i)) n) (length table / 8)) (total (λ i. block_faults s (be64 table (8 * i))) (length table / 8))
      → Adds a c (blocks_uses s bytes start (length table)) (blocks_faults s bytes start (length table))
  unfolding blocks_uses blocks_faults
  blocks_adds bytes table start r p q =
      let len = length table in
      let same = λ (i : ℕ) (h : i < length table / 8). sym (read64 bytes table start r (8 * i) (omega (arith, h))) in
      adds_then a b c (use_of s start len) (λ n. total (λ i. block_use s (be64 table (8 * i)) n) (len / 8)) (blocks_uses s bytes start len)
      (past_fault s start len) (total (λ i. block_faults s (be64 table (8 * i))) (len / 8)) (blocks_faults s bytes start len) p q
      (λ n. ap (λ t. use_of s start len n + t) (total_same (λ i. block_use s (be64 bytes (start + 8 * i)) n) (λ i. block_use s (be64 table (8 * i)) n) (len / 8) (λ i below. ap (λ e. block_use s e n) (same i below))))
      (ap (λ t. past_fault s start len + t) (total_same (λ i. block_faults s (be64 bytes (start + 8 * i))) (λ i. block_faults s (be64 table (8 * i))) (len / 8) (λ i below. ap (λ e. block_faults s e) (same i below))))
