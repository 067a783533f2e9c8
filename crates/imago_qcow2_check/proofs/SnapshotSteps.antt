-- What snapshots use.
-- SPDX-License-Identifier: MIT
use Rattle.std.proofs.Common.{◌≡◌, ℕ, ◌+◌, ◌-◌, ◌%◌, ◌||◌, Bool, true, false, not, nat_lt, nat_eq, List, refl, ap, sym, ◌∙◌, add-one, arith}
use Rattle.imago_qcow2_check.specs.declared.tally.Tally.{Tally}
use Rattle.imago_qcow2_check.specs.declared.snapshots.Snapshot.{Snapshot}
use Rattle.imago_qcow2_check.specs.Sums.{total, one_if}
use Rattle.imago_qcow2_check.specs.Clusters.{Setting, use_of, past_fault}
use Rattle.imago_qcow2_check.specs.Entries.{l1_uses, l1_faults}
use Rattle.imago_qcow2_check.specs.Snapshots.{is_invalid_l1, snapshot_l1, snapshot_l1_count, snapshot_end, snapshots_end, snapshot_at, has_long_extra, is_long_table}
use Rattle.imago_qcow2_check.specs.SnapshotParts.{IsSnapshot}
use Rattle.imago_qcow2_check.specs.Uses.{snapshot_uses, snapshot_tables_faults, snapshot_faults, snapshots_uses, snapshots_faults}
use Rattle.imago_qcow2_check.specs.Tallies.{Adds}
use Rattle.imago_qcow2_check.proofs.TallySteps.{adds_same, adds_then, adds_told, told_adds}

module _ (s : Setting) (bytes : List ℕ) (a b : Tally) where
  module _ (at : ℕ) (x : Snapshot) (is : IsSnapshot bytes at x) (r : Bool) (e : r ≡ (not (nat_eq (x.l1_start % s.cluster) 0) || nat_lt 4194304 x.l1_count)) where
    invalid_is : is_invalid_l1 s.cluster bytes at ≡ r
    invalid_is = sym (e ∙ ap (λ y. not (nat_eq (y % s.cluster) 0) || nat_lt 4194304 x.l1_count) is.start ∙ ap (λ y. not (nat_eq (snapshot_l1 bytes at % s.cluster) 0) || nat_lt 4194304 y) is.count)

    pub invalid_adds : r ≡ true → Adds a b (λ n. 0) (one_if true) → Adds a b (snapshot_uses s bytes at) (snapshot_tables_faults s bytes at)
    unfolding snapshot_uses snapshot_tables_faults
    invalid_adds t p =
        let f = invalid_is ∙ t in
        adds_same a b (λ n. 0) (snapshot_uses s bytes at) 1 (snapshot_tables_faults s bytes at) (λ n. rw f refl) (rw f refl) p

    pub snapshot_adds : r ≡ false → Adds a b (l1_uses s bytes x.l1_start x.l1_count) (l1_faults s bytes false x.l1_start x.l1_count) → Adds a b (snapshot_uses s bytes at) (snapshot_tables_faults s bytes at)
    unfolding snapshot_uses snapshot_tables_faults
    snapshot_adds t p =
        let f = invalid_is ∙ t in
        let q = rw (is.start, is.count) at p in
        adds_same a b (l1_uses s bytes (snapshot_l1 bytes at) (snapshot_l1_count bytes at)) (snapshot_uses s bytes at) (l1_faults s bytes false (snapshot_l1 bytes at) (snapshot_l1_count bytes at)) (snapshot_tables_faults s bytes at) (λ n. rw f refl) (rw f refl) q

-- a snapshot's own entry, and its tables
pub entry_adds : (s : Setting) (bytes : List ℕ) (a b c : Tally) (at : ℕ) (x : Snapshot) → IsSnapshot bytes at x → Adds a b (λ n. 0) (one_if (nat_lt 1024 x.extra))
    → Adds b c (snapshot_uses s bytes at) (snapshot_tables_faults s bytes at) → Adds a c (snapshot_uses s bytes at) (snapshot_faults s bytes at)
unfolding snapshot_faults
entry_adds s bytes a b c at x is p q =
    let y = rw is.extra at p in
    told_adds a b c (snapshot_uses s bytes at) (one_if (has_long_extra bytes at)) (snapshot_tables_faults s bytes at) (snapshot_faults s bytes at) y q refl

-- the table of snapshots by itself
pub table_adds : (s : Setting) (a b c : Tally) (start size : ℕ) → Adds a b (use_of s start size) (past_fault s start size) → Adds b c (λ n. 0) (one_if (is_long_table size))
    → Adds a c (use_of s start size) (past_fault s start size + one_if (is_long_table size))
table_adds s a b c start size p q =
    adds_told a b c (use_of s start size) (past_fault s start size) (one_if (is_long_table size)) (past_fault s start size + one_if (is_long_table size)) p q refl

-- the table of snapshots, behind all of them
pub snapshots_adds : (s : Setting) (bytes : List ℕ) (a b c : Tally) (start count end : ℕ) → end ≡ snapshots_end bytes start count
    → Adds a b (λ n. total (λ i. snapshot_uses s bytes (snapshot_at bytes start i) n) count) (total (λ i. snapshot_faults s bytes (snapshot_at bytes start i)) count)
    → Adds b c (use_of s start (end - start)) (past_fault s start (end - start) + one_if (is_long_table (end - start)))
    → Adds a c (snapshots_uses s bytes start count) (snapshots_faults s bytes start count)
unfolding snapshots_uses snapshots_faults
snapshots_adds s bytes a b c start count end is p q =
    let x = rw is at q in
    adds_then a b c (λ n. total (λ i. snapshot_uses s bytes (snapshot_at bytes start i) n) count) (use_of s start (snapshots_end bytes start count - start)) (snapshots_uses s bytes start count)
    (total (λ i. snapshot_faults s bytes (snapshot_at bytes start i)) count) (past_fault s start (snapshots_end bytes start count - start) + one_if (is_long_table (snapshots_end bytes start count - start))) (snapshots_faults s bytes start count) p x (λ n. refl) (omega arith)

pub ends_first : (bytes : List ℕ) (start : ℕ) → start ≡ snapshots_end bytes start 0
unfolding snapshots_end
ends_first bytes start = refl

pub ends_next : (bytes : List ℕ) (start i : ℕ) → snapshots_end bytes start (i + 1) ≡ snapshot_end bytes (snapshot_at bytes start i)
unfolding snapshots_end
ends_next bytes start i = rw add-one refl
