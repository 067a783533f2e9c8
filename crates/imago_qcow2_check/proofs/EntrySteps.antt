-- What entries of L1 and L2 tables use.
-- SPDX-License-Identifier: MIT
use Rattle.std.proofs.Common.{◌%◌, ◌≡◌, ℕ, ◌+◌, ◌*◌, ◌/◌, ◌<◌, Bool, true, false, List, length, refl, ap, sym, arith}
use Rattle.imago_storage.specs.Bytes.{IsReadAt}
use Rattle.imago_qcow2.specs.declared.entry.GuestCluster.{GuestCluster}
use Rattle.imago_qcow2.specs.Numbers.{be64}
use Rattle.imago_qcow2.specs.Entry.{table_in_entry, cluster_in_entry}
use Rattle.imago_qcow2.proofs.NumberSteps.{read64}
use Rattle.imago_qcow2_check.specs.declared.tally.Tally.{Tally}
use Rattle.imago_qcow2_check.specs.Sums.{total, one_if}
use Rattle.imago_qcow2_check.specs.Clusters.{Setting, use_of, past_fault}
use Rattle.imago_qcow2_check.specs.Entries.{offset_of, length_at, data_start, data_length, invalid_cluster, invalid_table, copied_fault, cluster_copied_fault, cluster_use, cluster_faults}
use Rattle.imago_qcow2_check.specs.Entries.{l2_entry_use, l2_entry_faults, l2_uses, l2_faults, l1_entry_use, l1_entry_faults, names_table, named_use, named_faults, table_use, table_faults, l1_uses, l1_faults}
use Rattle.imago_qcow2_check.specs.Tallies.{Adds}
use Rattle.imago_qcow2_check.specs.Clusters.{passes}
use Rattle.imago_qcow2_check.proofs.RangeSteps.{use_zero}
use Rattle.imago_qcow2_check.proofs.SumSteps.{total_same}
use Rattle.imago_qcow2_check.proofs.TallySteps.{adds_none, adds_same, adds_then, adds_told}

zero_says : (version cluster : ℕ) → 0 < cluster → cluster_in_entry version cluster 0 ≡ GuestCluster.Absent
unfolding cluster_in_entry
zero_says version cluster some = let z : 0 % cluster ≡ 0 = omega arith in rw z refl

copied_none : (s : Setting) (active : Bool) → copied_fault s active 0 0 ≡ 0
unfolding copied_fault
copied_none s true = refl
copied_none s false = refl

past_none : (s : Setting) → past_fault s 0 0 ≡ 0
unfolding passes
past_none s = refl

module _ (s : Setting) (active : Bool) where
  -- an entry that is 0 uses nothing
  pub zero_adds : (a : Tally) (entry : ℕ) → entry ≡ 0 → 0 < s.cluster → Adds a a (l2_entry_use s entry) (l2_entry_faults s active entry)
  unfolding l2_entry_use l2_entry_faults
  zero_adds a entry is some =
      let e = zero_says s.version s.cluster some in
      let p = past_none s in
      let q = copied_none s active in
      let f : l2_entry_faults s active 0 ≡ 0 = rw e (omega (arith, p, q)) in
      let x : Adds a a (l2_entry_use s 0) (l2_entry_faults s active 0) = adds_none a (l2_entry_use s 0) (l2_entry_faults s active 0) (λ n. rw e (use_zero s 0 0 n refl)) f in
      rw is x

  -- what an L2 entry says is in its definition
  pub l2_entry_adds : (a b : Tally) (entry : ℕ) (says : GuestCluster) → says ≡ cluster_in_entry s.version s.cluster entry → Adds a b (cluster_use s entry says) (cluster_faults s active entry says)
      → Adds a b (l2_entry_use s entry) (l2_entry_faults s active entry)
  unfolding l2_entry_use l2_entry_faults
  l2_entry_adds a b entry says is p =
      let q = rw is at p in
      adds_same a b (cluster_use s entry (cluster_in_entry s.version s.cluster entry)) (l2_entry_use s entry) (l2_entry_faults s active entry) (l2_entry_faults s active entry) (λ n. refl) refl q

  pub cluster_adds : (a b c d : Tally) (entry start count : ℕ) (says : GuestCluster) (invalid copied : Bool) → start ≡ data_start says entry → count ≡ data_length s.cluster says entry → invalid ≡ invalid_cluster says
      → one_if copied ≡ cluster_copied_fault s active entry says
      → Adds a b (use_of s start count) (past_fault s start count) → Adds b c (λ n. 0) (one_if invalid) → Adds c d (λ n. 0) (one_if copied)
      → Adds a d (cluster_use s entry says) (cluster_faults s active entry says)
  cluster_adds a b c d entry start count says invalid copied is_start is_count is_invalid is_copied p q r =
      let x = rw (is_start, is_count) at p in
      let y = rw is_invalid at q in
      let z = rw is_copied at r in
      let u = use_of s (data_start says entry) (data_length s.cluster says entry) in
      let f = past_fault s (data_start says entry) (data_length s.cluster says entry) in
      let g = one_if (invalid_cluster says) in
      let h = cluster_copied_fault s active entry says in
      adds_told a c d u (f + g) h (f + g + h) (adds_told a b c u f g (f + g) x y refl) z refl

  pub l1_entry_adds : (a b c d : Tally) (entry offset count : ℕ) (invalid copied : Bool) → offset ≡ offset_of entry → count ≡ length_at s.cluster offset → invalid ≡ invalid_table (table_in_entry s.file s.cluster entry)
      → one_if copied ≡ copied_fault s active offset entry
      → Adds a b (use_of s offset count) 0 → Adds b c (λ n. 0) (one_if invalid) → Adds c d (λ n. 0) (one_if copied)
      → Adds a d (l1_entry_use s entry) (l1_entry_faults s active entry)
  l1_entry_adds a b c d entry offset count invalid copied is_offset is_count is_invalid is_copied p q r =
      let x = rw is_offset at (rw is_count at p) in
      let y = rw is_invalid at q in
      let z = rw is_offset at (rw is_copied at r) in
      let u = use_of s (offset_of entry) (length_at s.cluster (offset_of entry)) in
      let g = one_if (invalid_table (table_in_entry s.file s.cluster entry)) in
      let h = copied_fault s active (offset_of entry) entry in
      adds_told a c d u g h (g + h) (adds_told a b c u 0 g g x y (omega arith)) z refl

  -- an L2 table that was read
  pub l2_adds : (bytes table : List ℕ) (start : ℕ) → IsReadAt bytes start table → length table ≡ s.cluster → (a b : Tally)
      → Adds a b (λ n. total (λ j. l2_entry_use s (be64 table (8 * j)) n) (s.cluster / 8)) (total (λ j. l2_entry_faults s active (be64 table (8 * j))) (s.cluster / 8))
      → Adds a b (l2_uses s bytes start) (l2_faults s bytes active start)
  unfolding l2_uses l2_faults
  l2_adds bytes table start r whole a b p =
      let same = λ (j : ℕ) (h : j < s.cluster / 8). read64 bytes table start r (8 * j) (omega (arith, whole, h)) in
      adds_same a b (λ n. total (λ j. l2_entry_use s (be64 table (8 * j)) n) (s.cluster / 8)) (l2_uses s bytes start) (total (λ j. l2_entry_faults s active (be64 table (8 * j))) (s.cluster / 8)) (l2_faults s bytes active start)
      (λ n. total_same (λ j. l2_entry_use s (be64 table (8 * j)) n) (λ j. l2_entry_use s (be64 bytes (start + 8 * j)) n) (s.cluster / 8) (λ j h. ap (λ e. l2_entry_use s e n) (same j h)))
      (total_same (λ j. l2_entry_faults s active (be64 table (8 * j))) (λ j. l2_entry_faults s active (be64 bytes (start + 8 * j))) (s.cluster / 8) (λ j h. ap (λ e. l2_entry_faults s active e) (same j h))) p

  -- the L2 table that an L1 entry names, or none
  pub named_adds : (bytes : List ℕ) (entry offset : ℕ) → offset ≡ offset_of entry → names_table s entry ≡ true → (a b : Tally) → Adds a b (l2_uses s bytes offset) (l2_faults s bytes active offset)
      → Adds a b (named_use s bytes entry) (named_faults s bytes active entry)
  named_adds bytes entry offset is t a b p =
      let q = rw is at p in
      adds_same a b (l2_uses s bytes (offset_of entry)) (named_use s bytes entry) (l2_faults s bytes active (offset_of entry)) (named_faults s bytes active entry) (λ n. rw t refl) (rw t refl) q

  pub none_adds : (bytes : List ℕ) (entry : ℕ) → names_table s entry ≡ false → (a : Tally) → Adds a a (named_use s bytes entry) (named_faults s bytes active entry)
  none_adds bytes entry t a = adds_none a (named_use s bytes entry) (named_faults s bytes active entry) (λ n. rw t refl) (rw t refl)

  -- an L1 entry with its L2 table
  pub table_adds : (a b c : Tally) (bytes : List ℕ) (entry : ℕ) → Adds a b (l1_entry_use s entry) (l1_entry_faults s active entry) → Adds b c (named_use s bytes entry) (named_faults s bytes active entry)
      → Adds a c (table_use s bytes entry) (table_faults s bytes active entry)
  unfolding table_use table_faults
  table_adds a b c bytes entry p q = adds_then a b c (l1_entry_use s entry) (named_use s bytes entry) (table_use s bytes entry) (l1_entry_faults s active entry) (named_faults s bytes active entry) (table_faults s bytes active entry)
      p q (λ n. refl) refl

  -- an L1 table that was read
  pub l1_adds : (a b c : Tally) (bytes entries : List ℕ) (start count len : ℕ) → len ≡ 8 * count → length entries ≡ len → IsReadAt bytes start entries
      → Adds a b (use_of s start len) (past_fault s start len)
      → Adds b c (λ n. total (λ i. table_use s bytes (be64 entries (8 * i)) n) (length entries / 8)) (total (λ i. table_faults s bytes active (be64 entries (8 * i))) (length entries / 8))
      → Adds a c (l1_uses s bytes start count) (l1_faults s bytes active start count)
  unfolding l1_uses l1_faults
  l1_adds a b c bytes entries start count len is whole r p q =
      let k : length entries / 8 ≡ count = omega (arith, is, whole) in
      let x = rw is at p in
      let y = rw k at q in
      let same = λ (i : ℕ) (h : i < count). read64 bytes entries start r (8 * i) (omega (arith, whole, is, h)) in
      adds_then a b c (use_of s start (8 * count)) (λ n. total (λ i. table_use s bytes (be64 entries (8 * i)) n) count) (l1_uses s bytes start count)
      (past_fault s start (8 * count)) (total (λ i. table_faults s bytes active (be64 entries (8 * i))) count) (l1_faults s bytes active start count) x y
      (λ n. ap (λ t. use_of s start (8 * count) n + t) (total_same (λ i. table_use s bytes (be64 bytes (start + 8 * i)) n) (λ i. table_use s bytes (be64 entries (8 * i)) n) count (λ i h. ap (λ e. table_use s bytes e n) (sym (same i h)))))
      (ap (λ t. past_fault s start (8 * count) + t) (total_same (λ i. table_faults s bytes active (be64 bytes (start + 8 * i))) (λ i. table_faults s bytes active (be64 entries (8 * i))) count (λ i h. ap (λ e. table_faults s bytes active e) (sym (same i h)))))
