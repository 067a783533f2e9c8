-- What the numbers of faults and leaks say.
-- SPDX-License-Identifier: MIT
use Rattle.std.proofs.Common.{◌≡◌, ℕ, zero, suc, ◌+◌, ◌*◌, ◌/◌, ◌<◌, ◌≤◌, ⊎_elim, inl, inr, Bool, true, false, nat_lt, nat_eq, List, refl, arith}
use Rattle.std.proofs.lemmas.Bool.{cases_lt, cases_eq}
use Rattle.std.proofs.lemmas.Bool.Decides.{nat_tests}
use Rattle.imago_qcow2.specs.Numbers.{be64}
use Rattle.imago_qcow2.specs.Entry.{l1_entry, l1_start}
use Rattle.imago_qcow2_check.specs.Sums.{total, one_if}
use Rattle.imago_qcow2_check.specs.Clusters.{Setting, cluster_count, passes}
use Rattle.imago_qcow2_check.specs.Entries.{offset_of, names_table, l1_entry_faults, l2_entry_faults, l2_faults, named_faults, table_faults, l1_faults}
use Rattle.imago_qcow2_check.specs.Counts.{blocks_start, blocks_length, blocks_count, block_entry, count_of}
use Rattle.imago_qcow2_check.specs.Snapshots.{snapshot_count, snapshots_start, snapshot_at, snapshots_length, is_long_table}
use Rattle.imago_qcow2_check.specs.Bitmaps.{bitmaps_extension, bitmaps_faults}
use Rattle.imago_qcow2_check.specs.Uses.{setting, l1_count, snapshot_faults, snapshots_faults, block_faults, blocks_faults, uses_of}
use Rattle.imago_qcow2_check.specs.Faults.{shared_fault, is_overused, is_leaked, table_faults_of, entry_faults, overused, leaks_of, corruptions_of, verdict_of}
use Rattle.imago_qcow2_check.specs.Verdicts.{HasTablesInside, HasValidEntries, IsFaultless, IsCorrupt, HasLeaksAlone, IsVerdict}
use Rattle.imago_qcow2_check.proofs.SumSteps.{total_each}

-- where a sum isn't 0, some value isn't
total_some : (f : ℕ → ℕ) (n : ℕ) → 0 < total f n → (i : ℕ) × (i < n) × (0 < f i)
unfolding total
total_some f zero h = absurd (omega (arith, h))
total_some f (suc n) h = ⊎_elim
    (λ (here : 0 < f n). (n, omega arith, here))
    (λ (none : f n ≤ 0).
    let p : 0 < total f n + f n = h in
    let x : (i : ℕ) × (i < n) × (0 < f i) = total_some f n (omega (arith, p, none)) in
    (x.0, omega (arith, x.1), x.2))
    (cases_lt 0 (f n))

less_if : (a b : ℕ) → 0 < one_if (nat_lt a b) → a < b
less_if a b h = ⊎_elim (λ (l : a < b). l) (λ (l : b ≤ a). let t : nat_lt a b ≡ false = grind (arith, nat_tests) in let z : 0 < 0 = rw t at h in absurd (omega (arith, z))) (cases_lt a b)

not_less : (a b : ℕ) → one_if (nat_lt a b) ≡ 0 → b ≤ a
not_less a b h = ⊎_elim (λ (l : a < b). let t : nat_lt a b ≡ true = grind (arith, nat_tests) in let z : 1 ≡ 0 = rw t at h in absurd (omega (arith, z))) (λ (l : b ≤ a). l) (cases_lt a b)

none_if : (b : Bool) → one_if b ≡ 0 → b ≡ false
none_if true h = absurd (omega (arith, h))
none_if false h = refl

module _ (s : Setting) (bytes : List ℕ) (active : Bool) where
  l1_inside : (start count : ℕ) → l1_faults s bytes active start count ≡ 0 → passes s start (8 * count) ≡ false
  unfolding l1_faults
  l1_inside start count e = none_if (passes s start (8 * count)) (omega (arith, e))

  l1_valid : (start count i : ℕ) → l1_faults s bytes active start count ≡ 0 → i < count → table_faults s bytes active (be64 bytes (start + 8 * i)) ≡ 0
  unfolding l1_faults
  l1_valid start count i e h = total_each (λ i. table_faults s bytes active (be64 bytes (start + 8 * i))) count i (omega (arith, e)) h

  entry_valid : (entry : ℕ) → table_faults s bytes active entry ≡ 0 → l1_entry_faults s active entry ≡ 0
  unfolding table_faults
  entry_valid entry e = let p : l1_entry_faults s active entry + named_faults s bytes active entry ≡ 0 = e in omega (arith, p)

  named_valid : (entry : ℕ) → table_faults s bytes active entry ≡ 0 → names_table s entry ≡ true → l2_faults s bytes active (offset_of entry) ≡ 0
  unfolding table_faults
  named_valid entry e t =
      let p : l1_entry_faults s active entry + named_faults s bytes active entry ≡ 0 = e in
      let q : named_faults s bytes active entry ≡ 0 = omega (arith, p) in
      rw t at q

  l2_valid : (start j : ℕ) → l2_faults s bytes active start ≡ 0 → j < s.cluster / 8 → l2_entry_faults s active (be64 bytes (start + 8 * j)) ≡ 0
  unfolding l2_faults
  l2_valid start j e h = total_each (λ j. l2_entry_faults s active (be64 bytes (start + 8 * j))) (s.cluster / 8) j e h

snapshots_valid : (s : Setting) (bytes : List ℕ) (start count i : ℕ) → snapshots_faults s bytes start count ≡ 0 → i < count → snapshot_faults s bytes (snapshot_at bytes start i) ≡ 0
unfolding snapshots_faults
snapshots_valid s bytes start count i e h = total_each (λ i. snapshot_faults s bytes (snapshot_at bytes start i)) count i (omega (arith, e)) h

snapshots_inside : (s : Setting) (bytes : List ℕ) (start count : ℕ) → snapshots_faults s bytes start count ≡ 0 → passes s start (snapshots_length bytes start count) ≡ false
unfolding snapshots_faults
snapshots_inside s bytes start count e = none_if (passes s start (snapshots_length bytes start count)) (omega (arith, e))

snapshots_short : (s : Setting) (bytes : List ℕ) (start count : ℕ) → snapshots_faults s bytes start count ≡ 0 → is_long_table (snapshots_length bytes start count) ≡ false
unfolding snapshots_faults
snapshots_short s bytes start count e = none_if (is_long_table (snapshots_length bytes start count)) (omega (arith, e))

blocks_inside : (s : Setting) (bytes : List ℕ) (start size : ℕ) → blocks_faults s bytes start size ≡ 0 → passes s start size ≡ false
unfolding blocks_faults
blocks_inside s bytes start size e = none_if (passes s start size) (omega (arith, e))

blocks_valid : (s : Setting) (bytes : List ℕ) (start size i : ℕ) → blocks_faults s bytes start size ≡ 0 → i < size / 8 → block_faults s (be64 bytes (start + 8 * i)) ≡ 0
unfolding blocks_faults
blocks_valid s bytes start size i e h = total_each (λ i. block_faults s (be64 bytes (start + 8 * i))) (size / 8) i (omega (arith, e)) h

module _ (bytes : List ℕ) where
  tables_none : entry_faults bytes ≡ 0 → table_faults_of bytes ≡ 0
  unfolding entry_faults
  tables_none e = omega (arith, e)

  l1_none : table_faults_of bytes ≡ 0 → l1_faults (setting bytes) bytes true (l1_start bytes) (l1_count bytes) ≡ 0
  unfolding table_faults_of
  l1_none e = omega (arith, e)

  snapshots_none : table_faults_of bytes ≡ 0 → snapshots_faults (setting bytes) bytes (snapshots_start bytes) (snapshot_count bytes) ≡ 0
  unfolding table_faults_of
  snapshots_none e = omega (arith, e)

  bitmaps_none : table_faults_of bytes ≡ 0 → bitmaps_faults (setting bytes) bytes (bitmaps_extension bytes) ≡ 0
  unfolding table_faults_of
  bitmaps_none e = omega (arith, e)

  blocks_none : table_faults_of bytes ≡ 0 → blocks_faults (setting bytes) bytes (blocks_start bytes) (blocks_length bytes) ≡ 0
  unfolding table_faults_of
  blocks_none e = omega (arith, e)

  shared_none : (i : ℕ) → entry_faults bytes ≡ 0 → i < blocks_count bytes → shared_fault (setting bytes) (uses_of bytes) (block_entry bytes i) ≡ 0
  unfolding entry_faults
  shared_none i e h = total_each (λ i. shared_fault (setting bytes) (uses_of bytes) (block_entry bytes i)) (blocks_count bytes) i (omega (arith, e)) h

  tables_inside : table_faults_of bytes ≡ 0 → HasTablesInside (setting bytes) bytes
  tables_inside t = record {
    l1 = l1_inside (setting bytes) bytes true (l1_start bytes) (l1_count bytes) (l1_none t);
    snapshots = snapshots_inside (setting bytes) bytes (snapshots_start bytes) (snapshot_count bytes) (snapshots_none t);
    blocks = blocks_inside (setting bytes) bytes (blocks_start bytes) (blocks_length bytes) (blocks_none t);
  }

  valid : entry_faults bytes ≡ 0 → HasValidEntries bytes
  valid e =
      let s = setting bytes in
      let t = tables_none e in
      let each = λ (i : ℕ) (h : i < l1_count bytes). l1_valid s bytes true (l1_start bytes) (l1_count bytes) i (l1_none t) h in
      record {
        tables = tables_inside t;
        l1 = λ i h. entry_valid s bytes true (l1_entry bytes i) (each i h);
        l2 = λ i j h named k. l2_valid s bytes true (offset_of (l1_entry bytes i)) j (named_valid s bytes true (l1_entry bytes i) (each i h) named) k;
        snapshots = λ i h. snapshots_valid s bytes (snapshots_start bytes) (snapshot_count bytes) i (snapshots_none t) h;
        short = snapshots_short s bytes (snapshots_start bytes) (snapshot_count bytes) (snapshots_none t);
        bitmaps = bitmaps_none t;
        blocks = λ i h. blocks_valid s bytes (blocks_start bytes) (blocks_length bytes) i (blocks_none t) h;
        apart = λ i h. shared_none i e h;
      }

  none_over : overused bytes ≡ 0 → (n : ℕ) → n < cluster_count (setting bytes) → uses_of bytes n ≤ count_of bytes n
  unfolding overused
  none_over e n h = not_less (count_of bytes n) (uses_of bytes n) (total_each (is_overused (count_of bytes) (uses_of bytes)) (cluster_count (setting bytes)) n e h)

  none_leaked : leaks_of bytes ≡ 0 → (n : ℕ) → n < cluster_count (setting bytes) → count_of bytes n ≤ uses_of bytes n
  unfolding leaks_of
  none_leaked e n h = not_less (uses_of bytes n) (count_of bytes n) (total_each (is_leaked (count_of bytes) (uses_of bytes)) (cluster_count (setting bytes)) n e h)

  some_over : 0 < overused bytes → (n : ℕ) × (n < cluster_count (setting bytes)) × (count_of bytes n < uses_of bytes n)
  unfolding overused
  some_over h =
      let x : (i : ℕ) × (i < cluster_count (setting bytes)) × (0 < is_overused (count_of bytes) (uses_of bytes) i) = total_some (is_overused (count_of bytes) (uses_of bytes)) (cluster_count (setting bytes)) h in
      (x.0, x.1, less_if (count_of bytes (x.0)) (uses_of bytes (x.0)) (x.2))

  some_leaked : 0 < leaks_of bytes → (n : ℕ) × (n < cluster_count (setting bytes)) × (uses_of bytes n < count_of bytes n)
  unfolding leaks_of
  some_leaked h =
      let x : (i : ℕ) × (i < cluster_count (setting bytes)) × (0 < is_leaked (count_of bytes) (uses_of bytes) i) = total_some (is_leaked (count_of bytes) (uses_of bytes)) (cluster_count (setting bytes)) h in
      (x.0, x.1, less_if (uses_of bytes (x.0)) (count_of bytes (x.0)) (x.2))

  corrupt : 0 < corruptions_of bytes → IsCorrupt bytes
  corrupt h = ⊎_elim
      (λ (a : 0 < entry_faults bytes). inl a)
      (λ (a : entry_faults bytes ≤ 0). inr (some_over (omega (arith, h, a))))
      (cases_lt 0 (entry_faults bytes))

  pub verdict_is : (corruptions leaks : ℕ) → corruptions ≡ corruptions_of bytes → leaks ≡ leaks_of bytes → IsVerdict bytes (verdict_of corruptions leaks)
  verdict_is corruptions leaks a b = ⊎_elim
      (λ (c : corruptions ≡ 0).
      let t : nat_eq corruptions 0 ≡ true = grind (arith, nat_tests) in
      let e : entry_faults bytes ≡ 0 = omega (arith, a, c) in
      let o : overused bytes ≡ 0 = omega (arith, a, c) in
      ⊎_elim
      (λ (d : leaks ≡ 0).
      let u : nat_eq leaks 0 ≡ true = grind (arith, nat_tests) in
      let l : leaks_of bytes ≡ 0 = omega (arith, b, d) in
      let f : IsFaultless bytes = record { entries = valid e; counts = λ n h. (let x = none_over o n h in let y = none_leaked l n h in omega (arith, x, y)) } in
      rw (t, u) f)
      (λ (d : leaks ≡ 0 → ⊥).
      let u : nat_eq leaks 0 ≡ false = grind (arith, nat_tests, d) in
      let f : HasLeaksAlone bytes = record { entries = valid e; counts = none_over o; leak = some_leaked (omega (arith, b, d)) } in
      rw (t, u) f)
      (cases_eq leaks 0))
      (λ (c : corruptions ≡ 0 → ⊥).
      let t : nat_eq corruptions 0 ≡ false = grind (arith, nat_tests, c) in
      let f : IsCorrupt bytes = corrupt (omega (arith, a, c)) in
      rw t f)
      (cases_eq corruptions 0)
