-- The entries of a new file are valid.
-- SPDX-License-Identifier: MIT
use Rattle.std.proofs.Common.{◌≡◌, ℕ, ◌+◌, ◌-◌, ◌*◌, ◌/◌, ◌%◌, ◌<◌, ◌≤◌, ⊎_elim, Bool, true, false, ◌&&◌, not, nat_eq, nat_lt, List, length, refl, sym, ap, subst, ◌∙◌, arith}
use Rattle.std.specs.Int.{div_ceil}
use Rattle.std.proofs.lemmas.Bool.{cases_lt}
use Rattle.std.proofs.lemmas.Nat.{div-add-mod', mul-le}
use Rattle.std.proofs.lemmas.Bool.Decides.{nat_tests}
use Rattle.imago_drivers.specs.Place.{Value}
use Rattle.imago_qcow2.specs.declared.entry.L2Table.{L2Table}
use Rattle.imago_qcow2.specs.declared.entry.GuestCluster.{GuestCluster}
use Rattle.imago_qcow2.specs.Numbers.{be64}
use Rattle.imago_qcow2.specs.Entry.{version_of, cluster_length, l1_start, l1_entry, table_in_entry}
use Rattle.imago_qcow2_check.specs.Sums.{one_if}
use Rattle.imago_qcow2_check.specs.Clusters.{Setting, cluster_count, passes}
use Rattle.imago_qcow2_check.specs.Entries.{offset_of, copied_fault, cluster_faults, invalid_table, l1_entry_faults, l2_entry_faults, names_table}
use Rattle.imago_qcow2_check.specs.Counts.{blocks_start, blocks_length, block_entry, count_of}
use Rattle.imago_qcow2_check.specs.Snapshots.{snapshot_count, snapshots_start, snapshots_end, snapshots_length, is_long_table}
use Rattle.imago_qcow2_check.specs.Faults.{shared_fault}
use Rattle.imago_qcow2_check.specs.Bitmaps.{bitmaps_extension, bitmaps_faults}
use Rattle.imago_qcow2_check.specs.Uses.{setting, is_once, l1_count, block_faults, uses_of}
use Rattle.imago_qcow2_check.specs.Verdicts.{HasTablesInside, IsFaultless}
use Rattle.imago_qcow2_new.specs.declared.layout.Layout.{Layout}
use Rattle.imago_qcow2_new.specs.Layout.{table_word, l1_word}
use Rattle.imago_qcow2_new.specs.Image.{IsWritten}
use Rattle.imago_qcow2_new.proofs.Whole.{zero_whole}
use Rattle.imago_qcow2_new.proofs.EntrySteps.{no_table, no_cluster, zero_known}
use Rattle.imago_qcow2_new.proofs.Reading.{either, version_three, least, cluster_is, start_is, fourth_word, l1_is, table_says, table_there}
use Rattle.imago_qcow2_new.proofs.Counting.{counts_is, counts_length_is, count_entries, block_there, block_none, counted}
use Rattle.imago_qcow2_new.proofs.Uses.{by, setting_is, positive, end_at, end_is, clusters_are, count_is, block_whole, block_some, block_inside, no_snapshots, no_bitmaps, table_spot, cluster_spot, table_inside, table_offset, table_some, data_inside, data_some, data_says, data_offset, entry_read, names_none, used}

product_below : (unit x : ℕ) → x / unit * unit ≤ x
product_below unit x = let f : x / unit * unit + x % unit ≡ x = div-add-mod' x unit in omega (arith, f)

-- an entry of a stored cluster has no fault
stored_faults : (s : Setting) (d entry : ℕ) → offset_of entry ≡ d → nat_eq d 0 ≡ false → passes s d s.cluster ≡ false → copied_fault s true d entry ≡ 0
    → cluster_faults s true entry (GuestCluster.Stored d) ≡ 0
stored_faults s d entry o some inside none = rw (o, some, inside, none) refl

and_none : (b : Bool) → (b && false) ≡ false
and_none true = refl
and_none false = refl

module _ (l : Layout) (values : ℕ → Value) (file : List ℕ) (is : IsWritten l values file) where
  -- a cluster that begins in the file has the count 1
  below_end : (at : ℕ) → at + l.cluster ≤ l.end → at / l.cluster < end_at l values file is
  below_end at inside = ⊎_elim
      (λ (lt : at / l.cluster < l.end / l.cluster). lt)
      (λ (ge : l.end / l.cluster ≤ at / l.cluster).
      let p = positive l values file is in
      let e = end_is l values file is in
      let low : at / l.cluster * l.cluster ≤ at = product_below l.cluster at in
      let m : l.end / l.cluster * l.cluster ≤ at / l.cluster * l.cluster = mul-le (l.end / l.cluster) l.cluster (at / l.cluster) l.cluster ge (omega arith) in
      absurd (omega (arith, e, low, m, inside, p)))
      (cases_lt (at / l.cluster) (l.end / l.cluster))

  once : (at : ℕ) → at + l.cluster ≤ l.end → is_once file (at / l.cluster) ≡ true
  once at inside =
      let lt = below_end at inside in
      let n = is.len in
      let k = cluster_is l values file is in
      let all = clusters_are l values file is in
      let t : nat_lt (at / l.cluster) (l.end / l.cluster) ≡ true = grind (arith, nat_tests, lt) in
      let e = counted l values file is (at / l.cluster) lt in
      let few : div_ceil (length file) (cluster_length file) ≡ l.end / l.cluster = ap (λ x. div_ceil x (cluster_length file)) n ∙ ap (div_ceil l.end) k ∙ all in
      rw (few, t, e) refl

  -- nothing passes the end
  fits : (at : ℕ) → at + l.cluster ≤ l.end → passes (by l values file is) at l.cluster ≡ false
  unfolding passes
  fits at inside =
      let p = positive l values file is in
      let k = count_is l values file is in
      let some : nat_eq l.cluster 0 ≡ false = grind (arith, nat_tests, p) in
      let t : nat_lt l.end (at + l.cluster) ≡ false = grind (arith, nat_tests, inside) in
      rw (some, k, t) refl

  ends_inside : (at count : ℕ) → at + count ≤ l.end → passes (by l values file is) at count ≡ false
  unfolding passes
  ends_inside at count inside =
      let k = count_is l values file is in
      let t : nat_lt l.end (at + count) ≡ false = grind (arith, nat_tests, inside) in
      rw (k, t) (and_none (not (nat_eq count 0)))

  no_snapshot_bytes : (start : ℕ) → passes (by l values file is) start (snapshots_length file start 0) ≡ false
  unfolding passes snapshots_end
  no_snapshot_bytes start =
      let none : start - start ≡ 0 = omega arith in
      rw none refl

  short_table : is_long_table (snapshots_length file (snapshots_start file) (snapshot_count file)) ≡ false
  unfolding snapshots_end
  short_table =
      let z = no_snapshots l values file is in
      let none : snapshots_start file - snapshots_start file ≡ 0 = omega arith in
      ap (λ x. is_long_table (snapshots_length file (snapshots_start file) x)) z ∙ rw none refl

  -- the tables that the header names lie in the file
  tables_inside : HasTablesInside (by l values file is) file
  tables_inside = record {
    l1 =
        let a = start_is l values file is in
        let b = (fourth_word l values file is).1 in
        ends_inside (l1_start file) (8 * l1_count file) (omega (arith, a, b, l.tables_behind, l.data_at, l.end_at));
    snapshots =
        let z = no_snapshots l values file is in
        ap (λ x. passes (by l values file is) (snapshots_start file) (snapshots_length file (snapshots_start file) x)) z ∙ no_snapshot_bytes (snapshots_start file);
    blocks =
        let a = counts_is l values file is in
        let b = counts_length_is l values file is in
        let k = cluster_is l values file is in
        let e : blocks_length file ≡ l.header.counts_clusters * l.cluster = ap (λ x. x * cluster_length file) b ∙ ap (λ x. l.header.counts_clusters * x) k in
        ends_inside (blocks_start file) (blocks_length file) (omega (arith, a, e, l.blocks_at, l.l1_at, l.tables_behind, l.data_at, l.end_at));
  }

  -- an entry that names something, whose copied bit is set
  copied : (t entry : ℕ) → entry ≡ 9223372036854775808 + t → nat_eq t 0 ≡ false → t + l.cluster ≤ l.end → copied_fault (by l values file is) true t entry ≡ 0
  unfolding copied_fault
  copied t entry e some inside =
      let o = once t inside in
      let bit : nat_lt entry 9223372036854775808 ≡ false = grind (arith, nat_tests, e) in
      rw (some, o, bit) refl

  l1_sound : (i : ℕ) → i < l.header.l1_count → l1_entry_faults (by l values file is) true (l1_word l i) ≡ 0
  unfolding copied_fault
  l1_sound i lt = ⊎_elim
      (λ (st : (table_spot l values file is i).stored ≡ true).
      let o = table_offset l values file is i st in
      let e : l1_word l i ≡ 9223372036854775808 + (l.tables_start + (table_spot l values file is i).before) = rw st refl in
      let inside = table_inside l values file is i st in
      let z = copied (l.tables_start + (table_spot l values file is i).before) (l1_word l i) e (table_some l values file is i st) (omega (arith, inside, l.end_at)) in
      let says : table_in_entry l.end l.cluster (l1_word l i) ≡ L2Table.Stored (l.tables_start + (table_spot l values file is i).before) = sym (table_says l values file is i lt) ∙ table_there l values file is i lt st in
      let a : one_if (invalid_table (table_in_entry l.end l.cluster (l1_word l i))) ≡ 0 = ap (λ x. one_if (invalid_table x)) says in
      let b : copied_fault (by l values file is) true (offset_of (l1_word l i)) (l1_word l i) ≡ 0 = ap (λ x. copied_fault (by l values file is) true x (l1_word l i)) o ∙ z in
      omega (arith, a, b))
      (λ (st : (table_spot l values file is i).stored ≡ false).
      let e = names_none l values file is i 0 lt st in
      let says = no_table l.end l.cluster (positive l values file is) in
      let a : one_if (invalid_table (table_in_entry l.end l.cluster 0)) ≡ 0 = ap (λ x. one_if (invalid_table x)) says in
      let b : copied_fault (by l values file is) true (offset_of 0) 0 ≡ 0 = refl in
      ap (λ x. l1_entry_faults (by l values file is) true x) e ∙ omega (arith, a, b))
      (either (table_spot l values file is i).stored)

  -- a cluster that isn't stored
  gap_sound : l2_entry_faults (by l values file is) true l.gap ≡ 0
  unfolding l2_entry_faults passes copied_fault
  gap_sound = ⊎_elim
      (λ (none : l.gap < 1).
      let e : l.gap ≡ 0 = omega (arith, none) in
      let says = no_cluster (version_of file) l.cluster (positive l values file is) in
      ap (λ x. l2_entry_faults (by l values file is) true x) e ∙ ap (λ x. cluster_faults (by l values file is) true 0 x) says)
      (λ (some : 1 ≤ l.gap).
      let e : l.gap ≡ 1 = (let g = l.gap_is in omega (arith, some, g)) in
      let says = zero_known (version_of file) l.cluster (least l values file is) (version_three l values file is e) in
      ap (λ x. l2_entry_faults (by l values file is) true x) e ∙ ap (λ x. cluster_faults (by l values file is) true 1 x) says)
      (cases_lt l.gap 1)

  entry_sound : (k : ℕ) → l2_entry_faults (by l values file is) true (table_word l k) ≡ 0
  unfolding l2_entry_faults
  entry_sound k = ⊎_elim
      (λ (st : (cluster_spot l values file is k).stored ≡ true).
      let d : ℕ = l.data_start + (cluster_spot l values file is k).before in
      let o = data_offset l values file is k st in
      let e : table_word l k ≡ 9223372036854775808 + (l.data_start + (cluster_spot l values file is k).before) = rw st refl in
      let some = data_some l values file is k st in
      let inside = data_inside l values file is k st in
      let z = copied d (table_word l k) e some inside in
      let f = fits d inside in
      let says = data_says l values file is k st in
      ap (λ x. cluster_faults (by l values file is) true (table_word l k) x) says
      ∙ stored_faults (by l values file is) d (table_word l k) o some f z)
      (λ (st : (cluster_spot l values file is k).stored ≡ false).
      let e : table_word l k ≡ l.gap = rw st refl in
      ap (λ x. l2_entry_faults (by l values file is) true x) e ∙ gap_sound)
      (either (cluster_spot l values file is k).stored)

  table_entries : (i j : ℕ) → i < l.header.l1_count → names_table (by l values file is) (l1_word l i) ≡ true → j < l.cluster / 8
      → l2_entry_faults (by l values file is) true (be64 file (offset_of (l1_word l i) + 8 * j)) ≡ 0
  table_entries i j lt names less = ⊎_elim
      (λ (st : (table_spot l values file is i).stored ≡ true).
      let o = table_offset l values file is i st in
      ap (λ x. l2_entry_faults (by l values file is) true (be64 file (x + 8 * j))) o
      ∙ ap (λ x. l2_entry_faults (by l values file is) true x) (entry_read l values file is i 0 lt st j less) ∙ entry_sound (i * (l.cluster / 8) + j))
      (λ (st : (table_spot l values file is i).stored ≡ false).
      let e = names_none l values file is i 0 lt st in
      let f : names_table (by l values file is) 0 ≡ true = subst (λ x. names_table (by l values file is) x ≡ true) e names in
      let z : ⊥ = cc f in absurd z)
      (either (table_spot l values file is i).stored)

  block_sound : (i : ℕ) → i < l.header.counts_clusters * (l.cluster / 8) → (block_faults (by l values file is) (be64 file (l.cluster + 8 * i)) ≡ 0) × (shared_fault (by l values file is) (uses_of file) (be64 file (l.cluster + 8 * i)) ≡ 0)
  unfolding block_faults shared_fault passes
  block_sound i lt = ⊎_elim
      (λ (named : i < l.blocks).
      let e = block_there l values file is i named in
      let w = block_whole l values file is i in
      let s = block_some l values file is i named in
      let inside = block_inside l values file is i named in
      let within : l.blocks_start + i * l.cluster + l.cluster ≤ l.end = omega (arith, inside, l.tables_behind, l.data_at, l.end_at) in
      let f = fits (l.blocks_start + i * l.cluster) within in
      let u = used l values file is ((l.blocks_start + i * l.cluster) / l.cluster) (below_end (l.blocks_start + i * l.cluster) within) in
      let p = positive l values file is in
      let some : nat_eq l.cluster 0 ≡ false = grind (arith, nat_tests, p) in
      let k = count_is l values file is in
      let t : nat_lt l.end (l.blocks_start + i * l.cluster + l.cluster) ≡ false = grind (arith, nat_tests, within) in
      (rw (e, w, s, some, k, t) refl, rw (e, w, s, some, k, t, u) refl))
      (λ (none : l.blocks ≤ i).
      let e = block_none l values file is i none lt in
      let z : 0 % l.cluster ≡ 0 = zero_whole l.cluster (positive l values file is) in
      (rw (e, z) refl, rw e refl))
      (cases_lt i l.blocks)

  bitmaps_sound : bitmaps_faults (setting file) file (bitmaps_extension file) ≡ 0
  unfolding bitmaps_faults
  bitmaps_sound = let e = no_bitmaps l values file is in rw e refl

  pub faultless : IsFaultless file
  faultless = record {
    entries = record {
      tables = subst (λ (s : Setting). HasTablesInside s file) (sym (setting_is l values file is)) tables_inside;
      l1 = λ i lt. ap (λ s. l1_entry_faults s true (l1_entry file i)) (setting_is l values file is)
          ∙ (let k = (fourth_word l values file is).1 in let inside : i < l.header.l1_count = omega (arith, lt, k) in ap (λ x. l1_entry_faults (by l values file is) true x) (l1_is l values file is i inside) ∙ l1_sound i inside);
      l2 = λ i j lt names less.
          let k = (fourth_word l values file is).1 in
          let inside : i < l.header.l1_count = omega (arith, lt, k) in
          let e = l1_is l values file is i inside in
          let s = setting_is l values file is in
          let here : names_table (by l values file is) (l1_word l i) ≡ true = subst (λ x. names_table (by l values file is) x ≡ true) e (subst (λ x. names_table x (l1_entry file i) ≡ true) s names) in
          let near : j < l.cluster / 8 = subst (λ (x : Setting). j < x.cluster / 8) s less in
          ap (λ x. l2_entry_faults x true (be64 file (offset_of (l1_entry file i) + 8 * j))) s ∙ ap (λ x. l2_entry_faults (by l values file is) true (be64 file (offset_of x + 8 * j))) e ∙ table_entries i j inside here near;
      snapshots = λ i lt. absurd (let z = no_snapshots l values file is in omega (arith, lt, z));
      short = short_table;
      bitmaps = bitmaps_sound;
      blocks = λ i lt.
          let k = count_entries l values file is in
          let q = counts_is l values file is in
          ap (λ x. block_faults x (block_entry file i)) (setting_is l values file is) ∙ ap (λ x. block_faults (by l values file is) (be64 file (x + 8 * i))) q ∙ (block_sound i (omega (arith, lt, k))).0;
      apart = λ i lt.
          let k = count_entries l values file is in
          let q = counts_is l values file is in
          ap (λ x. shared_fault x (uses_of file) (block_entry file i)) (setting_is l values file is) ∙ ap (λ x. shared_fault (by l values file is) (uses_of file) (be64 file (x + 8 * i))) q ∙ (block_sound i (omega (arith, lt, k))).1;
    };
    counts = λ n lt.
        let all = clusters_are l values file is in
        let s : cluster_count (setting file) ≡ end_at l values file is = ap cluster_count (setting_is l values file is) ∙ all in
        let inside : n < end_at l values file is = omega (arith, lt, s) in
        used l values file is n inside ∙ sym (counted l values file is n inside);
  }

  pub used_once : (n : ℕ) → n < cluster_count (setting file) → (uses_of file n ≡ 1) × (count_of file n ≡ 1)
  used_once n lt =
      let all = clusters_are l values file is in
      let s : cluster_count (setting file) ≡ end_at l values file is = ap cluster_count (setting_is l values file is) ∙ all in
      let inside : n < end_at l values file is = omega (arith, lt, s) in
      (used l values file is n inside, counted l values file is n inside)
