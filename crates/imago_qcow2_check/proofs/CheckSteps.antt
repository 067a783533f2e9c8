-- All uses, and the comparison with the counts.
-- SPDX-License-Identifier: MIT
use Rattle.std.proofs.Common.{◌≡◌, ℕ, ◌+◌, ◌*◌, ◌/◌, ◌%◌, ◌<◌, ◌≤◌, true, false, not, nat_lt, nat_eq, min, List, length, refl, ap, sym, ◌∙◌, arith}
use Rattle.imago_qcow2_check.specs.declared.tally.Tally.{Tally}
use Rattle.imago_qcow2_check.specs.declared.head.Head.{Head}
use Rattle.imago_qcow2_check.specs.HeadParts.{IsHead}
use Rattle.imago_qcow2_check.specs.Clusters.{Setting, use_of}
use Rattle.imago_qcow2_check.specs.Entries.{l1_uses, l1_faults}
use Rattle.imago_qcow2.specs.Entry.{l1_start}
use Rattle.imago_qcow2_check.specs.Counts.{blocks_start, blocks_length}
use Rattle.imago_qcow2_check.specs.Snapshots.{snapshot_count, snapshots_start}
use Rattle.imago_qcow2_check.specs.Uses.{setting, l1_count, header_use, snapshots_uses, snapshots_faults, blocks_uses, blocks_faults, uses_of}
use Rattle.imago_qcow2_check.specs.Bitmaps.{bitmaps_extension, bitmaps_uses, bitmaps_faults}
use Rattle.imago_qcow2_check.specs.Faults.{table_faults_of}
use Rattle.imago_qcow2_check.specs.Tallies.{Adds}
use Rattle.imago_qcow2_check.proofs.TallySteps.{adds_then}
use Rattle.std.proofs.Common.{⊎_elim, replicate}
use Rattle.std.specs.Prelude.{slice_index}
use Rattle.std.specs.Int.{div_ceil}
use Rattle.std.proofs.Math.Path.{fun_ext}
use Rattle.std.proofs.lemmas.Bool.{cases_lt, cases_eq}
use Rattle.std.proofs.lemmas.Bool.Decides.{nat_tests}
use Rattle.std.proofs.lemmas.Nat.{div_below}
use Rattle.std.proofs.lemmas.List.{get_or_past, get_or-replicate, length-replicate}
use Rattle.imago_storage.specs.Bytes.{IsReadAt}
use Rattle.imago_qcow2.specs.Numbers.{be64}
use Rattle.imago_qcow2.specs.Entry.{version_of, cluster_length}
use Rattle.imago_qcow2.proofs.NumberSteps.{read64}
use Rattle.imago_qcow2_check.specs.declared.shape.Shape.{Shape}
use Rattle.imago_qcow2_check.specs.Sums.{total, one_if}
use Rattle.imago_qcow2_check.specs.Clusters.{cluster_count, passes}
use Rattle.imago_qcow2_check.specs.Counts.{blocks_count, block_entry, count_by, count_of, count_order, per_block}
use Rattle.imago_qcow2_check.specs.CountParts.{count_from, most_counted}
use Rattle.imago_qcow2_check.specs.Uses.{is_once, block_length}
use Rattle.imago_qcow2_check.specs.Faults.{shared_fault, is_overused, is_leaked, entry_faults, overused, leaks_of, corruptions_of}
use Rattle.imago_qcow2_check.specs.Tallies.{setting_of}
use Rattle.imago_qcow2_check.specs.Compared.{IsCompared}
use Rattle.imago_qcow2_check.proofs.SumSteps.{total_same}

-- one part behind the other
pub uses_adds : (s : Setting) (bytes : List ℕ) (h : Head) → s ≡ setting bytes → IsHead bytes h → h.bitmaps ≡ bitmaps_extension bytes → (a b c d e f : Tally) → Adds a b (use_of s 0 s.cluster) 0
    → Adds b c (l1_uses s bytes h.l1_start h.l1_count) (l1_faults s bytes true h.l1_start h.l1_count)
    → Adds c d (snapshots_uses s bytes h.snapshots_start h.snapshots_count) (snapshots_faults s bytes h.snapshots_start h.snapshots_count)
    → Adds d e (blocks_uses s bytes h.blocks_start h.blocks_length) (blocks_faults s bytes h.blocks_start h.blocks_length)
    → Adds e f (bitmaps_uses s bytes h.bitmaps) (bitmaps_faults s bytes h.bitmaps)
    → Adds a f (uses_of bytes) (table_faults_of bytes)
unfolding uses_of table_faults_of header_use
uses_adds s bytes h same is place a b c d e f p q r t m =
    let z = setting bytes in
    let p2 : Adds a b (use_of z 0 z.cluster) 0 = rw same at p in
    let q2 : Adds b c (l1_uses z bytes (l1_start bytes) (l1_count bytes)) (l1_faults z bytes true (l1_start bytes) (l1_count bytes)) = rw same at (rw (is.l1_start, is.l1_count) at q) in
    let r2 : Adds c d (snapshots_uses z bytes (snapshots_start bytes) (snapshot_count bytes)) (snapshots_faults z bytes (snapshots_start bytes) (snapshot_count bytes)) = rw same at (rw (is.snapshots_start, is.snapshots_count) at r) in
    let t2 : Adds d e (blocks_uses z bytes (blocks_start bytes) (blocks_length bytes)) (blocks_faults z bytes (blocks_start bytes) (blocks_length bytes)) = rw same at (rw (is.blocks_start, is.blocks_length) at t) in
    let m2 : Adds e f (bitmaps_uses z bytes (bitmaps_extension bytes)) (bitmaps_faults z bytes (bitmaps_extension bytes)) = rw same at (rw place at m) in
    let f1 = use_of z 0 z.cluster in
    let f2 = l1_uses z bytes (l1_start bytes) (l1_count bytes) in
    let f3 = snapshots_uses z bytes (snapshots_start bytes) (snapshot_count bytes) in
    let f4 = blocks_uses z bytes (blocks_start bytes) (blocks_length bytes) in
    let f5 = bitmaps_uses z bytes (bitmaps_extension bytes) in
    let x2 = l1_faults z bytes true (l1_start bytes) (l1_count bytes) in
    let x3 = snapshots_faults z bytes (snapshots_start bytes) (snapshot_count bytes) in
    let x4 = blocks_faults z bytes (blocks_start bytes) (blocks_length bytes) in
    let x5 = bitmaps_faults z bytes (bitmaps_extension bytes) in
    let u = adds_then a b c f1 f2 (λ n. f1 n + f2 n) 0 x2 x2 p2 q2 (λ n. refl) (omega arith) in
    let v = adds_then a c d (λ n. f1 n + f2 n) f3 (λ n. f1 n + f2 n + f3 n) x2 x3 (x2 + x3) u r2 (λ n. refl) refl in
    let w = adds_then a d e (λ n. f1 n + f2 n + f3 n) f4 (λ n. f1 n + f2 n + f3 n + f4 n) (x2 + x3) x4 (x2 + x3 + x4) v t2 (λ n. refl) refl in
    adds_then a e f (λ n. f1 n + f2 n + f3 n + f4 n) f5 (uses_of bytes) (x2 + x3 + x4) x5 (table_faults_of bytes) w m2 (λ n. refl) refl

-- the counts that were read are those of the file
pub count_same : (order cluster : ℕ) (bytes table : List ℕ) (n : ℕ) → order ≡ count_order bytes → cluster ≡ cluster_length bytes → IsReadAt bytes (blocks_start bytes) table → length table ≡ blocks_length bytes
    → count_from order cluster bytes table n ≡ count_of bytes n
unfolding count_of
count_same order cluster bytes table n is_order is_cluster r len =
    let per = per_block (count_order bytes) (cluster_length bytes) in
    let i = n / per in
    rw (is_order, is_cluster) (⊎_elim
    (λ (h : i < blocks_count bytes).
    let k : i < length table / 8 = rw len h in
    let t : nat_lt i (blocks_count bytes) ≡ true = grind (arith, nat_tests) in
    let u : nat_lt i (length table / 8) ≡ true = grind (arith, nat_tests) in
    let e : be64 table (8 * i) ≡ block_entry bytes i = read64 bytes table (blocks_start bytes) r (8 * i) (omega (arith, k)) in
    rw (t, u) (ap (λ x. count_by (count_order bytes) (cluster_length bytes) bytes x (n % per)) e))
    (λ (h : blocks_count bytes ≤ i).
    let k : length table / 8 ≤ i = rw len h in
    let t : nat_lt i (blocks_count bytes) ≡ false = grind (arith, nat_tests) in
    let u : nat_lt i (length table / 8) ≡ false = grind (arith, nat_tests) in
    rw (t, u) refl)
    (cases_lt i (blocks_count bytes)))

-- what a count of 32 bits tells
min_once : (x : ℕ) → nat_eq (min x most_counted) 1 ≡ nat_eq x 1
min_once x = ⊎_elim
    (λ (h : x < most_counted). let e : min x most_counted ≡ x = omega (arith, h) in ap (λ y. nat_eq y 1) e)
    (λ (h : most_counted ≤ x).
    let a : nat_eq (min x most_counted) 1 ≡ false = (let e : min x most_counted ≡ most_counted = omega (arith, h) in rw e refl) in
    let b : nat_eq x 1 ≡ false = grind (arith, nat_tests) in a ∙ sym b)
    (cases_lt x most_counted)

min_less : (x u : ℕ) → u < most_counted → nat_lt (min x most_counted) u ≡ nat_lt x u
min_less x u small = ⊎_elim
    (λ (h : x < most_counted). let e : min x most_counted ≡ x = omega (arith, h) in ap (λ y. nat_lt y u) e)
    (λ (h : most_counted ≤ x).
    let e : min x most_counted ≡ most_counted = omega (arith, h) in
    let a : nat_lt most_counted u ≡ false = grind (arith, nat_tests) in
    let b : nat_lt x u ≡ false = grind (arith, nat_tests) in ap (λ y. nat_lt y u) e ∙ a ∙ sym b)
    (cases_lt x most_counted)

min_more : (x u : ℕ) → u < most_counted → nat_lt u (min x most_counted) ≡ nat_lt u x
min_more x u small = ⊎_elim
    (λ (h : x < most_counted). let e : min x most_counted ≡ x = omega (arith, h) in ap (λ y. nat_lt u y) e)
    (λ (h : most_counted ≤ x).
    let e : min x most_counted ≡ most_counted = omega (arith, h) in
    let a : nat_lt u most_counted ≡ true = grind (arith, nat_tests) in
    let b : nat_lt u x ≡ true = grind (arith, nat_tests) in ap (λ y. nat_lt u y) e ∙ a ∙ sym b)
    (cases_lt x most_counted)

once_same : (bytes counts : List ℕ) (clusters n : ℕ) → clusters ≡ div_ceil (length bytes) (cluster_length bytes) → length counts ≡ clusters
    → ((n : ℕ) → n < clusters → slice_index counts n ≡ min (count_of bytes n) most_counted) → nat_eq (slice_index counts n) 1 ≡ is_once bytes n
once_same bytes counts clusters n is len each = ⊎_elim
    (λ (h : n < clusters).
    let t : nat_lt n (div_ceil (length bytes) (cluster_length bytes)) ≡ true = rw (← is) (grind (arith, nat_tests)) in
    let e : nat_eq (slice_index counts n) 1 ≡ nat_eq (count_of bytes n) 1 = ap (λ y. nat_eq y 1) (each n h) ∙ min_once (count_of bytes n) in
    rw t e)
    (λ (h : clusters ≤ n).
    let t : nat_lt n (div_ceil (length bytes) (cluster_length bytes)) ≡ false = rw (← is) (grind (arith, nat_tests)) in
    let z : slice_index counts n ≡ 0 = get_or_past counts n 0 (omega (arith, len, h)) in
    rw (t, z) refl)
    (cases_lt n clusters)

-- so what entries are looked at by is that of the file
pub setting_same : (shape : Shape) (bytes counts : List ℕ) → shape.file ≡ length bytes → shape.cluster ≡ cluster_length bytes → shape.version ≡ version_of bytes → length counts ≡ shape.clusters
    → ((n : ℕ) → n < shape.clusters → slice_index counts n ≡ min (count_of bytes n) most_counted) → setting_of shape counts ≡ setting bytes
setting_same shape bytes counts f c v len each =
    let is : shape.clusters ≡ div_ceil (length bytes) (cluster_length bytes) = shape.all ∙ ap (λ x. div_ceil x shape.cluster) f ∙ ap (div_ceil (length bytes)) c in
    let o : (λ n. nat_eq (slice_index counts n) 1) ≡ is_once bytes = fun_ext (λ n. once_same bytes counts shape.clusters n is len each) in
    rw (f, c, v, o) refl

shared_same : (s : Setting) (u v : ℕ → ℕ) (entry : ℕ) → 0 < s.cluster → ((n : ℕ) → n < cluster_count s → u n ≡ v n) → shared_fault s u entry ≡ shared_fault s v entry
unfolding shared_fault passes
shared_same s u v entry some h = ⊎_elim
    (λ (a : block_length s.cluster entry ≡ 0). let t : nat_eq (block_length s.cluster entry) 0 ≡ true = grind (arith, nat_tests) in rw t refl)
    (λ (a : block_length s.cluster entry ≡ 0 → ⊥).
    let t : nat_eq (block_length s.cluster entry) 0 ≡ false = grind (arith, nat_tests, a) in
    let z : nat_eq s.cluster 0 ≡ false = grind (arith, nat_tests) in
    ⊎_elim
    (λ (p : cluster_count s * s.cluster < entry + s.cluster). let q : nat_lt (cluster_count s * s.cluster) (entry + s.cluster) ≡ true = grind (arith, nat_tests) in rw (t, z, q) refl)
    (λ (p : entry + s.cluster ≤ cluster_count s * s.cluster).
    let q : nat_lt (cluster_count s * s.cluster) (entry + s.cluster) ≡ false = grind (arith, nat_tests) in
    let small : entry < cluster_count s * s.cluster = omega (arith, p, some) in
    let e = h (entry / s.cluster) (div_below entry s.cluster (cluster_count s) some small) in
    rw (t, z, q) (ap (λ y. one_if (not (nat_eq y 1))) e))
    (cases_lt (cluster_count s * s.cluster) (entry + s.cluster)))
    (cases_eq (block_length s.cluster entry) 0)

-- what was counted in the end
module _ (bytes : List ℕ) (s : Setting) (same : s ≡ setting bytes) (counts table : List ℕ) (t0 t1 t2 t3 : Tally) (clusters : ℕ) (is : clusters ≡ cluster_count s) (some : 0 < s.cluster)
    (len : length counts ≡ clusters) (each : (n : ℕ) → n < clusters → slice_index counts n ≡ min (count_of bytes n) most_counted)
    (fresh : t0.uses.items ≡ replicate clusters 0) (no_faults : t0.corruptions ≡ 0) (no_leaks : t0.leaks ≡ 0)
    (p : Adds t0 t1 (uses_of bytes) (table_faults_of bytes))
    (r : IsReadAt bytes (blocks_start bytes) table) (whole : length table ≡ blocks_length bytes)
    (q : Adds t1 t2 (λ n. 0) (total (λ i. shared_fault s (slice_index t1.uses.items) (be64 table (8 * i))) (length table / 8)))
    (x : IsCompared (slice_index counts) (slice_index t2.uses.items) (length counts) t2 t3) where
  all0 : length t0.uses.items ≡ clusters
  all0 = ap length fresh ∙ length-replicate clusters 0

  uses1 : (n : ℕ) → n < clusters → slice_index t1.uses.items n ≡ uses_of bytes n
  uses1 n h =
      let e : slice_index t1.uses.items n ≡ slice_index t0.uses.items n + uses_of bytes n = p.uses.each n (omega (arith, all0, h)) in
      let z : slice_index t0.uses.items n ≡ 0 = ap (λ (l : List ℕ). slice_index l n) fresh ∙ get_or-replicate clusters n 0 0 h in
      omega (arith, e, z)

  uses2 : (n : ℕ) → n < clusters → slice_index t2.uses.items n ≡ uses_of bytes n
  uses2 n h =
      let e : slice_index t2.uses.items n ≡ slice_index t1.uses.items n + 0 = q.uses.each n (omega (arith, all0, p.uses.len, h)) in
      let u = uses1 n h in
      omega (arith, e, u)

  shared_total : total (λ i. shared_fault s (slice_index t1.uses.items) (be64 table (8 * i))) (length table / 8) ≡ total (λ i. shared_fault (setting bytes) (uses_of bytes) (block_entry bytes i)) (blocks_count bytes)
  shared_total =
      let a = total_same (λ i. shared_fault s (slice_index t1.uses.items) (be64 table (8 * i))) (λ i. shared_fault s (uses_of bytes) (block_entry bytes i)) (length table / 8)
      (λ i h. ap (shared_fault s (slice_index t1.uses.items)) (read64 bytes table (blocks_start bytes) r (8 * i) (omega (arith, h)))
      ∙ shared_same s (slice_index t1.uses.items) (uses_of bytes) (block_entry bytes i) some (λ n k. uses1 n (omega (arith, is, k)))) in
      a ∙ ap (λ z. total (λ i. shared_fault z (uses_of bytes) (block_entry bytes i)) (length table / 8)) same
      ∙ ap (λ z. total (λ i. shared_fault (setting bytes) (uses_of bytes) (block_entry bytes i)) (z / 8)) whole

  over_total : total (is_overused (slice_index counts) (slice_index t2.uses.items)) (length counts) ≡ overused bytes
  unfolding overused
  over_total =
      let a = total_same (is_overused (slice_index counts) (slice_index t2.uses.items)) (is_overused (count_of bytes) (uses_of bytes)) (length counts)
      (λ n h.
      let u = uses2 n (omega (arith, h, len)) in
      let small : uses_of bytes n < most_counted = (let k = x.counted n h in omega (arith, k, u)) in
      ap (λ y. one_if (nat_lt (slice_index counts n) y)) u ∙ ap (λ y. one_if (nat_lt y (uses_of bytes n))) (each n (omega (arith, h, len))) ∙ ap one_if (min_less (count_of bytes n) (uses_of bytes n) small)) in
      a ∙ ap (total (is_overused (count_of bytes) (uses_of bytes))) (len ∙ is ∙ ap cluster_count same)

  leak_total : total (is_leaked (slice_index counts) (slice_index t2.uses.items)) (length counts) ≡ leaks_of bytes
  unfolding leaks_of
  leak_total =
      let a = total_same (is_leaked (slice_index counts) (slice_index t2.uses.items)) (is_leaked (count_of bytes) (uses_of bytes)) (length counts)
      (λ n h.
      let u = uses2 n (omega (arith, h, len)) in
      let small : uses_of bytes n < most_counted = (let k = x.counted n h in omega (arith, k, u)) in
      ap (λ y. one_if (nat_lt y (slice_index counts n))) u ∙ ap (λ y. one_if (nat_lt (uses_of bytes n) y)) (each n (omega (arith, h, len))) ∙ ap one_if (min_more (count_of bytes n) (uses_of bytes n) small)) in
      a ∙ ap (total (is_leaked (count_of bytes) (uses_of bytes))) (len ∙ is ∙ ap cluster_count same)

  pub all_corruptions : t3.corruptions ≡ corruptions_of bytes
  unfolding entry_faults
  all_corruptions = omega (arith, no_faults, p.faults, q.faults, x.corruptions, shared_total, over_total)

  pub all_leaks : t3.leaks ≡ leaks_of bytes
  all_leaks = omega (arith, no_leaks, p.leaks, q.leaks, x.leaks, leak_total)
