-- How often each cluster of a new file is used.
-- SPDX-License-Identifier: MIT
use Rattle.std.proofs.Common.{◌≡◌, ℕ, ◌+◌, ◌-◌, ◌*◌, ◌/◌, ◌%◌, ◌<◌, ◌≤◌, ◌^◌, ⊎_elim, true, false, nat_eq, nat_lt, List, refl, sym, ap, subst, ◌∙◌, arith}
use Rattle.std.specs.Prelude.{if◌then◌else◌}
use Rattle.std.proofs.lemmas.Bool.{cases_lt}
use Rattle.std.proofs.lemmas.Bool.Decides.{nat_tests}
use Rattle.std.proofs.lemmas.Nat.{div-add-mod', mul-le}
use Rattle.imago_drivers.specs.Place.{Value}
use Rattle.imago_qcow2.specs.declared.entry.GuestCluster.{GuestCluster}
use Rattle.imago_qcow2.specs.Numbers.{be64}
use Rattle.imago_qcow2.specs.Entry.{version_of, cluster_length, l1_start, cluster_in_entry}
use Rattle.imago_qcow2_check.specs.Sums.{total}
use Rattle.imago_qcow2_check.specs.TallyParts.{between}
use Rattle.imago_qcow2_check.specs.Clusters.{Setting, cluster_count, use_of}
use Rattle.imago_qcow2_check.specs.Entries.{offset_of, length_at, l1_entry_use, names_table, named_use, table_use, l1_uses, l2_uses, l2_entry_use, cluster_use}
use Rattle.imago_qcow2_check.specs.Counts.{blocks_start, blocks_length}
use Rattle.imago_qcow2_check.specs.Snapshots.{snapshot_count, snapshots_start, snapshots_end}
use Rattle.imago_qcow2_check.specs.Bitmaps.{bitmaps_extension, bitmaps_uses}
use Rattle.imago_qcow2_check.specs.Uses.{setting, is_once, l1_count, header_use, snapshots_uses, blocks_uses, block_use, block_length, uses_of}
use Rattle.imago_qcow2_check.proofs.RangeSteps.{use_zero}
use Rattle.imago_qcow2_check.proofs.SumSteps.{total_same}
use Rattle.imago_qcow2_new.specs.declared.layout.Layout.{Layout}
use Rattle.imago_qcow2_new.specs.Extents.{Spot, spot}
use Rattle.imago_qcow2_new.specs.Header.{field_word}
use Rattle.imago_qcow2_new.specs.Layout.{table_word, l1_word, head_word}
use Rattle.imago_qcow2_new.specs.Image.{IsWritten}
use Rattle.imago_qcow2_new.proofs.Whole.{as_product, sum_whole, times_whole, whole_sector, zero_whole}
use Rattle.imago_qcow2_new.proofs.ExtentSteps.{stored_whole}
use Rattle.imago_qcow2_new.proofs.FileSteps.{below_all}
use Rattle.imago_qcow2_new.proofs.WordSteps.{word_halves}
use Rattle.imago_qcow2_new.proofs.EntrySteps.{cluster_entry, no_cluster, zero_cluster}
use Rattle.imago_qcow2_new.proofs.Reading.{either, least, behind, head_at, is_field, start_is, cluster_is, features_none, fourth_word, l1_is, entry_there, entry_gone}
use Rattle.imago_qcow2_new.proofs.Counting.{counts_is, counts_length_is, count_entries, block_there, block_none}
use Rattle.imago_qcow2_new.proofs.Sums.{product_is, quotient_is, between_in, between_none, between_both, total_zero, total_sum, total_part, total_ranges, total_between, rank, before_is, rank_next, rank_grows, rank_first, rank_all, use_range}

-- what an entry says where it names something: its offset, and that it is copied
pub offset_in : (t : ℕ) → t < 72057594037927936 → t % 512 ≡ 0 → offset_of (9223372036854775808 + t) ≡ t
offset_in t small whole =
    let low : (9223372036854775808 + t) % 72057594037927936 ≡ t = omega (arith, small) in
    rw (low, whole) (omega arith)

-- a multiple that is less than another one is a unit less
step_up : (unit a b : ℕ) → 0 < unit → a * unit < b * unit → (a + 1) * unit ≤ b * unit
step_up unit a b positive h = ⊎_elim
    (λ (lt : a < b). mul-le (a + 1) unit b unit (omega (arith, lt)) (omega arith))
    (λ (ge : b ≤ a). let m : b * unit ≤ a * unit = mul-le b unit a unit ge (omega arith) in absurd (omega (arith, m, h)))
    (cases_lt a b)

at_most : (unit a b : ℕ) → 0 < unit → a * unit ≤ b * unit → a ≤ b
at_most unit a b positive h = ⊎_elim
    (λ (lt : b < a).
    let m : (b + 1) * unit ≤ a * unit = mul-le (b + 1) unit a unit (omega (arith, lt)) (omega arith) in
    let e : (b + 1) * unit ≡ b * unit + unit = omega arith in absurd (omega (arith, m, e, h, positive)))
    (λ (ge : a ≤ b). ge)
    (cases_lt b a)

module _ (l : Layout) (values : ℕ → Value) (file : List ℕ) (is : IsWritten l values file) where
  -- what entries are looked at by, in the layout's own words
  abbrev pub by : Setting
  by = record { file = l.end; cluster = l.cluster; version = version_of file; once = is_once file }

  pub setting_is : setting file ≡ by
  setting_is =
      let a = is.len in
      let b = cluster_is l values file is in
      ap (λ x. record { file = x; cluster = cluster_length file; version = version_of file; once = is_once file }) a
      ∙ ap (λ x. record { file = l.end; cluster = x; version = version_of file; once = is_once file }) b

  pub positive : 0 < l.cluster
  positive = let x = least l values file is in omega (arith, x)

  -- entries that name nothing
  absent_use : (n : ℕ) → l2_entry_use by 0 n ≡ 0
  unfolding l2_entry_use
  absent_use n =
      let says = no_cluster (version_of file) l.cluster positive in
      ap (λ x. cluster_use by 0 x n) says ∙ use_zero by 0 0 n refl

  zero_use : (n : ℕ) → l2_entry_use by 1 n ≡ 0
  unfolding l2_entry_use
  zero_use n =
      let says = zero_cluster (version_of file) l.cluster (least l values file is) in
      ⊎_elim
      (λ (e : cluster_in_entry (version_of file) l.cluster 1 ≡ GuestCluster.Zero). ap (λ x. cluster_use by 1 x n) e ∙ use_zero by 0 0 n refl)
      (λ (e : cluster_in_entry (version_of file) l.cluster 1 ≡ GuestCluster.Invalid). ap (λ x. cluster_use by 1 x n) e ∙ use_zero by 0 0 n refl)
      says

  tables_stored_whole : l.tables.stored % l.cluster ≡ 0
  tables_stored_whole = let p = positive in ap (λ u. l.tables.stored % u) (sym l.tables_unit) ∙ stored_whole l.tables.unit l.tables.end l.tables.stored 0 0 l.tables.extents.items l.tables.ordered (zero_whole l.tables.unit (omega (arith, p, l.tables_unit)))

  clusters_stored_whole : l.clusters.stored % l.cluster ≡ 0
  clusters_stored_whole = let p = positive in ap (λ u. l.clusters.stored % u) (sym l.clusters_unit) ∙ stored_whole l.clusters.unit l.clusters.end l.clusters.stored 0 0 l.clusters.extents.items l.clusters.ordered (zero_whole l.clusters.unit (omega (arith, p, l.clusters_unit)))

  pub data_start_whole : l.data_start % l.cluster ≡ 0
  data_start_whole = ap (λ u. u % l.cluster) l.data_at ∙ sum_whole l.cluster l.tables_start l.tables.stored l.tables_whole tables_stored_whole

  pub end_whole : l.end % l.cluster ≡ 0
  end_whole = ap (λ u. u % l.cluster) l.end_at ∙ sum_whole l.cluster l.data_start l.clusters.stored data_start_whole clusters_stored_whole

  -- what a cluster uses that isn't stored
  gap_use : (n : ℕ) → l2_entry_use by l.gap n ≡ 0
  gap_use n = ⊎_elim
      (λ (none : l.gap < 1). let e : l.gap ≡ 0 = omega (arith, none) in ap (λ x. l2_entry_use by x n) e ∙ absent_use n)
      (λ (some : 1 ≤ l.gap). let e : l.gap ≡ 1 = (let g = l.gap_is in omega (arith, some, g)) in ap (λ x. l2_entry_use by x n) e ∙ zero_use n)
      (cases_lt l.gap 1)

  -- the clusters of the disk are those of the L2 tables
  clusters_most : l.length ≤ l.header.l1_count * (l.cluster / 8) * l.cluster
  clusters_most =
      let a = as_product l.cluster l.length l.length_whole in
      let p = positive in
      let e : l.header.l1_count * (l.cluster / 8) * l.cluster ≡ l.header.l1_count * (l.cluster / 8 * l.cluster) = omega arith in
      let lt : l.length / l.cluster * l.cluster < l.header.l1_count * (l.cluster / 8) * l.cluster + l.cluster = omega (arith, a, e, l.covers, l.length_near) in
      ⊎_elim
      (λ (le : l.length / l.cluster < l.header.l1_count * (l.cluster / 8) + 1).
      let m : l.length / l.cluster * l.cluster ≤ l.header.l1_count * (l.cluster / 8) * l.cluster = mul-le (l.length / l.cluster) l.cluster (l.header.l1_count * (l.cluster / 8)) l.cluster (omega (arith, le)) (omega arith) in
      omega (arith, a, m))
      (λ (gt : l.header.l1_count * (l.cluster / 8) + 1 ≤ l.length / l.cluster).
      let m : (l.header.l1_count * (l.cluster / 8) + 1) * l.cluster ≤ l.length / l.cluster * l.cluster = mul-le (l.header.l1_count * (l.cluster / 8) + 1) l.cluster (l.length / l.cluster) l.cluster gt (omega arith) in
      let f : (l.header.l1_count * (l.cluster / 8) + 1) * l.cluster ≡ l.header.l1_count * (l.cluster / 8) * l.cluster + l.cluster = omega arith in
      absurd (omega (arith, m, f, lt)))
      (cases_lt (l.length / l.cluster) (l.header.l1_count * (l.cluster / 8) + 1))

  -- where the parts begin, in clusters
  abbrev pub blocks_at : ℕ
  blocks_at = l.blocks_start / l.cluster

  abbrev pub l1_at : ℕ
  l1_at = l.header.l1_start / l.cluster

  abbrev pub tables_at : ℕ
  tables_at = l.tables_start / l.cluster

  abbrev pub data_at : ℕ
  data_at = l.data_start / l.cluster

  abbrev pub end_at : ℕ
  end_at = l.end / l.cluster

  blocks_start_is : l.blocks_start ≡ blocks_at * l.cluster
  blocks_start_is = as_product l.cluster l.blocks_start l.blocks_whole

  l1_start_is : l.header.l1_start ≡ l1_at * l.cluster
  l1_start_is = as_product l.cluster l.header.l1_start l.l1_whole

  tables_start_is : l.tables_start ≡ tables_at * l.cluster
  tables_start_is = as_product l.cluster l.tables_start l.tables_whole

  data_start_is : l.data_start ≡ data_at * l.cluster
  data_start_is = as_product l.cluster l.data_start data_start_whole

  pub end_is : l.end ≡ end_at * l.cluster
  end_is = as_product l.cluster l.end end_whole

  pub clusters_are : cluster_count by ≡ end_at
  clusters_are = let w = end_whole in rw w (omega arith)

  pub count_is : cluster_count by * l.cluster ≡ l.end
  count_is = ap (λ x. x * l.cluster) clusters_are ∙ sym end_is

  -- clusters from one on and before another, by their bytes
  range : (first stop at count n : ℕ) → at ≡ first * l.cluster → at + count ≤ stop * l.cluster → stop * l.cluster < at + count + l.cluster → at + count ≤ l.end → use_of by at count n ≡ between first stop n
  range first stop at count n e within near inside = use_range by positive first stop at count n e within near (let k = count_is in omega (arith, k, inside))

  -- a cluster
  one : (q at n : ℕ) → at ≡ q * l.cluster → at + l.cluster ≤ l.end → use_of by at l.cluster n ≡ between q (q + 1) n
  one q at n e inside =
      let f : (q + 1) * l.cluster ≡ q * l.cluster + l.cluster = omega arith in
      let p = positive in
      range q (q + 1) at l.cluster n e (omega (arith, e, f)) (omega (arith, e, f, p)) inside

  header : (n : ℕ) → header_use by n ≡ between 0 1 n
  unfolding header_use
  header n =
      let x : 0 ≡ 0 * l.cluster = omega arith in
      let far : l.cluster ≤ l.end = omega (arith, l.blocks_behind, l.l1_at, l.tables_behind, l.data_at, l.end_at) in
      one 0 0 n x (omega (arith, far))

  -- the table of blocks of counts
  table : (n : ℕ) → use_of by l.cluster (l.header.counts_clusters * l.cluster) n ≡ between 1 blocks_at n
  table n =
      let x : l.cluster ≡ 1 * l.cluster = omega arith in
      let b = blocks_start_is in
      let p = positive in
      range 1 blocks_at l.cluster (l.header.counts_clusters * l.cluster) n x (omega (arith, b, l.blocks_at)) (omega (arith, b, l.blocks_at, p)) (omega (arith, l.blocks_at, l.l1_at, l.tables_behind, l.data_at, l.end_at))

  -- a block of counts
  pub block_whole : (i : ℕ) → (l.blocks_start + i * l.cluster) % l.cluster ≡ 0
  block_whole i = sum_whole l.cluster l.blocks_start (i * l.cluster) l.blocks_whole (times_whole l.cluster i)

  pub block_some : (i : ℕ) → i < l.blocks → nat_eq (l.blocks_start + i * l.cluster) 0 ≡ false
  block_some i lt = let p = positive in grind (arith, nat_tests, p, l.blocks_behind)

  pub block_inside : (i : ℕ) → i < l.blocks → l.blocks_start + i * l.cluster + l.cluster ≤ l.header.l1_start
  block_inside i lt =
      let m : (i + 1) * l.cluster ≤ l.blocks * l.cluster = mul-le (i + 1) l.cluster l.blocks l.cluster (omega (arith, lt)) (omega arith) in
      let e : (i + 1) * l.cluster ≡ i * l.cluster + l.cluster = omega arith in
      omega (arith, m, e, l.l1_at)

  block : (i n : ℕ) → i < l.blocks → block_use by (be64 file (l.cluster + 8 * i)) n ≡ between (blocks_at + i) (blocks_at + (i + 1)) n
  unfolding block_use
  block i n lt =
      let e = block_there l values file is i lt in
      let w = block_whole i in
      let s = block_some i lt in
      let len : block_length l.cluster (l.blocks_start + i * l.cluster) ≡ l.cluster = rw (s, w) refl in
      let b = blocks_start_is in
      let place : l.blocks_start + i * l.cluster ≡ (blocks_at + i) * l.cluster = omega (arith, b) in
      let inside = block_inside i lt in
      let up : blocks_at + i + 1 ≡ blocks_at + (i + 1) = omega arith in
      ap (λ x. use_of by x (block_length l.cluster x) n) e ∙ ap (λ x. use_of by (l.blocks_start + i * l.cluster) x n) len
      ∙ one (blocks_at + i) (l.blocks_start + i * l.cluster) n place (omega (arith, inside, l.tables_behind, l.data_at, l.end_at)) ∙ ap (λ x. between (blocks_at + i) x n) up

  none_use : (n : ℕ) → block_use by 0 n ≡ 0
  unfolding block_use
  none_use n = use_zero by 0 (block_length l.cluster 0) n refl

  blocks : (n : ℕ) → total (λ i. block_use by (be64 file (l.cluster + 8 * i)) n) (l.header.counts_clusters * (l.cluster / 8)) ≡ between blocks_at l1_at n
  blocks n =
      let f : ℕ → ℕ = λ i. block_use by (be64 file (l.cluster + 8 * i)) n in
      let cut = total_part f l.blocks (l.header.counts_clusters * (l.cluster / 8)) l.blocks_named (λ i h k. ap (λ x. block_use by x n) (block_none l values file is i h k) ∙ none_use n) in
      let sum = total_ranges f (λ i. blocks_at + i) n l.blocks (λ i lt. omega arith) (λ i lt. block i n lt) in
      let zero_is : blocks_at + 0 ≡ blocks_at = omega arith in
      let b = blocks_start_is in
      let last : (blocks_at + l.blocks) * l.cluster ≡ l.header.l1_start = omega (arith, b, l.l1_at) in
      let a = l1_start_is in
      let p = positive in
      let top : blocks_at + l.blocks ≡ l1_at = product_is l.cluster p (blocks_at + l.blocks) l1_at (omega (arith, last, a), omega (arith, last, a, p)) in
      cut ∙ sum.1 ∙ ap (λ x. between x (blocks_at + l.blocks) n) zero_is ∙ ap (λ x. between blocks_at x n) top

  -- the L1 table
  l1 : (n : ℕ) → use_of by l.header.l1_start (8 * l.header.l1_count) n ≡ between l1_at tables_at n
  l1 n =
      let a = l1_start_is in
      let t = tables_start_is in
      range l1_at tables_at l.header.l1_start (8 * l.header.l1_count) n a (omega (arith, t, l.tables_behind)) (omega (arith, t, l.tables_near)) (omega (arith, l.tables_behind, l.data_at, l.end_at))

  pub tables_positive : 0 < l.tables.unit
  tables_positive = let p = positive in omega (arith, p, l.tables_unit)

  pub clusters_positive : 0 < l.clusters.unit
  clusters_positive = let p = positive in omega (arith, p, l.clusters_unit)

  -- how many L2 tables are stored before one, and how many clusters of the disk are before one
  abbrev pub tables_rank : ℕ → ℕ
  tables_rank i = rank l.tables.unit l.tables.end l.tables.stored l.tables.extents.items l.tables.ordered tables_positive i

  abbrev pub clusters_rank : ℕ → ℕ
  clusters_rank k = rank l.clusters.unit l.clusters.end l.clusters.stored l.clusters.extents.items l.clusters.ordered clusters_positive k

  -- the spots of an L2 table, and of a cluster of the disk
  abbrev pub table_spot : ℕ → Spot
  table_spot i = spot l.tables.stored l.tables.extents.items (i * l.cluster)

  abbrev pub cluster_spot : ℕ → Spot
  cluster_spot k = spot l.clusters.stored l.clusters.extents.items (k * l.cluster)

  table_before : (i : ℕ) → (table_spot i).before ≡ tables_rank i * l.cluster
  table_before i = subst (λ u. (spot l.tables.stored l.tables.extents.items (i * u)).before ≡ tables_rank i * u) l.tables_unit (before_is l.tables.unit l.tables.end l.tables.stored l.tables.extents.items l.tables.ordered tables_positive i)

  cluster_before : (k : ℕ) → (cluster_spot k).before ≡ clusters_rank k * l.cluster
  cluster_before k = subst (λ u. (spot l.clusters.stored l.clusters.extents.items (k * u)).before ≡ clusters_rank k * u) l.clusters_unit (before_is l.clusters.unit l.clusters.end l.clusters.stored l.clusters.extents.items l.clusters.ordered clusters_positive k)

  table_next : (i : ℕ) → tables_rank (i + 1) ≡ (if (table_spot i).stored then tables_rank i + 1 else tables_rank i)
  table_next i = subst (λ u. tables_rank (i + 1) ≡ (if (spot l.tables.stored l.tables.extents.items (i * u)).stored then tables_rank i + 1 else tables_rank i)) l.tables_unit (rank_next l.tables.unit l.tables.end l.tables.stored l.tables.extents.items l.tables.ordered tables_positive i)

  cluster_next : (k : ℕ) → clusters_rank (k + 1) ≡ (if (cluster_spot k).stored then clusters_rank k + 1 else clusters_rank k)
  cluster_next k = subst (λ u. clusters_rank (k + 1) ≡ (if (spot l.clusters.stored l.clusters.extents.items (k * u)).stored then clusters_rank k + 1 else clusters_rank k)) l.clusters_unit (rank_next l.clusters.unit l.clusters.end l.clusters.stored l.clusters.extents.items l.clusters.ordered clusters_positive k)

  module _ (i : ℕ) where
    -- where an L2 table begins that is stored
    abbrev pub table_at : ℕ
    table_at = l.tables_start + (table_spot i).before

    pub table_place : l.tables_start + (table_spot i).before ≡ (tables_at + tables_rank i) * l.cluster
    table_place = let t = tables_start_is in let b = table_before i in omega (arith, t, b)

    module _ (st : (table_spot i).stored ≡ true) where
      pub table_whole_at : (l.tables_start + (table_spot i).before) % l.cluster ≡ 0
      table_whole_at = ap (λ x. x % l.cluster) table_place ∙ times_whole l.cluster (tables_at + tables_rank i)

      pub table_inside : l.tables_start + (table_spot i).before + l.cluster ≤ l.data_start
      table_inside =
          let b = below_all l.tables.unit l.tables.end l.tables.stored l.tables.extents.items l.tables.ordered (i * l.cluster) st in
          let w = table_before i in
          let all : l.tables.stored ≡ l.tables.stored / l.cluster * l.cluster = as_product l.cluster l.tables.stored tables_stored_whole in
          let less : (tables_rank i + 1) * l.cluster ≤ l.tables.stored / l.cluster * l.cluster = step_up l.cluster (tables_rank i) (l.tables.stored / l.cluster) positive (omega (arith, b, w, all)) in
          let e : (tables_rank i + 1) * l.cluster ≡ tables_rank i * l.cluster + l.cluster = omega arith in
          omega (arith, less, e, w, all, l.data_at)

      pub table_offset : offset_of (l1_word l i) ≡ l.tables_start + (table_spot i).before
      table_offset =
          let e : l1_word l i ≡ 9223372036854775808 + (l.tables_start + (table_spot i).before) = rw st refl in
          let w = whole_sector l.cluster l.header.cluster_bits (l.tables_start + (table_spot i).before) l.power l.least table_whole_at in
          let t = table_inside in
          let p = positive in
          ap offset_of e ∙ offset_in (l.tables_start + (table_spot i).before) (omega (arith, t, p, l.end_at, l.small)) w

      pub table_some : nat_eq (l.tables_start + (table_spot i).before) 0 ≡ false
      table_some = let b = behind l values file is in grind (arith, nat_tests, b)

    l1_entry_used : (n : ℕ) → i < l.header.l1_count → l1_entry_use by (l1_word l i) n ≡ between (tables_at + tables_rank i) (tables_at + tables_rank (i + 1)) n
    l1_entry_used n lt = ⊎_elim
        (λ (st : (table_spot i).stored ≡ true).
        let t : ℕ = l.tables_start + (table_spot i).before in
        let o = table_offset st in
        let some = table_some st in
        let len : length_at l.cluster (l.tables_start + (table_spot i).before) ≡ l.cluster = rw some refl in
        let inside = table_inside st in
        let after : tables_rank (i + 1) ≡ tables_rank i + 1 = table_next i ∙ rw st refl in
        let up : tables_at + tables_rank i + 1 ≡ tables_at + tables_rank (i + 1) = omega (arith, after) in
        ap (λ x. use_of by x (length_at l.cluster x) n) o ∙ ap (λ x. use_of by (l.tables_start + (table_spot i).before) x n) len
        ∙ one (tables_at + tables_rank i) (l.tables_start + (table_spot i).before) n table_place (omega (arith, inside, l.end_at)) ∙ ap (λ x. between (tables_at + tables_rank i) x n) up)
        (λ (st : (table_spot i).stored ≡ false).
        let e : l1_word l i ≡ 0 = rw st refl in
        let after : tables_rank (i + 1) ≡ tables_rank i = table_next i ∙ rw st refl in
        ap (λ x. l1_entry_use by x n) e ∙ use_zero by 0 0 n refl ∙ sym (ap (λ x. between (tables_at + tables_rank i) (tables_at + x) n) after ∙ between_none (tables_at + tables_rank i) n))
        (either (table_spot i).stored)

  -- a cluster of the disk, where its table is stored, and where it isn't
  module _ (k : ℕ) where
    pub data_place : l.data_start + (cluster_spot k).before ≡ (data_at + clusters_rank k) * l.cluster
    data_place = let t = data_start_is in let b = cluster_before k in omega (arith, t, b)

    module _ (st : (cluster_spot k).stored ≡ true) where
      pub data_whole_at : (l.data_start + (cluster_spot k).before) % l.cluster ≡ 0
      data_whole_at = ap (λ x. x % l.cluster) data_place ∙ times_whole l.cluster (data_at + clusters_rank k)

      pub data_inside : l.data_start + (cluster_spot k).before + l.cluster ≤ l.end
      data_inside =
          let b = below_all l.clusters.unit l.clusters.end l.clusters.stored l.clusters.extents.items l.clusters.ordered (k * l.cluster) st in
          let w = cluster_before k in
          let all : l.clusters.stored ≡ l.clusters.stored / l.cluster * l.cluster = as_product l.cluster l.clusters.stored clusters_stored_whole in
          let less : (clusters_rank k + 1) * l.cluster ≤ l.clusters.stored / l.cluster * l.cluster = step_up l.cluster (clusters_rank k) (l.clusters.stored / l.cluster) positive (omega (arith, b, w, all)) in
          let e : (clusters_rank k + 1) * l.cluster ≡ clusters_rank k * l.cluster + l.cluster = omega arith in
          omega (arith, less, e, w, all, l.end_at)

      pub data_some : nat_eq (l.data_start + (cluster_spot k).before) 0 ≡ false
      data_some = let b = behind l values file is in grind (arith, nat_tests, b, l.data_at)

      pub data_says : cluster_in_entry (version_of file) l.cluster (table_word l k) ≡ GuestCluster.Stored (l.data_start + (cluster_spot k).before)
      data_says =
          let d : ℕ = l.data_start + (cluster_spot k).before in
          let e : table_word l k ≡ 9223372036854775808 + (l.data_start + (cluster_spot k).before) = rw st refl in
          let w = data_whole_at in
          let s = whole_sector l.cluster l.header.cluster_bits (l.data_start + (cluster_spot k).before) l.power l.least w in
          let t = data_inside in
          let p = positive in
          let b = behind l values file is in
          ap (cluster_in_entry (version_of file) l.cluster) e ∙ cluster_entry (version_of file) l.cluster (l.data_start + (cluster_spot k).before) (omega (arith, t, p, l.small)) w (omega (arith, s)) (omega (arith, b, l.data_at))

      pub data_offset : offset_of (table_word l k) ≡ l.data_start + (cluster_spot k).before
      data_offset =
          let e : table_word l k ≡ 9223372036854775808 + (l.data_start + (cluster_spot k).before) = rw st refl in
          let s = whole_sector l.cluster l.header.cluster_bits (l.data_start + (cluster_spot k).before) l.power l.least data_whole_at in
          let t = data_inside in
          let p = positive in
          ap offset_of e ∙ offset_in (l.data_start + (cluster_spot k).before) (omega (arith, t, p, l.small)) s

    entry_used : (n : ℕ) → l2_entry_use by (table_word l k) n ≡ between (data_at + clusters_rank k) (data_at + clusters_rank (k + 1)) n
    unfolding l2_entry_use
    entry_used n = ⊎_elim
        (λ (st : (cluster_spot k).stored ≡ true).
        let says = data_says st in
        let o = data_offset st in
        let some = data_some st in
        let len : length_at l.cluster (l.data_start + (cluster_spot k).before) ≡ l.cluster = rw some refl in
        let inside = data_inside st in
        let after : clusters_rank (k + 1) ≡ clusters_rank k + 1 = cluster_next k ∙ rw st refl in
        let up : data_at + clusters_rank k + 1 ≡ data_at + clusters_rank (k + 1) = omega (arith, after) in
        ap (λ x. cluster_use by (table_word l k) x n) says ∙ ap (λ x. use_of by x (length_at l.cluster x) n) o ∙ ap (λ x. use_of by (l.data_start + (cluster_spot k).before) x n) len
        ∙ one (data_at + clusters_rank k) (l.data_start + (cluster_spot k).before) n data_place inside ∙ ap (λ x. between (data_at + clusters_rank k) x n) up)
        (λ (st : (cluster_spot k).stored ≡ false).
        let e : table_word l k ≡ l.gap = rw st refl in
        let after : clusters_rank (k + 1) ≡ clusters_rank k = cluster_next k ∙ rw st refl in
        ap (λ x. l2_entry_use by x n) e ∙ gap_use n ∙ sym (ap (λ x. between (data_at + clusters_rank k) (data_at + x) n) after ∙ between_none (data_at + clusters_rank k) n))
        (either (cluster_spot k).stored)

    -- a cluster of the disk whose table isn't stored isn't either
    gone : table_word l k ≡ 0 → clusters_rank (k + 1) ≡ clusters_rank k
    gone none = ⊎_elim
        (λ (st : (cluster_spot k).stored ≡ true).
        let e : table_word l k ≡ 9223372036854775808 + (l.data_start + (cluster_spot k).before) = rw st refl in absurd (omega (arith, e, none)))
        (λ (st : (cluster_spot k).stored ≡ false). cluster_next k ∙ rw st refl)
        (either (cluster_spot k).stored)

  -- the L2 table of an L1 entry, and what it names
  abbrev per : ℕ
  per = l.cluster / 8

  per_positive : 0 < l.cluster / 8
  per_positive = let x = least l values file is in omega (arith, x)

  module _ (i n : ℕ) (lt : i < l.header.l1_count) where
    of_table : (j : ℕ) → j < l.cluster / 8 → (i * (l.cluster / 8) + j) / (l.cluster / 8) ≡ i
    of_table j less = quotient_is (l.cluster / 8) per_positive (i * (l.cluster / 8) + j) i (omega arith) (omega (arith, less))

    in_table : (j : ℕ) → j < l.cluster / 8 → (i * (l.cluster / 8) + j) % (l.cluster / 8) ≡ j
    in_table j less =
        let d = of_table j less in
        let e : (i * (l.cluster / 8) + j) / (l.cluster / 8) * (l.cluster / 8) + (i * (l.cluster / 8) + j) % (l.cluster / 8) ≡ i * (l.cluster / 8) + j = div-add-mod' (i * (l.cluster / 8) + j) (l.cluster / 8) in
        let f : (i * (l.cluster / 8) + j) / (l.cluster / 8) * (l.cluster / 8) ≡ i * (l.cluster / 8) = ap (λ x. x * (l.cluster / 8)) d in
        omega (arith, e, f)

    -- an entry of it
    pub entry_read : (table_spot i).stored ≡ true → (j : ℕ) → j < l.cluster / 8 → be64 file (l.tables_start + (table_spot i).before + 8 * j) ≡ table_word l (i * (l.cluster / 8) + j)
    entry_read st j less =
        let d = of_table j less in
        let r = in_table j less in
        let told = entry_there l values file is (i * (l.cluster / 8) + j) (subst (λ x. x < l.header.l1_count) (sym d) lt) (ap (λ x. (table_spot x).stored) d ∙ st) in
        sym (ap (λ x. be64 file (l.tables_start + (table_spot x).before + 8 * ((i * (l.cluster / 8) + j) % (l.cluster / 8)))) d ∙ ap (λ x. be64 file (l.tables_start + (table_spot i).before + 8 * x)) r) ∙ told

    no_entry : (table_spot i).stored ≡ false → (j : ℕ) → j < l.cluster / 8 → table_word l (i * (l.cluster / 8) + j) ≡ 0
    no_entry st j less =
        let d = of_table j less in
        entry_gone l values file is (i * (l.cluster / 8) + j) (subst (λ x. x < l.header.l1_count) (sym d) lt) (ap (λ x. (table_spot x).stored) d ∙ st)

    first_k : ℕ
    first_k = i * (l.cluster / 8)

    grow : (j : ℕ) → data_at + clusters_rank (i * (l.cluster / 8) + j) ≤ data_at + clusters_rank (i * (l.cluster / 8) + (j + 1))
    grow j =
        let e : i * (l.cluster / 8) + j + 1 ≡ i * (l.cluster / 8) + (j + 1) = omega arith in
        let g = rank_grows l.clusters.unit l.clusters.end l.clusters.stored l.clusters.extents.items l.clusters.ordered clusters_positive (i * (l.cluster / 8) + j) in
        let h : clusters_rank (i * (l.cluster / 8) + j + 1) ≡ clusters_rank (i * (l.cluster / 8) + (j + 1)) = ap clusters_rank e in
        omega (arith, g, h)

    row_end : i * (l.cluster / 8) + l.cluster / 8 ≡ (i + 1) * (l.cluster / 8)
    row_end = omega arith

    pub names : (table_spot i).stored ≡ true → names_table by (l1_word l i) ≡ true
    names st =
        let o = table_offset i st in
        let some = table_some i st in
        let inside = table_inside i st in
        let fits : nat_lt l.end (l.tables_start + (table_spot i).before + l.cluster) ≡ false = grind (arith, nat_tests, inside, l.end_at) in
        rw (o, some, fits) refl

    pub names_none : (table_spot i).stored ≡ false → l1_word l i ≡ 0
    names_none st = rw st refl

    named : named_use by file (l1_word l i) n ≡ between (data_at + clusters_rank (i * (l.cluster / 8))) (data_at + clusters_rank ((i + 1) * (l.cluster / 8))) n
    unfolding l2_uses
    named = ⊎_elim
        (λ (st : (table_spot i).stored ≡ true).
        let t = names st in
        let o = table_offset i st in
        let opened : named_use by file (l1_word l i) n ≡ l2_uses by file (offset_of (l1_word l i)) n = rw t refl in
        let sum = total_between (λ j. l2_entry_use by (be64 file (l.tables_start + (table_spot i).before + 8 * j)) n) (λ k. data_at + clusters_rank k) n (i * (l.cluster / 8)) (l.cluster / 8) (λ j less. grow j)
        (λ j less. ap (λ x. l2_entry_use by x n) (entry_read st j less) ∙ entry_used (i * (l.cluster / 8) + j) n ∙ (let e : i * (l.cluster / 8) + j + 1 ≡ i * (l.cluster / 8) + (j + 1) = omega arith in ap (λ x. between (data_at + clusters_rank (i * (l.cluster / 8) + j)) (data_at + clusters_rank x) n) e)) in
        opened ∙ ap (λ x. l2_uses by file x n) o ∙ sum.1 ∙ ap (λ x. between (data_at + clusters_rank (i * (l.cluster / 8))) (data_at + clusters_rank x) n) row_end)
        (λ (st : (table_spot i).stored ≡ false).
        let e = names_none st in
        let opened : named_use by file 0 n ≡ 0 = refl in
        let sum = total_between (λ j. 0) (λ k. data_at + clusters_rank k) n (i * (l.cluster / 8)) (l.cluster / 8) (λ j less. grow j)
        (λ j less. let f : i * (l.cluster / 8) + j + 1 ≡ i * (l.cluster / 8) + (j + 1) = omega arith in
        let same : clusters_rank (i * (l.cluster / 8) + (j + 1)) ≡ clusters_rank (i * (l.cluster / 8) + j) = ap clusters_rank (sym f) ∙ gone (i * (l.cluster / 8) + j) (no_entry st j less) in
        sym (ap (λ x. between (data_at + clusters_rank (i * (l.cluster / 8) + j)) (data_at + x) n) same ∙ between_none (data_at + clusters_rank (i * (l.cluster / 8) + j)) n)) in
        ap (λ x. named_use by file x n) e ∙ opened ∙ sym (total_zero (λ j. 0) (l.cluster / 8) (λ j less. refl)) ∙ sum.1
        ∙ ap (λ x. between (data_at + clusters_rank (i * (l.cluster / 8))) (data_at + clusters_rank x) n) row_end)
        (either (table_spot i).stored)

    row_grows : data_at + clusters_rank (i * (l.cluster / 8)) ≤ data_at + clusters_rank ((i + 1) * (l.cluster / 8))
    row_grows =
        let sum = total_between (λ j. between (data_at + clusters_rank (i * (l.cluster / 8) + j)) (data_at + clusters_rank (i * (l.cluster / 8) + (j + 1))) n) (λ k. data_at + clusters_rank k) n (i * (l.cluster / 8)) (l.cluster / 8) (λ j less. grow j) (λ j less. refl) in
        let e : clusters_rank (i * (l.cluster / 8) + l.cluster / 8) ≡ clusters_rank ((i + 1) * (l.cluster / 8)) = ap clusters_rank row_end in
        let g = sum.0 in
        omega (arith, g, e)

  -- all tables, and all that they name
  all_tables : (n : ℕ) → total (λ i. l1_entry_use by (l1_word l i) n) l.header.l1_count ≡ between tables_at data_at n
  all_tables n =
      let sum = total_ranges (λ i. l1_entry_use by (l1_word l i) n) (λ i. tables_at + tables_rank i) n l.header.l1_count
      (λ i lt. let g = rank_grows l.tables.unit l.tables.end l.tables.stored l.tables.extents.items l.tables.ordered tables_positive i in omega (arith, g))
      (λ i lt. l1_entry_used i n lt) in
      let none : tables_rank 0 ≡ 0 = rank_first l.tables.unit l.tables.end l.tables.stored l.tables.extents.items l.tables.ordered tables_positive in
      let begin : tables_at + tables_rank 0 ≡ tables_at = omega (arith, none) in
      let all : tables_rank l.header.l1_count * l.cluster ≡ l.tables.stored = subst (λ u. tables_rank l.header.l1_count * u ≡ l.tables.stored) l.tables_unit
      (rank_all l.tables.unit l.tables.end l.tables.stored l.tables.extents.items l.tables.ordered tables_positive l.header.l1_count (subst (λ u. l.tables.end ≤ l.header.l1_count * u) (sym l.tables_unit) l.tables_inside)) in
      let t = tables_start_is in
      let d = data_start_is in
      let p = positive in
      let last : (tables_at + tables_rank l.header.l1_count) * l.cluster ≡ data_at * l.cluster = omega (arith, all, t, d, l.data_at) in
      let top : tables_at + tables_rank l.header.l1_count ≡ data_at = product_is l.cluster p (tables_at + tables_rank l.header.l1_count) data_at (omega (arith, last), omega (arith, last, p)) in
      sum.1 ∙ ap (λ x. between x (tables_at + tables_rank l.header.l1_count) n) begin ∙ ap (λ x. between tables_at x n) top

  all_named : (n : ℕ) → total (λ i. named_use by file (l1_word l i) n) l.header.l1_count ≡ between data_at end_at n
  all_named n =
      let sum = total_ranges (λ i. named_use by file (l1_word l i) n) (λ i. data_at + clusters_rank (i * (l.cluster / 8))) n l.header.l1_count
      (λ i lt. row_grows i n lt) (λ i lt. named i n lt) in
      let zero_row : 0 * (l.cluster / 8) ≡ 0 = omega arith in
      let none : clusters_rank 0 ≡ 0 = rank_first l.clusters.unit l.clusters.end l.clusters.stored l.clusters.extents.items l.clusters.ordered clusters_positive in
      let first : clusters_rank (0 * (l.cluster / 8)) ≡ 0 = ap clusters_rank zero_row ∙ none in
      let begin : data_at + clusters_rank (0 * (l.cluster / 8)) ≡ data_at = omega (arith, first) in
      let all : clusters_rank (l.header.l1_count * (l.cluster / 8)) * l.cluster ≡ l.clusters.stored = subst (λ u. clusters_rank (l.header.l1_count * (l.cluster / 8)) * u ≡ l.clusters.stored) l.clusters_unit
      (rank_all l.clusters.unit l.clusters.end l.clusters.stored l.clusters.extents.items l.clusters.ordered clusters_positive (l.header.l1_count * (l.cluster / 8))
      (subst (λ u. l.clusters.end ≤ l.header.l1_count * (l.cluster / 8) * u) (sym l.clusters_unit) (omega (arith, clusters_most, l.clusters_inside)))) in
      let d = data_start_is in
      let e = end_is in
      let p = positive in
      let last : (data_at + clusters_rank (l.header.l1_count * (l.cluster / 8))) * l.cluster ≡ end_at * l.cluster = omega (arith, all, d, e, l.end_at) in
      let top : data_at + clusters_rank (l.header.l1_count * (l.cluster / 8)) ≡ end_at = product_is l.cluster p (data_at + clusters_rank (l.header.l1_count * (l.cluster / 8))) end_at (omega (arith, last), omega (arith, last, p)) in
      sum.1 ∙ ap (λ x. between x (data_at + clusters_rank (l.header.l1_count * (l.cluster / 8))) n) begin ∙ ap (λ x. between data_at x n) top

  l1_uses_are : (n : ℕ) → l1_uses by file l.header.l1_start l.header.l1_count n ≡ between l1_at end_at n
  unfolding l1_uses table_use
  l1_uses_are n =
      let st = start_is l values file is in
      let each : total (λ i. table_use by file (be64 file (l.header.l1_start + 8 * i)) n) l.header.l1_count ≡ total (λ i. l1_entry_use by (l1_word l i) n + named_use by file (l1_word l i) n) l.header.l1_count
      = total_same (λ i. table_use by file (be64 file (l.header.l1_start + 8 * i)) n) (λ i. l1_entry_use by (l1_word l i) n + named_use by file (l1_word l i) n) l.header.l1_count
      (λ i lt. ap (λ x. table_use by file x n) (ap (λ x. be64 file (x + 8 * i)) (sym st) ∙ l1_is l values file is i lt)) in
      let sums = total_sum (λ i. l1_entry_use by (l1_word l i) n) (λ i. named_use by file (l1_word l i) n) l.header.l1_count in
      let a = l1 n in
      let b = all_tables n in
      let d = all_named n in
      let x = between_both l1_at tables_at data_at n (at_most l.cluster l1_at tables_at positive (let u = l1_start_is in let v = tables_start_is in omega (arith, u, v, l.tables_behind))) (at_most l.cluster tables_at data_at positive (let u = tables_start_is in let v = data_start_is in omega (arith, u, v, l.data_at))) in
      let y = between_both l1_at data_at end_at n (at_most l.cluster l1_at data_at positive (let u = l1_start_is in let v = data_start_is in omega (arith, u, v, l.data_at, l.tables_behind))) (at_most l.cluster data_at end_at positive (let u = data_start_is in let v = end_is in omega (arith, u, v, l.end_at))) in
      omega (arith, each, sums, a, b, d, x, y)

  pub no_snapshots : snapshot_count file ≡ 0
  unfolding field_word
  no_snapshots =
      let e : head_word l 7 ≡ l.header.counts_clusters * 4294967296 = is_field l values file is 7 (omega arith) in
      let small : head_word l 7 < 2 ^ 64 = omega (arith, e, l.counts_few) in
      let h = word_halves file 56 (head_word l 7) (head_at l values file is 7 (let x = behind l values file is in omega (arith, x))) small in
      h.1 ∙ omega (arith, e)

  snapshots : (n : ℕ) → snapshots_uses by file (snapshots_start file) 0 n ≡ 0
  unfolding snapshots_uses total snapshots_end
  snapshots n =
      let none : snapshots_start file - snapshots_start file ≡ 0 = omega arith in
      let z : use_of by (snapshots_start file) (snapshots_start file - snapshots_start file) n ≡ 0 = use_zero by (snapshots_start file) (snapshots_start file - snapshots_start file) n none in
      let e : 0 + use_of by (snapshots_start file) (snapshots_start file - snapshots_start file) n ≡ 0 = omega (arith, z) in
      e

  blocks_part : (n : ℕ) → blocks_uses by file l.cluster (blocks_length file) n ≡ between 1 l1_at n
  unfolding blocks_uses
  blocks_part n =
      let k = count_entries l values file is in
      let len : blocks_length file ≡ l.header.counts_clusters * l.cluster = (let a = counts_length_is l values file is in let b = cluster_is l values file is in ap (λ x. x * cluster_length file) a ∙ ap (λ x. l.header.counts_clusters * x) b) in
      let a = ap (λ x. use_of by l.cluster x n) len ∙ table n in
      let b = ap (λ x. total (λ i. block_use by (be64 file (l.cluster + 8 * i)) n) x) k ∙ blocks n in
      let u = blocks_start_is in
      let v = l1_start_is in
      let p = positive in
      let one_is : 1 * l.cluster ≡ l.cluster = omega arith in
      let x = between_both 1 blocks_at l1_at n (at_most l.cluster 1 blocks_at positive (omega (arith, u, l.blocks_behind, one_is))) (at_most l.cluster blocks_at l1_at positive (omega (arith, u, v, l.l1_at))) in
      omega (arith, a, b, x)

  -- without an autoclear feature no bitmap is valid
  pub no_bitmaps : bitmaps_extension file ≡ 0
  unfolding bitmaps_extension
  no_bitmaps = let e = features_none l values file is in rw e refl

  bitmaps_part : (n : ℕ) → bitmaps_uses (setting file) file (bitmaps_extension file) n ≡ 0
  unfolding bitmaps_uses
  bitmaps_part n = let e = no_bitmaps in rw e refl

  -- each cluster of the file is used once
  pub used : (n : ℕ) → n < end_at → uses_of file n ≡ 1
  unfolding uses_of
  used n lt =
      let s = setting_is in
      let h = ap (λ x. header_use x n) s ∙ header n in
      let m = start_is l values file is in
      let k = (fourth_word l values file is).1 in
      let a = ap (λ x. l1_uses x file (l1_start file) (l1_count file) n) s ∙ ap (λ x. l1_uses by file x (l1_count file) n) m ∙ ap (λ x. l1_uses by file l.header.l1_start x n) k ∙ l1_uses_are n in
      let z = no_snapshots in
      let b = ap (λ x. snapshots_uses x file (snapshots_start file) (snapshot_count file) n) s ∙ ap (λ x. snapshots_uses by file (snapshots_start file) x n) z ∙ snapshots n in
      let q = counts_is l values file is in
      let d = ap (λ x. blocks_uses x file (blocks_start file) (blocks_length file) n) s ∙ ap (λ x. blocks_uses by file x (blocks_length file) n) q ∙ blocks_part n in
      let f = bitmaps_part n in
      let u = l1_start_is in
      let e = end_is in
      let p = positive in
      let one_is : 1 * l.cluster ≡ l.cluster = omega arith in
      let low : 1 ≤ l1_at = at_most l.cluster 1 l1_at positive (omega (arith, u, one_is, l.blocks_behind, l.l1_at)) in
      let high : l1_at ≤ end_at = at_most l.cluster l1_at end_at positive (omega (arith, u, e, l.tables_behind, l.data_at, l.end_at)) in
      let x = between_both 0 1 l1_at n (omega arith) low in
      let y = between_both 0 l1_at end_at n (omega arith) high in
      let w = between_in 0 end_at n (omega arith) lt in
      omega (arith, h, a, b, d, f, x, y, w)
