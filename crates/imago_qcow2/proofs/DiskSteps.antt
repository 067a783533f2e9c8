-- Two files with the same header and tables.
-- SPDX-License-Identifier: MIT
use Rattle.std.proofs.Common.{◌≡◌, ℕ, ◌+◌, ◌*◌, ◌/◌, ◌%◌, ◌^◌, ◌<◌, ◌≤◌, ⊎_elim, true, List, length, refl, sym, ap, ◌∙◌, arith}
use Rattle.std.specs.Prelude.{slice_index}
use Rattle.std.proofs.lemmas.Bool.{cases_lt}
use Rattle.std.proofs.lemmas.Grind.{div_ceil_times}
use Rattle.std.proofs.lemmas.Nat.{div_below}
use Rattle.std.proofs.Math.Nat.{div-div-eq-div-mul, mul-pos, mod-lt}
use Rattle.imago_qcow2.specs.declared.entry.L2Table.{L2Table}
use Rattle.imago_qcow2.specs.declared.entry.L2Table.TheVariants as T
use Rattle.imago_qcow2.specs.declared.entry.GuestCluster.{GuestCluster}
use Rattle.imago_qcow2.specs.declared.entry.GuestCluster.TheVariants as C
use Rattle.imago_qcow2.specs.Numbers.{be64}
use Rattle.imago_qcow2.specs.Entry.{version_of, disk_size, l1_start, cluster_length, per_table, table_in_entry, cluster_in_entry, l1_entry, table_of, cluster_by, cluster_of, place_by, disk_of, qcow2_place}
use Rattle.imago_drivers.specs.Place.{Value, Special}
use Rattle.imago_qcow2.specs.Header.{header_of, compression_of}
use Rattle.imago_qcow2.specs.Compressed.{packed_value}
use Rattle.imago_qcow2.specs.Opening.{table_count}
use Rattle.imago_qcow2.specs.Qcow2Laws.{packed_of, place_at, place_in, place_out}
use Rattle.imago_qcow2.specs.Disk.{AreSameBytes, HaveSameTables, StandsAlike}
use Rattle.imago_qcow2.proofs.NumberSteps.{range32, range64}
use Rattle.imago_qcow2.proofs.HeaderSteps.{header_same, compression_same}
use Rattle.imago_qcow2.proofs.StreamSteps.{same_bytes, packed_same}

module _ (a b : List ℕ) (same : HaveSameTables a b) where
  same_version : version_of a ≡ version_of b
  same_version = range32 a b 0 112 same.header 4 (omega arith)

  same_size : disk_size a ≡ disk_size b
  same_size = range64 a b 0 112 same.header 24 (omega arith)

  same_start : l1_start a ≡ l1_start b
  same_start = range64 a b 0 112 same.header 40 (omega arith)

  same_cluster : cluster_length a ≡ cluster_length b
  same_cluster = ap (λ x. 2 ^ x) (range32 a b 0 112 same.header 20 (omega arith))

  same_table : (i : ℕ) → i < table_count a → table_of a i ≡ table_of b i
  same_table i h =
      let e : l1_entry a i ≡ be64 b (l1_start a + 8 * i) = range64 a b (l1_start a) (8 * table_count a) same.l1 (8 * i) (omega (arith, h)) in
      let f : l1_entry a i ≡ l1_entry b i = e ∙ ap (λ x. be64 b (x + 8 * i)) same_start in
      ap (λ x. table_in_entry x (cluster_length a) (l1_entry a i)) same.len ∙ ap (λ x. table_in_entry (length b) x (l1_entry a i)) same_cluster ∙ ap (table_in_entry (length b) (cluster_length b)) f

  same_by : (i k : ℕ) (t : L2Table) → i < table_count a → 8 ≤ cluster_length a → table_of a i ≡ t → cluster_by a k t ≡ cluster_by b k t
  same_by i k T.Absent h eight is = refl
  same_by i k (T.Stored at) h eight is =
      let j : k % per_table a < per_table a = mod-lt k (let y : 0 < per_table a = omega (arith, eight) in y) in
      let fits : 8 * (k % per_table a) + 8 ≤ cluster_length a = omega (arith, j) in
      let e : be64 a (at + 8 * (k % per_table a)) ≡ be64 b (at + 8 * (k % per_table a)) = range64 a b at (cluster_length a) (same.l2 i at h is) (8 * (k % per_table a)) fits in
      ap (cluster_in_entry (version_of a) (cluster_length a)) e
      ∙ ap (λ x. cluster_in_entry x (cluster_length a) (be64 b (at + 8 * (k % per_table a)))) same_version
      ∙ ap (λ x. cluster_in_entry (version_of b) x (be64 b (at + 8 * (k % (x / 8))))) same_cluster
  same_by i k T.Invalid h eight is = refl

  same_cluster_of : (k : ℕ) → k / per_table a < table_count a → 8 ≤ cluster_length a → cluster_of a k ≡ cluster_of b k
  unfolding cluster_of
  same_cluster_of k h eight =
      same_by (k / per_table a) k (table_of a (k / per_table a)) h eight refl
      ∙ ap (cluster_by b k) (same_table (k / per_table a) h)
      ∙ ap (λ x. cluster_by b k (table_of b (k / (x / 8)))) same_cluster

  same_head : (i : ℕ) → i < 112 → slice_index b i ≡ slice_index a i
  same_head i h = let e : 0 + i ≡ i = omega arith in let x = same.header i h in sym (rw e at x)

  pub same_header : header_of b (length b) ≡ header_of a (length a)
  same_header = header_same a b same_head (length b) ∙ ap (header_of a) (sym same.len)

  alike_by : (f g : ℕ → ℕ → ℕ → Value) (rest p : ℕ) (k : GuestCluster) → StandsAlike (place_by f a rest p k) (place_by g b rest p k)
  alike_by f g rest p C.Absent = refl
  alike_by f g rest p C.Zero = refl
  alike_by f g rest p (C.Stored at) = (slice_index b (at + rest), refl)
  alike_by f g rest p (C.Compressed at n) = (g at n rest, refl)
  alike_by f g rest p C.Invalid = refl

  same_compression : compression_of a ≡ compression_of b
  same_compression = sym (compression_same a b same_head)

  -- where the bytes of a stream are the same, so is what it puts out
  same_stream : (at n i : ℕ) → AreSameBytes a b at n → packed_of true a (disk_of a) at n i ≡ packed_of true b (disk_of b) at n i
  same_stream at n i h =
      ap (λ k. packed_value true k a (cluster_length a) at n i) same_compression
      ∙ ap (λ c. packed_value true (compression_of b) a c at n i) same_cluster
      ∙ packed_same (compression_of b) a b (cluster_length b) at n i (same_bytes a b at n h)

  -- the guest cluster of an offset, by the tables of either
  both_by : (p : ℕ) → 8 ≤ cluster_length a → p < disk_size a
      → place_by (packed_of true b (disk_of b)) b (p % cluster_length a) p (cluster_of a (p / cluster_length a)) ≡ place_at b p
  both_by p eight h =
      let c = cluster_length a in
      let span : 0 < per_table a * c = mul-pos (let x : 0 < per_table a = omega (arith, eight) in x) (omega (arith, eight)) in
      let covers : disk_size a ≤ table_count a * (per_table a * c) = (div_ceil_times (disk_size a) (per_table a * c) span).0 in
      let below : p / (per_table a * c) < table_count a = div_below p (per_table a * c) (table_count a) span (omega (arith, h, covers)) in
      let e : p / c / per_table a ≡ p / (c * per_table a) = div-div-eq-div-mul p c (per_table a) in
      let f : c * per_table a ≡ per_table a * c = omega arith in
      let inside : p / c / per_table a < table_count a = rw (e, f) below in
      let g = packed_of true b (disk_of b) in
      ap (place_by g b (p % c) p) (same_cluster_of (p / c) inside eight) ∙ ap (λ x. place_by g b (p % x) p (cluster_of b (p / x))) same_cluster

  alike_in : (p : ℕ) → 8 ≤ cluster_length a → p < disk_size a → StandsAlike (qcow2_place a p) (qcow2_place b p)
  alike_in p eight h =
      let c = cluster_length a in
      let f = packed_of true a (disk_of a) in
      let g = packed_of true b (disk_of b) in
      let here : qcow2_place a p ≡ place_by f a (p % c) p (cluster_of a (p / c)) = place_in a p h in
      let there : qcow2_place b p ≡ place_by g b (p % cluster_length b) p (cluster_of b (p / cluster_length b)) = place_in b p (omega (arith, h, same_size)) in
      rw (here, there, ← both_by p eight h) (alike_by f g (p % c) p (cluster_of a (p / c)))

  -- a compressed cluster is the same, where its stream's bytes are
  packed_alike : (p at n : ℕ) → 8 ≤ cluster_length a → p < disk_size a → cluster_of a (p / cluster_length a) ≡ GuestCluster.Compressed at n → AreSameBytes a b at n → qcow2_place a p ≡ qcow2_place b p
  packed_alike p at n eight h is same_bytes_there =
      let c = cluster_length a in
      let f = packed_of true a (disk_of a) in
      let g = packed_of true b (disk_of b) in
      place_in a p h ∙ ap (place_by f a (p % c) p) is
      ∙ ap (λ v. Special v p) (same_stream at n (p % c) same_bytes_there)
      ∙ ap (place_by g b (p % c) p) (sym is)
      ∙ both_by p eight h ∙ sym (place_in b p (omega (arith, h, same_size)))

  alike_out : (p : ℕ) → disk_size a ≤ p → StandsAlike (qcow2_place a p) (qcow2_place b p)
  alike_out p h = rw (place_out a p h) (place_out b p (omega (arith, h, same_size)))

  -- a compressed place past the disk's end is an end in both
  pub streams_alike : 8 ≤ cluster_length a → (p at n : ℕ) → cluster_of a (p / cluster_length a) ≡ GuestCluster.Compressed at n → AreSameBytes a b at n → qcow2_place a p ≡ qcow2_place b p
  streams_alike eight p at n is h = ⊎_elim
      (λ under. packed_alike p at n eight under is h)
      (λ over. place_out a p over ∙ sym (place_out b p (omega (arith, over, same_size))))
      (cases_lt p (disk_size a))

  pub stand_alike : 8 ≤ cluster_length a → (p : ℕ) → StandsAlike (qcow2_place a p) (qcow2_place b p)
  stand_alike eight p = ⊎_elim (λ under. alike_in p eight under) (λ over. alike_out p over) (cases_lt p (disk_size a))
