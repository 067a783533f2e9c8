-- The guest clusters of files with the same tables, and what compressed ones have.
-- SPDX-License-Identifier: MIT
use Rattle.std.proofs.Common.{◌≡◌, ℕ, suc, ◌+◌, ◌-◌, ◌*◌, ◌/◌, ◌%◌, ◌^◌, ◌<◌, ◌≤◌, List, length, true, false, Option, Some, None, Box, Global, min, refl, sym, ap, subst, ◌∙◌, arith}
use Rattle.std.specs.Prelude.{slice_index, IfSome}
use Rattle.std.proofs.lemmas.Grind.{div_ceil_times}
use Rattle.std.proofs.lemmas.Nat.{div_below}
use Rattle.std.proofs.Math.Nat.{div-div-eq-div-mul, mul-pos, mod-lt}
use Rattle.imago_drivers.specs.Place.{Value, Lower, Special, shown}
use Rattle.imago_access.specs.declared.access.FormatAccess.{FormatAccess, out-FormatAccess, is-FormatAccess', back-FormatAccess-backing}
use Rattle.imago_access.specs.Chain.{driver, backing, unboxed}
use Rattle.imago_session.specs.declared.permitted.Permitted.{Permitted}
use Rattle.imago_qcow2.specs.declared.entry.L2Table.{L2Table}
use Rattle.imago_qcow2.specs.declared.entry.L2Table.TheVariants as T
use Rattle.imago_qcow2.specs.declared.entry.GuestCluster.{GuestCluster}
use Rattle.imago_qcow2.specs.declared.header.Compression.{Compression}
use Rattle.imago_qcow2.specs.Numbers.{be64}
use Rattle.imago_qcow2.specs.Compressed.{packed_value}
use Rattle.imago_qcow2.specs.Header.{compression_of}
use Rattle.imago_qcow2.specs.Entry.{version_of, disk_size, l1_start, cluster_length, per_table, table_in_entry, cluster_in_entry, l1_entry, table_of, cluster_by, cluster_of, place_by, qcow2_place}
use Rattle.imago_qcow2.specs.Opening.{table_count}
use Rattle.imago_qcow2.specs.Qcow2Laws.{place_in}
use Rattle.imago_qcow2.specs.Disk.{HaveSameTables}
use Rattle.imago_qcow2.proofs.NumberSteps.{range32, range64}
use Rattle.imago_qcow2.proofs.HeaderSteps.{compression_same}
use Rattle.imago_qcow2.proofs.MapSteps.{same_block, same_rest}
use Rattle.imago_session.specs.declared.compressed.Compressed.{Compressed}
use Rattle.imago_session.specs.Streams.{cluster_value}
use Rattle.imago_session.specs.Files.{File, Layer, IsLayerOf, AreLayersOf, AreBelow, described_by, described_value, described_below}

module _ (a b : List ℕ) (same : HaveSameTables a b) where
  same_version : version_of a ≡ version_of b
  same_version = range32 a b 0 112 same.header 4 (omega arith)

  same_size : disk_size a ≡ disk_size b
  same_size = range64 a b 0 112 same.header 24 (omega arith)

  same_start : l1_start a ≡ l1_start b
  same_start = range64 a b 0 112 same.header 40 (omega arith)

  same_length : cluster_length a ≡ cluster_length b
  same_length = ap (λ x. 2 ^ x) (range32 a b 0 112 same.header 20 (omega arith))

  same_table : (i : ℕ) → i < table_count a → table_of a i ≡ table_of b i
  same_table i h =
      let e : l1_entry a i ≡ be64 b (l1_start a + 8 * i) = range64 a b (l1_start a) (8 * table_count a) same.l1 (8 * i) (omega (arith, h)) in
      ap (λ x. table_in_entry x (cluster_length a) (l1_entry a i)) same.len
      ∙ ap (λ x. table_in_entry (length b) x (l1_entry a i)) same_length
      ∙ ap (table_in_entry (length b) (cluster_length b)) (e ∙ ap (λ x. be64 b (x + 8 * i)) same_start)

  same_by : (i k : ℕ) (t : L2Table) → i < table_count a → 8 ≤ cluster_length a → table_of a i ≡ t → cluster_by a k t ≡ cluster_by b k t
  same_by i k T.Absent h eight is = refl
  same_by i k (T.Stored at) h eight is =
      let j : k % per_table a < per_table a = mod-lt k (let y : 0 < per_table a = omega (arith, eight) in y) in
      let fits : 8 * (k % per_table a) + 8 ≤ cluster_length a = omega (arith, j) in
      ap (cluster_in_entry (version_of a) (cluster_length a)) (range64 a b at (cluster_length a) (same.l2 i at h is) (8 * (k % per_table a)) fits)
      ∙ ap (λ x. cluster_in_entry x (cluster_length a) (be64 b (at + 8 * (k % per_table a)))) same_version
      ∙ ap (λ x. cluster_in_entry (version_of b) x (be64 b (at + 8 * (k % (x / 8))))) same_length
  same_by i k T.Invalid h eight is = refl

  same_cluster : (k : ℕ) → k / per_table a < table_count a → 8 ≤ cluster_length a → cluster_of a k ≡ cluster_of b k
  unfolding cluster_of
  same_cluster k h eight =
      same_by (k / per_table a) k (table_of a (k / per_table a)) h eight refl
      ∙ ap (cluster_by b k) (same_table (k / per_table a) h)
      ∙ ap (λ x. cluster_by b k (table_of b (k / (x / 8)))) same_length

  -- the guest cluster of an offset of the disk
  pub same_at : (p : ℕ) → 8 ≤ cluster_length a → p < disk_size a → cluster_of a (p / cluster_length a) ≡ cluster_of b (p / cluster_length b)
  same_at p eight h =
      let c = cluster_length a in
      let span : 0 < per_table a * c = mul-pos (let x : 0 < per_table a = omega (arith, eight) in x) (omega (arith, eight)) in
      let covers : disk_size a ≤ table_count a * (per_table a * c) = (div_ceil_times (disk_size a) (per_table a * c) span).0 in
      let below : p / (per_table a * c) < table_count a = div_below p (per_table a * c) (table_count a) span (omega (arith, h, covers)) in
      let e : p / c / per_table a ≡ p / (c * per_table a) = div-div-eq-div-mul p c (per_table a) in
      let f : c * per_table a ≡ per_table a * c = omega arith in
      let inside : p / c / per_table a < table_count a = rw (e, f) below in
      same_cluster (p / c) inside eight ∙ ap (λ x. cluster_of b (p / x)) same_length

  same_head : (i : ℕ) → i < 112 → slice_index b i ≡ slice_index a i
  same_head i h = let e : 0 + i ≡ i = omega arith in let x = same.header i h in sym (rw e at x)

  -- a place of the disk, by what its guest cluster is in the other file
  pub part_place : (c : ℕ) (by : Compression) (k : GuestCluster) (p i : ℕ) → c ≡ cluster_length b → by ≡ compression_of b → cluster_of b (p / cluster_length b) ≡ k
      → 512 ≤ c → p < disk_size b → i < min (c - p % c) (disk_size b - p)
      → qcow2_place a (p + i) ≡ place_by (packed_value true by a c) a (p % c + i) (p + i) k
  part_place c by k p i is_length is_by is wide under near =
      let d : cluster_length a ≡ c = same_length ∙ sym is_length in
      let eight : 8 ≤ cluster_length a = omega (arith, d, wide) in
      let positive : 0 < c = omega (arith, wide) in
      let here : i < c - p % c = omega (arith, near) in
      let inside : p + i < disk_size a = omega (arith, near, same_size) in
      let first : p < disk_size a = omega (arith, inside) in
      let kind : compression_of a ≡ by = sym (compression_same a b same_head) ∙ sym is_by in
      let cluster : cluster_of a ((p + i) / c) ≡ k =
      ap (cluster_of a) (same_block c positive p i here)
      ∙ ap (λ x. cluster_of a (p / x)) (sym d)
      ∙ same_at p eight first
      ∙ is in
      place_in a (p + i) inside
      ∙ ap (λ x. place_by (packed_value true (compression_of a) a x) a ((p + i) % x) (p + i) (cluster_of a ((p + i) / x))) d
      ∙ ap (λ m. place_by (packed_value true m a c) a ((p + i) % c) (p + i) (cluster_of a ((p + i) / c))) kind
      ∙ ap (λ r. place_by (packed_value true by a c) a r (p + i) (cluster_of a ((p + i) / c))) (same_rest c positive p i here)
      ∙ ap (place_by (packed_value true by a c) a (p % c + i) (p + i)) cluster

-- a layer, and those below it
module _ (permitted : Permitted) where
  -- an image by its driver and what is below
  parts_of : (files : ℕ → File) (x : FormatAccess Layer) → AreLayersOf permitted files x
      → IsLayerOf permitted (driver x) (files 0)
      × AreBelow permitted (λ (k : ℕ). files (suc k)) (driver x) (files 0).bytes (back-FormatAccess-backing Layer (out-FormatAccess Layer x).backing)
  parts_of files x h = subst (λ (y : FormatAccess Layer). AreLayersOf permitted files y) (is-FormatAccess' x) h

  pub own_layer : (files : ℕ → File) (x : FormatAccess Layer) → AreLayersOf permitted files x → IsLayerOf permitted (driver x) (files 0)
  own_layer files x h = (parts_of files x h).0

  below_of : (files : ℕ → File) (d : Layer) (bytes : List ℕ) (y : FormatAccess Layer) (b : Option (Box (FormatAccess Layer) Global)) → unboxed b ≡ Some y
      → AreBelow permitted files d bytes (back-FormatAccess-backing Layer b) → AreLayersOf permitted files y
  below_of files d bytes y None e h = let q : ⊥ = cc e in absurd q
  below_of files d bytes y (Some z) e h = let q : z.value ≡ y = cc e in subst (λ (v : FormatAccess Layer). AreLayersOf permitted files v) q h.1

  pub next_layers : (files : ℕ → File) (x y : FormatAccess Layer) → backing x ≡ Some y → AreLayersOf permitted files x → AreLayersOf permitted (λ (k : ℕ). files (suc k)) y
  next_layers files x y on h =
      below_of (λ (k : ℕ). files (suc k)) (driver x) (files 0).bytes y (out-FormatAccess Layer x).backing on (parts_of files x h).1

value_below : (files : ℕ → File) (y : FormatAccess Layer) (b : Option (Box (FormatAccess Layer) Global)) → unboxed b ≡ Some y
    → (p : ℕ) → described_below files (back-FormatAccess-backing Layer b) p ≡ described_value files y p
value_below files y None e p = let q : ⊥ = cc e in absurd q
value_below files y (Some z) e p = let q : z.value ≡ y = cc e in ap (λ (v : FormatAccess Layer). described_value files v p) q

-- what a layer shows, by its own place
own_value : (files : ℕ → File) (x : FormatAccess Layer) (p : ℕ) → described_value files x p
    ≡ shown (described_below (λ (k : ℕ). files (suc k)) (back-FormatAccess-backing Layer (out-FormatAccess Layer x).backing)) (described_by (driver x) (λ (k : ℕ). (files k).bytes) p)
own_value files x p = ap (λ (y : FormatAccess Layer). described_value files y p) (is-FormatAccess' x)

-- where it leads to the layer below, it shows what that one does
pub leads_on : (files : ℕ → File) (x y : FormatAccess Layer) (p : ℕ) → backing x ≡ Some y → described_by (driver x) (λ (k : ℕ). (files k).bytes) p ≡ Lower p false
    → described_value files x p ≡ described_value (λ (k : ℕ). files (suc k)) y p
leads_on files x y p on is =
    own_value files x p
    ∙ ap (shown (described_below (λ (k : ℕ). files (suc k)) (back-FormatAccess-backing Layer (out-FormatAccess Layer x).backing))) is
    ∙ value_below (λ (k : ℕ). files (suc k)) y (out-FormatAccess Layer x).backing on p

-- where it makes bytes up, it shows these
pub makes_up : (files : ℕ → File) (x : FormatAccess Layer) (p o : ℕ) (v : Value) → described_by (driver x) (λ (k : ℕ). (files k).bytes) p ≡ Special v o
    → described_value files x p ≡ v
makes_up files x p o v is =
    own_value files x p
    ∙ ap (shown (described_below (λ (k : ℕ). files (suc k)) (back-FormatAccess-backing Layer (out-FormatAccess Layer x).backing))) is

-- files from one on, and from the next
pub shifted : (files : ℕ → File) (n k : ℕ) → files (n + 1 + k) ≡ files (n + suc k)
shifted files n k = let e : n + 1 + k ≡ n + suc k = omega arith in ap files e

pub some_more : {A : Type 0} (o : Option A) (P Q : A → Type 0) → IfSome o P → ((x : A) → P x → Q x) → IfSome o Q
some_more None P Q h f = tt
some_more (Some x) P Q h f = f x h

pub some_all : {A : Type 0} (o : Option A) (P Q R S : A → Type 0) → IfSome o P → IfSome o Q → IfSome o R → ((x : A) → P x → Q x → R x → S x) → IfSome o S
some_all None P Q R S h k l f = tt
some_all (Some x) P Q R S h k l f = f x h k l

-- a part of a compressed cluster shows what its stream puts out
pub shows_stream : (permitted : Permitted) (files : ℕ → File) (x : FormatAccess Layer) (c : Compressed) (by : Compression) (k : GuestCluster) (at file : ℕ) (length skip left : ℕ)
    → (c.at ≡ at) × (c.count ≡ left) × (c.file ≡ file) × (c.cluster ≡ length) × (c.skip ≡ skip)
    → k ≡ GuestCluster.Compressed c.offset c.length → by ≡ Compression.Deflate
    → ((i : ℕ) → i < left → described_by (driver x) (λ (n : ℕ). (files (file + n)).bytes) (at + i) ≡ place_by (packed_value true by (files (file + 0)).bytes length) (files (file + 0)).bytes (skip + i) (at + i) k)
    → (i : ℕ) → i < c.count → described_value (λ (n : ℕ). files (file + n)) x (c.at + i) ≡ cluster_value files c (c.skip + i)
shows_stream permitted files x c by k at file length skip left is stream deflate place i near =
    let e : file + 0 ≡ c.file = omega (arith, is.2) in
    let low : i < left = omega (arith, near, is.1) in
    ap (λ (a : ℕ). described_value (λ (n : ℕ). files (file + n)) x (a + i)) is.0
    ∙ makes_up (λ (n : ℕ). files (file + n)) x (at + i) (at + i) (packed_value true Compression.Deflate (files (file + 0)).bytes length c.offset c.length (skip + i))
    (place i low
    ∙ ap (place_by (packed_value true by (files (file + 0)).bytes length) (files (file + 0)).bytes (skip + i) (at + i)) stream
    ∙ ap (λ (m : Compression). Special (packed_value true m (files (file + 0)).bytes length c.offset c.length (skip + i)) (at + i)) deflate)
    ∙ ap (λ (n : ℕ). packed_value true Compression.Deflate (files n).bytes length c.offset c.length (skip + i)) e
    ∙ ap (λ (n : ℕ). packed_value true Compression.Deflate (files c.file).bytes n c.offset c.length (skip + i)) (sym is.3)
    ∙ ap (λ (n : ℕ). packed_value true Compression.Deflate (files c.file).bytes c.cluster c.offset c.length (n + i)) (sym is.4)
