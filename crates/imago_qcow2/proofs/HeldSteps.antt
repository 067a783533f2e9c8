-- What the tables in memory say of guest clusters.
-- SPDX-License-Identifier: MIT
use Rattle.std.proofs.Common.{◌≡◌, ℕ, ◌+◌, ◌-◌, ◌*◌, ◌/◌, ◌%◌, ◌<◌, ◌≤◌, ◌⊎◌, ⊎_elim, List, length, get_or, Option, Some, None, refl, sym, ap, ◌∙◌, arith}
use Rattle.std.specs.Prelude.{slice_get, IfSome}
use Rattle.std.specs.Int.{div_ceil}
use Rattle.std.specs.declared.sync.ArcSlice.{ArcSlice}
use Rattle.std.specs.Arc.{arc_slice_items}
use Rattle.std.specs.declared.alloc.Global.{Global}
use Rattle.std.proofs.Props.{props}
use Rattle.std.proofs.Math.Logic.{∥∥₁_elim}
use Rattle.std.proofs.Math.Bridge.{le_prop}
use Rattle.std.proofs.Math.Nat.{div-div-eq-div-mul, mul-pos, mod-lt, lt_of_mul-lt-mul_right}
use Rattle.std.proofs.lemmas.Grind.{div_ceil_times}
use Rattle.std.proofs.lemmas.Nat.{div_below}
use Rattle.std.proofs.lemmas.Option.{slice_get_read, slice_get_within}
use Rattle.imago_storage.specs.Features.{Features}
use Rattle.imago_qcow2.specs.declared.header.Header.{Header}
use Rattle.imago_qcow2.specs.declared.entry.L2Table.{L2Table}
use Rattle.imago_qcow2.specs.declared.entry.GuestCluster.{GuestCluster}
use Rattle.imago_qcow2.specs.declared.table.HeldTable.{HeldTable}
use Rattle.imago_qcow2.specs.declared.table.Tables.{Tables}
use Rattle.imago_qcow2.specs.Numbers.{be64}
use Rattle.imago_qcow2.specs.Entry.{cluster_in_entry}
use Rattle.imago_qcow2.specs.Tables.{LoadedImage, entry_cluster, held_cluster, loaded_cluster, header_cluster, says_entry, IsLoaded, IsHeld, IsLoadedImage}
use Rattle.imago_qcow2.proofs.MapSteps.{same_block}

-- as many L2 tables as a disk needs are no more than the entries that cover it
pub enough : (size count span : ℕ) → 0 < span → size ≤ count * span → div_ceil size span ≤ count
enough size count span positive covers =
    let t = (div_ceil_times size span positive).1 in
    let u : div_ceil size span * span < (count + 1) * span = omega (arith, t, covers) in
    let v : div_ceil size span < count + 1 = lt_of_mul-lt-mul_right span u in
    omega (arith, v)

-- and they cover the disk
pub covers_disk : (size len count span : ℕ) → 0 < span → count ≡ div_ceil size span → len ≡ count → size ≤ len * span
covers_disk size len count span positive is all = let t = (div_ceil_times size span positive).0 in rw (all, is) t

pub span_positive : (c : ℕ) → 512 ≤ c → 0 < c / 8 * c
span_positive c least = mul-pos (let x : 0 < c / 8 = omega (arith, least) in x) (omega (arith, least))

-- an offset of the disk has an L1 entry
pub entry_within : (size len span o : ℕ) → 0 < span → o < size → size ≤ len * span → o / span < len
entry_within size len span o positive inside covers = div_below o span len positive (omega (arith, inside, covers))

-- the L1 entry that stands at an index
pub held_there : (l1 : List HeldTable) (at i : ℕ) (t : HeldTable) → i ≡ at → i < length l1 → t ≡ get_or l1 i t → slice_get l1 at ≡ Some t
held_there l1 at i t is within reads = ap (slice_get l1) (sym is) ∙ slice_get_read l1 (length l1) i t refl within reads

module _ (loaded : LoadedImage) (least : 512 ≤ loaded.cluster) where
  abbrev span : ℕ
  span = loaded.cluster / 8 * loaded.cluster

  table_index : (o : ℕ) → o / loaded.cluster / (loaded.cluster / 8) ≡ o / span
  table_index o =
      let e : o / loaded.cluster / (loaded.cluster / 8) ≡ o / (loaded.cluster * (loaded.cluster / 8)) = div-div-eq-div-mul o loaded.cluster (loaded.cluster / 8) in
      let f : loaded.cluster * (loaded.cluster / 8) ≡ span = omega arith in
      e ∙ ap (λ x. o / x) f

  -- a guest cluster by what is held of its offset's L1 entry
  by_held : (o : ℕ) (t : HeldTable) → slice_get loaded.l1 (o / span) ≡ Some t → loaded_cluster loaded (o / loaded.cluster) ≡ held_cluster loaded (o / loaded.cluster) (Some t)
  unfolding loaded_cluster
  by_held o t there = ap (λ x. held_cluster loaded (o / loaded.cluster) (slice_get loaded.l1 x)) (table_index o) ∙ ap (held_cluster loaded (o / loaded.cluster)) there

  -- without a table all of its guest clusters are alike
  alike : (o i : ℕ) (t : HeldTable) (k : GuestCluster) → ((n : ℕ) → held_cluster loaded n (Some t) ≡ k) → i < span - o % span → slice_get loaded.l1 (o / span) ≡ Some t → loaded_cluster loaded ((o + i) / loaded.cluster) ≡ k
  alike o i t k all near there =
      by_held (o + i) t (ap (slice_get loaded.l1) (same_block span (span_positive loaded.cluster least) o i near) ∙ there) ∙ all ((o + i) / loaded.cluster)

  pub all_absent : (o i : ℕ) → i < span - o % span → slice_get loaded.l1 (o / span) ≡ Some HeldTable.Absent → loaded_cluster loaded ((o + i) / loaded.cluster) ≡ GuestCluster.Absent
  all_absent o i near there = alike o i HeldTable.Absent GuestCluster.Absent (λ n. refl) near there

  pub all_invalid : (o i : ℕ) → i < span - o % span → slice_get loaded.l1 (o / span) ≡ Some HeldTable.Invalid → loaded_cluster loaded ((o + i) / loaded.cluster) ≡ GuestCluster.Invalid
  all_invalid o i near there = alike o i HeldTable.Invalid GuestCluster.Invalid (λ n. refl) near there

  pub none_stored : (o at : ℕ) (t : HeldTable) → (t ≡ HeldTable.Absent) ⊎ (t ≡ HeldTable.Invalid) → slice_get loaded.l1 (o / span) ≡ Some t → loaded_cluster loaded (o / loaded.cluster) ≡ GuestCluster.Stored at → ⊥
  none_stored o at t none there is =
      let said = by_held o t there in
      ⊎_elim
      (λ (absent : t ≡ HeldTable.Absent).
      let e : held_cluster loaded (o / loaded.cluster) (Some t) ≡ GuestCluster.Absent = ap (λ x. held_cluster loaded (o / loaded.cluster) (Some x)) absent in
      let clash : GuestCluster.Stored at ≡ GuestCluster.Absent = sym is ∙ said ∙ e in
      let z : ⊥ = cc in z)
      (λ (invalid : t ≡ HeldTable.Invalid).
      let e : held_cluster loaded (o / loaded.cluster) (Some t) ≡ GuestCluster.Invalid = ap (λ x. held_cluster loaded (o / loaded.cluster) (Some x)) invalid in
      let clash : GuestCluster.Stored at ≡ GuestCluster.Invalid = sym is ∙ said ∙ e in
      let z : ⊥ = cc in z)
      none

  -- an index in an L2 table is one of an entry
  pub index_fits : (o : ℕ) → 8 * (o / loaded.cluster % (loaded.cluster / 8)) + 8 ≤ loaded.cluster
  index_fits o = let x : o / loaded.cluster % (loaded.cluster / 8) < loaded.cluster / 8 = mod-lt (o / loaded.cluster) (let y : 0 < loaded.cluster / 8 = omega (arith, least) in y) in omega (arith, x)

  entry_said : (o entry : ℕ) (x : Option (ArcSlice ℕ Global)) → (x ≡ None → ⊥) → IfSome x (λ t. entry ≡ be64 (arc_slice_items t) (8 * (o / loaded.cluster % (loaded.cluster / 8))))
      → entry_cluster loaded (o / loaded.cluster) x ≡ cluster_in_entry loaded.version loaded.cluster entry
  entry_said o entry None some h = absurd (some refl)
  entry_said o entry (Some t) some h = ap (cluster_in_entry loaded.version loaded.cluster) (sym h)

  -- with one, the guest cluster is what the entry says
  pub by_entry_here : (o number entry : ℕ) → slice_get loaded.l1 (o / span) ≡ Some (HeldTable.Loaded number) → (slice_get loaded.l2 number ≡ None → ⊥)
      → IfSome (slice_get loaded.l2 number) (λ t. entry ≡ be64 (arc_slice_items t) (8 * (o / loaded.cluster % (loaded.cluster / 8)))) → loaded_cluster loaded (o / loaded.cluster) ≡ cluster_in_entry loaded.version loaded.cluster entry
  by_entry_here o number entry there some is =
      by_held o (HeldTable.Loaded number) there ∙ entry_said o entry (slice_get loaded.l2 number) some is

  pub by_entry : (o i number entry : ℕ) → i < loaded.cluster - o % loaded.cluster → slice_get loaded.l1 (o / span) ≡ Some (HeldTable.Loaded number) → (slice_get loaded.l2 number ≡ None → ⊥)
      → IfSome (slice_get loaded.l2 number) (λ t. entry ≡ be64 (arc_slice_items t) (8 * (o / loaded.cluster % (loaded.cluster / 8)))) → loaded_cluster loaded ((o + i) / loaded.cluster) ≡ cluster_in_entry loaded.version loaded.cluster entry
  by_entry o i number entry near there some is =
      ap (loaded_cluster loaded) (same_block loaded.cluster (omega (arith, least)) o i near)
      ∙ by_entry_here o number entry there some is

-- an L2 table that an L1 entry is held by is in memory
module _ (f : Features) (bytes : List ℕ) (h : Header) (tables : Tables) (i number : ℕ) (e : slice_get tables.l1.items i ≡ Some (HeldTable.Loaded number)) where
  table_at : (x : IsLoadedImage f bytes h tables) → (at : ℕ) × (says_entry bytes (header_cluster h) x.1.entries i ≡ L2Table.Stored at) × IsLoaded f bytes (header_cluster h) tables.l2.items number at
  table_at x = let y : IfSome (slice_get tables.l1.items i) (IsHeld f bytes (header_cluster h) tables.l2.items (says_entry bytes (header_cluster h) x.1.entries i)) = x.1.held i in rw e at y

  pub loaded_there : ∥ IsLoadedImage f bytes h tables ∥₁ → number < length tables.l2.items
  loaded_there l = ∥∥₁_elim l le_prop (λ x. let y = table_at x in slice_get_within tables.l2.items number y.2.table y.2.there)

  pub table_there : ∥ IsLoadedImage f bytes h tables ∥₁ → slice_get tables.l2.items number ≡ None → ⊥
  table_there l none = let p : IsProp ⊥ = Prim.hlevel props in ∥∥₁_elim l p (λ x. let y = table_at x in let there = y.2.there in let z : ⊥ = cc in z)

  pub within_there : (index : ℕ) → 8 * index + 8 ≤ header_cluster h → ∥ IsLoadedImage f bytes h tables ∥₁ → IfSome (slice_get tables.l2.items number) (λ table. 8 * index + 8 ≤ length (arc_slice_items table))
  within_there index fits l =
      let p : IsProp (IfSome (slice_get tables.l2.items number) (λ table. 8 * index + 8 ≤ length (arc_slice_items table))) = Prim.hlevel props in
      ∥∥₁_elim l p (λ x. let y = table_at x in rw y.2.there (omega (arith, y.2.whole, fits)))
