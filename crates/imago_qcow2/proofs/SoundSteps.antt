-- Guest clusters that can be read as their entries say.
-- SPDX-License-Identifier: MIT
use Rattle.std.proofs.Common.{◌≡◌, ℕ, ◌+◌, ◌*◌, ◌/◌, ◌<◌, ◌≤◌, Some, sym, ap, ◌∙◌, subst, arith}
use Rattle.std.specs.Prelude.{slice_get}
use Rattle.std.specs.Int.{div_ceil}
use Rattle.std.specs.declared.sync.ArcSlice.{ArcSlice}
use Rattle.std.specs.Arc.{arc_slice_items}
use Rattle.std.specs.declared.alloc.Global.{Global}
use Rattle.std.proofs.lemmas.Nat.{div-mul-add, mod-mul-add, div_below}
use Rattle.std.proofs.lemmas.Grind.{div_ceil_times}
use Rattle.std.proofs.Math.Nat.{mul-le-mul_right}
use Rattle.imago_qcow2.specs.declared.entry.GuestCluster.{GuestCluster}
use Rattle.imago_qcow2.specs.declared.table.HeldTable.{HeldTable}
use Rattle.imago_qcow2.specs.Numbers.{be64}
use Rattle.imago_qcow2.specs.Entry.{cluster_in_entry}
use Rattle.imago_qcow2.specs.Sound.{IsSound, IsSoundAt}
use Rattle.imago_qcow2.specs.Tables.{LoadedImage, entry_cluster, held_cluster, loaded_cluster}

-- a guest cluster can be read as what it is can
pub sound_by : (loaded : LoadedImage) (file k : ℕ) (is : GuestCluster) → loaded_cluster loaded k ≡ is → IsSound loaded.compression file is → IsSoundAt loaded file k
sound_by loaded file k is e h = subst (IsSound loaded.compression file) (sym e) h

pub sound_so : (loaded : LoadedImage) (file k : ℕ) (is : GuestCluster) → loaded_cluster loaded k ≡ is → IsSoundAt loaded file k → IsSound loaded.compression file is
sound_so loaded file k is e h = subst (IsSound loaded.compression file) e h

module _ (loaded : LoadedImage) (table e : ℕ) (below : e < loaded.cluster / 8) where
  abbrev guest : ℕ
  guest = table * (loaded.cluster / 8) + e

  -- a guest cluster of an L2 table, by what is held of its L1 entry
  pub by_table : (t : HeldTable) → slice_get loaded.l1 table ≡ Some t → loaded_cluster loaded guest ≡ held_cluster loaded guest (Some t)
  unfolding loaded_cluster
  by_table t there =
      ap (λ x. held_cluster loaded guest (slice_get loaded.l1 x)) (div-mul-add table (loaded.cluster / 8) e below)
      ∙ ap (held_cluster loaded guest) there

  -- and by its bytes, where it is loaded
  pub by_bytes : (number : ℕ) (bytes : ArcSlice ℕ Global) → slice_get loaded.l1 table ≡ Some (HeldTable.Loaded number) → slice_get loaded.l2 number ≡ Some bytes
      → loaded_cluster loaded guest ≡ cluster_in_entry loaded.version loaded.cluster (be64 (arc_slice_items bytes) (8 * e))
  by_bytes number bytes there is =
      by_table (HeldTable.Loaded number) there ∙ ap (entry_cluster loaded guest) is
      ∙ ap (λ x. cluster_in_entry loaded.version loaded.cluster (be64 (arc_slice_items bytes) (8 * x))) (mod-mul-add table (loaded.cluster / 8) e below)

-- the guest clusters of a disk: that of an offset is one, and each begins at an offset
pub offset_within : (size cluster o : ℕ) → 0 < cluster → o < size → o / cluster < div_ceil size cluster
offset_within size cluster o positive inside =
    let t = (div_ceil_times size cluster positive).0 in
    div_below o cluster (div_ceil size cluster) positive (omega (arith, inside, t))

pub begin_within : (size cluster k : ℕ) → 0 < cluster → k < div_ceil size cluster → k * cluster < size
begin_within size cluster k positive inside =
    let t = (div_ceil_times size cluster positive).1 in
    let some : k + 1 ≤ div_ceil size cluster = omega (arith, inside) in
    let u : (k + 1) * cluster ≤ div_ceil size cluster * cluster = mul-le-mul_right cluster some in
    omega (arith, t, u)

pub begin_is : (cluster k : ℕ) → 0 < cluster → k * cluster / cluster ≡ k
begin_is cluster k positive =
    let e : k * cluster + 0 ≡ k * cluster = omega arith in
    sym (ap (λ x. x / cluster) e) ∙ div-mul-add k cluster 0 positive
