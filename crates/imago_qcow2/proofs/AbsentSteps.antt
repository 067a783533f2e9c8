-- Runs of absent guest clusters.
-- SPDX-License-Identifier: MIT
use Rattle.std.proofs.Common.{zero, suc, ◌≡◌, ℕ, ◌+◌, ◌-◌, ◌*◌, ◌/◌, ◌%◌, ◌^◌, ◌<◌, ◌≤◌, ⊎_elim, List, [], ◌∷◌, ◌++◌, length, get_or, Option, Some, None, refl, sym, ap, ◌∙◌, arith}
use Rattle.std.specs.Prelude.{slice_get, IfSome, IfErr, Result, Ok, Err}
use Rattle.std.specs.declared.sync.ArcSlice.{ArcSlice}
use Rattle.std.specs.Arc.{arc_slice_items}
use Rattle.std.specs.declared.alloc.Global.{Global}
use Rattle.std.proofs.lemmas.Nat.{div-add-mod', div-mul-add, mod-mul-add, div_below}
use Rattle.std.proofs.Math.Nat.{div-div-eq-div-mul, mod-lt, zero-mod}
use Rattle.std.proofs.lemmas.Option.{slice_get_read}
use Rattle.std.proofs.lemmas.Bool.{cases_lt}
use Rattle.imago_qcow2.specs.declared.entry.GuestCluster.{GuestCluster}
use Rattle.imago_qcow2.specs.declared.table.HeldTable.{HeldTable}
use Rattle.imago_qcow2.specs.Numbers.{be64}
use Rattle.imago_qcow2.specs.Entry.{low, high, cluster_in_entry}
use Rattle.imago_qcow2.specs.Tables.{LoadedImage, entry_cluster, held_cluster, loaded_cluster}
use Rattle.imago_qcow2.specs.Absent.{IsAbsentEntry, AreAbsent}

-- what holds of each value of a list by its index, where one more value is put behind it
pub each_more : {X : Type 0} (P : ℕ → X → Type 0) (xs : List X) (y : X) → ((i : ℕ) → IfSome (slice_get xs i) (P i)) → P (length xs) y → (i : ℕ) → IfSome (slice_get (xs ++ y ∷ []) i) (P i)
each_more P [] y all here zero = here
each_more P [] y all here (suc i) = tt
each_more P (x ∷ xs) y all here zero = all zero
each_more P (x ∷ xs) y all here (suc i) = each_more (λ n. P (suc n)) xs y (λ n. all (suc n)) here i

-- an entry without bits, but for the highest, is one of an absent guest cluster
absent_entry : (version cluster entry : ℕ) → entry % 2 ^ 63 ≡ 0 → cluster_in_entry version cluster entry ≡ GuestCluster.Absent
unfolding cluster_in_entry
absent_entry version cluster entry h =
    let l : low entry ≡ 0 = omega (arith, h) in
    let a : high entry / 64 % 2 ≡ 0 = omega (arith, h) in
    let b : high entry % 64 ≡ 0 = omega (arith, h) in
    rw (a, b, l, zero-mod cluster) refl

pub absent_said : (loaded : LoadedImage) (k : ℕ) (x : Option (ArcSlice ℕ Global)) → IsAbsentEntry x (k % (loaded.cluster / 8)) → entry_cluster loaded k x ≡ GuestCluster.Absent
absent_said loaded k None h = absurd h
absent_said loaded k (Some t) h = absent_entry loaded.version loaded.cluster (be64 (arc_slice_items t) (8 * (k % (loaded.cluster / 8)))) h

-- two runs, of which the second begins where the first ends
pub joined : (loaded : LoadedImage) (k m n : ℕ) → AreAbsent loaded k m → AreAbsent loaded (k + m) n → AreAbsent loaded k (m + n)
joined loaded k m n one other j h = ⊎_elim
    (λ below. one j below)
    (λ above.
    let e : k + m + (j - m) ≡ k + j = omega (arith, above) in
    let x : loaded_cluster loaded (k + m + (j - m)) ≡ GuestCluster.Absent = other (j - m) (omega (arith, above, h)) in
    rw e at x)
    (cases_lt j m)

module _ (loaded : LoadedImage) (entries : ℕ) (is : loaded.cluster / 8 ≡ entries) (some : 0 < entries) where
  -- a guest cluster by what is held of its L1 entry
  by_slot : (k i : ℕ) → k / entries ≡ i → held_cluster loaded k (slice_get loaded.l1 i) ≡ GuestCluster.Absent → loaded_cluster loaded k ≡ GuestCluster.Absent
  unfolding loaded_cluster
  by_slot k i at absent = ap (λ x. held_cluster loaded k (slice_get loaded.l1 (k / x))) is ∙ ap (λ x. held_cluster loaded k (slice_get loaded.l1 x)) at ∙ absent

  -- entries of one L2 table
  pub in_table : (table index n : ℕ) → index + n ≤ entries → ((k : ℕ) → index ≤ k % entries → k % entries < index + n → held_cluster loaded k (slice_get loaded.l1 table) ≡ GuestCluster.Absent) → AreAbsent loaded (table * entries + index) n
  in_table table index n fits all j h =
      let k = table * entries + index + j in
      let e : k ≡ table * entries + (index + j) = omega arith in
      let inside : index + j < entries = omega (arith, h, fits) in
      let at : k / entries ≡ table = ap (λ x. x / entries) e ∙ div-mul-add table entries (index + j) inside in
      let rest : k % entries ≡ index + j = ap (λ x. x % entries) e ∙ mod-mul-add table entries (index + j) inside in
      by_slot k table at (all k (omega (arith, rest)) (omega (arith, rest, h)))

  -- L2 tables that are wholly absent, behind another one
  pub past_table : (table n : ℕ) → ((j k : ℕ) → j < n → held_cluster loaded k (slice_get loaded.l1 (table + 1 + j)) ≡ GuestCluster.Absent) → AreAbsent loaded (table * entries + entries) (n * entries)
  past_table table n all j h =
      let k = table * entries + entries + j in
      let below : j / entries < n = div_below j entries n some h in
      let rest : j % entries < entries = omega (arith, mod-lt j some) in
      let e : k ≡ (table + 1 + j / entries) * entries + j % entries = omega (arith, div-add-mod' j entries) in
      let at : k / entries ≡ table + 1 + j / entries = ap (λ x. x / entries) e ∙ div-mul-add (table + 1 + j / entries) entries (j % entries) rest in
      by_slot k (table + 1 + j / entries) at (all (j / entries) k below)

-- what an index of a list reads
pub read_at : {X : Type 0} (xs : List X) (i : ℕ) (x : X) → i < length xs → x ≡ get_or xs i x → slice_get xs i ≡ Some x
read_at xs i x h is = slice_get_read xs (length xs) i x refl h is

-- a run of L2 tables, with one in front of it
pub run_longer : (loaded : LoadedImage) (index old new : ℕ) (held : HeldTable) → slice_get loaded.l1 index ≡ Some held → new ≤ old + 1
    → ((k : ℕ) → 0 < new → held_cluster loaded k (Some held) ≡ GuestCluster.Absent)
    → ((j k : ℕ) → j < old → held_cluster loaded k (slice_get loaded.l1 (index + 1 + j)) ≡ GuestCluster.Absent)
    → (j k : ℕ) → j < new → held_cluster loaded k (slice_get loaded.l1 (index + j)) ≡ GuestCluster.Absent
run_longer loaded index old new held there most first behind zero k h =
    let e : index + 0 ≡ index = omega arith in
    rw (e, there) (first k h)
run_longer loaded index old new held there most first behind (suc j) k h =
    let e : index + suc j ≡ index + 1 + j = omega arith in
    rw e (behind j k (omega (arith, h, most)))

-- bytes of the disk that stand in a run of absent guest clusters, from an offset in its first one on
pub run_of_bytes : (loaded : LoadedImage) (entries o count i : ℕ) → 0 < entries → 0 < loaded.cluster
    → AreAbsent loaded (o / (entries * loaded.cluster) * entries + o / loaded.cluster % entries) count
    → i < count * loaded.cluster - o % loaded.cluster → loaded_cluster loaded ((o + i) / loaded.cluster) ≡ GuestCluster.Absent
run_of_bytes loaded entries o count i some positive absent h =
    let c = loaded.cluster in
    let d : o / c / entries ≡ o / (c * entries) = div-div-eq-div-mul o c entries in
    let f : c * entries ≡ entries * c = omega arith in
    let table : o / (entries * c) ≡ o / c / entries = sym (d ∙ ap (λ x. o / x) f) in
    let start : o / (entries * c) * entries + o / c % entries ≡ o / c = omega (arith, ap (λ x. x * entries) table, div-add-mod' (o / c) entries) in
    let rest = o % c + i in
    let within : rest < count * c = omega (arith, h) in
    let below : rest / c < count = div_below rest c count positive within in
    let last : rest % c < c = mod-lt rest positive in
    let e : o + i ≡ (o / c + rest / c) * c + rest % c = omega (arith, div-add-mod' o c, div-add-mod' rest c) in
    let at : (o + i) / c ≡ o / c + rest / c = ap (λ x. x / c) e ∙ div-mul-add (o / c + rest / c) c (rest % c) last in
    let there : loaded_cluster loaded (o / c + rest / c) ≡ GuestCluster.Absent = rw start at absent (rest / c) below in
    rw at there

-- where only memory is lacking, a refusal for that is one of many
pub lacks_memory : {A E : Type 0} (r : Result A E) (refused : E) (P : E → Type 0) → IfErr r (λ e. e ≡ refused) → P refused → IfErr r P
lacks_memory (Ok x) refused P h p = tt
lacks_memory (Err e) refused P h p = rw h p
