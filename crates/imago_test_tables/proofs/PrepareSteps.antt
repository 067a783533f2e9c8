-- SPDX-License-Identifier: MIT
use Rattle.std.proofs.Common.{◌≡◌, ℕ, zero, suc, ◌+◌, ◌-◌, ◌<◌, ◌≤◌, ◌⊎◌, ◌&&◌, ⊎_elim, inl, inr, Bool, true, false, List, length, Option, Some, None, Result, Ok, Err, max, refl, ap, ◌∙◌, arith}
use Rattle.std.specs.Prelude.{slice_index, slice_get, IsTrue, IsErrOf, IfErr}
use Rattle.std.proofs.lemmas.Bool.{cases_lt}
use Rattle.imago_storage.specs.declared.error.Error.{Error}
use Rattle.imago_storage.specs.declared.error.Error.TheVariants as E
use Rattle.imago_storage.specs.Error.{IsExtRefusal}
use Rattle.imago_storage.specs.Faults.{CountsFaults}
use Rattle.imago_storage.specs.Features.{Features}
use Rattle.imago_test_tables.specs.declared.sparse.Settings.{Settings}
use Rattle.imago_test_tables.specs.declared.sparse.Waiting.{Waiting}
use Rattle.imago_test_tables.specs.declared.table.Origin.{Origin}
use Rattle.imago_test_tables.specs.declared.table.Origin.TheVariants as O
use Rattle.imago_drivers.specs.declared.mapping.PreparedDataMapping.{PreparedDataMapping}
use Rattle.imago_drivers.specs.Operation.{Write}
use Rattle.imago_drivers.specs.Place.{Value, Byte, IsIn, shown}
use Rattle.imago_drivers.specs.LayerBelow.{LayerBelow}
use Rattle.imago_drivers.specs.Reasons.{allowed}
use Rattle.imago_drivers.specs.Done.{lending_reasons}
use Rattle.imago_drivers.specs.Causes.{CauseOver}
use Rattle.imago_drivers.specs.Calls.{IsPreparation}
use Rattle.imago_drivers.specs.Frame.{IsUnchanged}
use Rattle.imago_drivers.specs.Laws.{AreCauses}
use Rattle.imago_drivers.specs.Lengths.{GrowTo, padded_to}
use Rattle.imago_drivers.specs.Ranges.{HasBytes}
use Rattle.imago_drivers.specs.View.{View}
use Rattle.imago_test_tables.specs.Pair.{at_index, pair_stores}
use Rattle.imago_test_tables.specs.Table.{IsClear, IsFree, index_of}
use Rattle.imago_test_tables.specs.Sparse.{entry_place, sparse_place, sparse_view, sparse_pending, sparse_cause, sparse_copies, HasOldByte, HasOldBytes, WaitsApart, copy_reasons}
use Rattle.imago_test_tables.specs.SparseLaws.{sparse_causes}
use Rattle.imago_test_tables.proofs.PairSteps.{grow_each}
use Rattle.imago_test_tables.proofs.SparseSteps.{and_left, copied_shows, padded_more, same_place, unchanged_apart}

-- what a preparing promises where it changed nothing
module _ {St : Type 0} (v : View St) (l : LayerBelow) (o n : ℕ) (spent : v.pending ≡ None) where
  stays : IsUnchanged v v
  stays = record {
    framed = record { kind = record { abilities = refl; store_count = refl; store_features = λ i. refl }; size = refl; ends = λ p x. x };
    places = record { stored = λ p b s f w e. (b, e); same = λ k p. refl };
    reaches = λ p q w e. (w, e);
  }

  pub not_prepared : (e : Error) → (e ≡ Error.Device → ⊥) → allowed (lending_reasons v l Write o n) e → IsPreparation l o n v v (Err e)
  not_prepared e no_device reason = record {
    unchanged = stays;
    refused = spent;
    causes = tt;
    lengths = record { no_shorter = λ i. omega arith; no_longer = λ i. omega arith };
    faults = record { later = omega arith; reliable = λ x. refl; device = λ x. let y : e ≡ Error.Device = cc in absurd (no_device y) };
    refusals = reason;
  }

  pub stands_prepared : AreCauses v → (m : PreparedDataMapping St) → IsPreparation l o n v v (Ok m)
  stands_prepared laws m = record {
    unchanged = stays;
    refused = tt;
    causes = record { causes = λ op a c q k e t h i j r x. laws.part op a c q k e j r x; copied = λ op a c q k p t h i j r x. laws.part_copied op a c q k p j r x };
    lengths = record { no_shorter = λ i. omega arith; no_longer = λ i. omega arith };
    faults = record { later = omega arith; reliable = λ x. refl; device = λ x. let z : ⊥ = cc in absurd z };
    refusals = tt;
  }

-- a place that may not be written refuses the preparing
pub entry_refused : (f g : Features) (count : ℕ) (first second : List ℕ) (table : List Origin) (size : ℕ) (s : Settings) (short : Bool) (waiting : Option Waiting) (l : LayerBelow) (o n : ℕ) (e : Error)
    → sparse_pending (f.keeps_data && g.keeps_data) first waiting ≡ None → 0 < n → (e ≡ Error.NoAccess) ⊎ (e ≡ Error.BeyondDisk)
    → (IsErrOf {T = Origin} (Err e) Error.NoAccess → slice_get table o ≡ Some Origin.Barred) → (IsErrOf {T = Origin} (Err e) Error.BeyondDisk → slice_get table o ≡ None)
    → IsPreparation l o n (sparse_view f g count first second table size s short waiting) (sparse_view f g count first second table size s short waiting) (Err e)
entry_refused f g count first second table size s short waiting l o n e spent some (inl a) barred beyond =
    let x : o ≤ o = omega arith in
    let y : o < o + n = omega (arith, some) in
    rw a (not_prepared (sparse_view f g count first second table size s short waiting) l o n spent Error.NoAccess (λ d. let z : ⊥ = cc in z) (inl (o, (x, y), barred (ap (λ i. Err i) a))))
entry_refused f g count first second table size s short waiting l o n e spent some (inr a) barred beyond =
    let x : o ≤ o = omega arith in
    let y : o < o + n = omega (arith, some) in
    rw a (not_prepared (sparse_view f g count first second table size s short waiting) l o n spent Error.BeyondDisk (λ d. let z : ⊥ = cc in z) (o, (x, y), ap (entry_place (at_index first second) o) (beyond (ap (λ i. Err i) a))))

-- an entry that isn't barred, and stands in no storage, is free
pub free_origin : (o : Origin) → IsClear (Some o) → index_of o ≡ None → IsFree (Some o)
free_origin O.First c e = let z : ⊥ = cc in absurd z
free_origin O.Second c e = let z : ⊥ = cc in absurd z
free_origin O.Zero c e = refl
free_origin O.Lower c e = refl
free_origin O.Barred c e = absurd c

-- entries of a range, by their offsets
pub run_at : (table : List Origin) (o run : ℕ) (origin : Origin) → ((k : ℕ) → k < run → slice_get table (o + k) ≡ Some origin) → (p : ℕ) → IsIn o run p → slice_get table p ≡ Some origin
run_at table o run origin equal p i =
    let a : o ≤ p = i.0 in
    let b : p < o + run = i.1 in
    let k : p - o < run = omega arith in
    let q : o + (p - o) ≡ p = omega arith in
    rw q at (equal (p - o) k)

pub free_at : (table : List Origin) (o run : ℕ) (origin : Origin) → IsFree (Some origin) → ((k : ℕ) → k < run → slice_get table (o + k) ≡ Some origin) → (p : ℕ) → IsIn o run p → IsFree (slice_get table p)
free_at table o run origin free equal p i = rw (run_at table o run origin equal p i) free

-- a write of free entries waits apart
pub waits_apart : (table : List Origin) (o run t : ℕ) (origin : Origin) → IsFree (Some origin) → o + run ≤ length table → ((k : ℕ) → k < run → slice_get table (o + k) ≡ Some origin)
    → (w : Waiting) → Some (record { start = o; length = run; ticket = t }) ≡ Some w → WaitsApart table w
waits_apart table o run t origin free inside equal w e =
    let x : w ≡ record { start = o; length = run; ticket = t } = cc in
    rw x (record { inside = inside; free = free_at table o run origin free equal })

-- the bytes that were had and written are what the range showed
pub copied_bytes : (at : ℕ → Value) (first now items : List ℕ) (o n : ℕ) (origin : Origin) → length items ≡ n → HasOldBytes at o origin items → HasBytes false o (length items) (λ k. slice_index items k) first now
    → (p : ℕ) → IsIn o n p → HasOldByte at p origin (slice_index now p)
copied_bytes at first now items o n origin len old put p i =
    let a : o ≤ p = i.0 in
    let b : p < o + n = i.1 in
    let l : p - o < length items = omega (arith, len) in
    let q : o + (p - o) ≡ p = omega arith in
    let y : slice_index now p ≡ slice_index items (p - o) = rw q at (⊎_elim (λ u. u) (λ u. let v = u.0 in let z : ⊥ = cc in absurd z) (put.inside (p - o) l)) in
    rw y (rw q at (old (p - o) l))

-- the byte that a copy left in the storage is what the disk shows
pub shown_copy : (at : ℕ → Value) (bytes : ℕ → List ℕ) (table : List Origin) (now : List ℕ) (o run : ℕ) (origin : Origin) → IsFree (Some origin) → ((k : ℕ) → k < run → slice_get table (o + k) ≡ Some origin)
    → ((p : ℕ) → IsIn o run p → HasOldByte at p origin (slice_index now p)) → (p : ℕ) → IsIn o run p → shown at (entry_place bytes p (slice_get table p)) ≡ Byte (slice_index now p)
shown_copy at bytes table now o run origin free equal copied p i =
    rw (run_at table o run origin equal p i) (copied_shows at bytes p origin (slice_index now p) free (copied p i))

-- a refusal of the storage is one of the copy
pub ext_refused : (l : LayerBelow) (origin : Origin) (o n : ℕ) (r : Result Unit Error) → IfErr r IsExtRefusal → IfErr r (allowed (copy_reasons l origin o n))
ext_refused l origin o n (Ok x) h = tt
ext_refused l origin o n (Err e) h = ⊎_elim (λ w. rw w (inl refl)) (λ k. ⊎_elim (λ d. rw d tt) (λ m. rw m tt) k) h

-- nothing waits, whatever the storage has
pub still_none : (keeps k : Bool) (first now : List ℕ) (waiting : Option Waiting) → sparse_pending keeps first waiting ≡ None → sparse_pending k now waiting ≡ None
still_none keeps k first now None e = refl
still_none keeps k first now (Some w) e = let z : ⊥ = cc in absurd z

and_less : (a b c : Bool) → IsTrue ((a && b) && c) → IsTrue (a && c)
and_less true true c e = e
and_less true false c e = let z : ⊥ = cc in absurd z
and_less false b c e = e

-- the count of faults of a copy is that of a preparing
pub copy_faults : {T : Type 0} (a b c : Bool) (count now_count : ℕ) (r : Result Unit Error) (answer : Result T Error) → (IsErrOf answer Error.Device → IsErrOf r Error.Device) → CountsFaults (a && c) count now_count r
    → CountsFaults ((a && b) && c) count now_count answer
copy_faults a b c count now_count r answer same x = record { later = x.later; reliable = λ e. x.reliable (and_less a b c e); device = λ e. x.device (same e) }

module _ (f g : Features) (count : ℕ) (first second : List ℕ) (table : List Origin) (size : ℕ) (s : Settings) (short : Bool) (waiting : Option Waiting) (l : LayerBelow) (o n run : ℕ) (origin : Origin) (most : run ≤ n) (some : 0 < run)
    (equal : (k : ℕ) → k < run → slice_get table (o + k) ≡ Some origin) where
  lower_run : origin ≡ Origin.Lower → (p : ℕ) → IsIn o run p → sparse_copies table Write o n p
  lower_run e p i =
      let a : o ≤ p = i.0 in
      let b : p < o + n = omega (arith, i.1) in
      ((a, b), run_at table o run origin equal p i ∙ ap (λ x. Some x) e)

  below_cause : (e : Error) → (origin ≡ Origin.Lower) × l.cause o run e → CauseOver (sparse_cause table short) (sparse_copies table) l Write o n e
  below_cause e c = inr (o, run, some, lower_run (c.0), c.1)

  -- why a copy was refused, as a reason of the preparing
  pub copy_refused : (e : Error) → allowed (copy_reasons l origin o run) e → allowed (lending_reasons (sparse_view f g count first second table size s short waiting) l Write o n) e
  copy_refused E.Memory c = λ x. x
  copy_refused E.Device c = tt
  copy_refused E.WrapAround c = inl tt
  copy_refused E.InvalidData c = ⊎_elim (λ w. let z : ⊥ = cc in absurd z) (λ b. below_cause Error.InvalidData b) c
  copy_refused E.Unsupported c = ⊎_elim (λ w. let z : ⊥ = cc in absurd z) (λ b. below_cause Error.Unsupported b) c
  copy_refused E.NoAccess c = ⊎_elim (λ w. let z : ⊥ = cc in absurd z) (λ b. below_cause Error.NoAccess b) c
  copy_refused E.ReadOnly c = c
  copy_refused E.BeyondDisk c = absurd c
  copy_refused E.RangeOverflow c = c
  copy_refused E.ForeignMapping c = c
  copy_refused E.Denied c = c
  copy_refused E.NotFound c = c

-- what a copy promises of the disk
module _ (f g f' g' : Features) (count now_count : ℕ) (first second now then : List ℕ) (table : List Origin) (size : ℕ) (s : Settings) (short : Bool) (l : LayerBelow) (o n run : ℕ)
    (same_f : f' ≡ f) (same_g : g' ≡ g) (same_second : then ≡ second) (within : run ≤ n) (free : (p : ℕ) → IsIn o run p → IsFree (slice_get table p))
    (outside : IsTrue f.keeps_data → (p : ℕ) → (p < o) ⊎ (o + run ≤ p) → slice_index now p ≡ slice_index first p)
    (low : length first ≤ length now) (high : length now ≤ max (length first) (padded_to f o run)) where
  hidden : IsTrue f.keeps_data → (p : ℕ) → sparse_place (at_index now then) table p ≡ sparse_place (at_index first second) table p
  hidden k p = same_place (at_index first second) (at_index now then) p (slice_get table p)
      (λ e. outside k p (⊎_elim
      (λ under. inl under)
      (λ from. ⊎_elim
      (λ inside. let y = rw e at (free p (from, inside)) in let z : ⊥ = cc in absurd z)
      (λ over. inr over)
      (cases_lt p (o + run)))
      (cases_lt p o)))
      (λ e. ap (λ x. slice_index x p) same_second)

  copy_unchanged : (w w' : Option Waiting) → IsUnchanged (sparse_view f g count first second table size s short w) (sparse_view f' g' now_count now then table size s short w')
  copy_unchanged w w' = unchanged_apart f g f' g' count now_count first second now then table table size size s s short short w w' same_f same_g refl refl refl refl (λ k. hidden (and_left f.keeps_data g.keeps_data k))

  no_longer : (i : ℕ) → length (at_index now then i) ≤ max (length (at_index first second i)) (padded_to f o n)
  no_longer zero = let x = padded_more f o run n within in omega (arith, x, high)
  no_longer (suc i) = rw same_second (omega arith)

  copy_lengths : GrowTo (λ i. padded_to f o n) (pair_stores f g first second) (pair_stores f' g' now then)
  copy_lengths = record { no_shorter = grow_each first second now then low (rw same_second (omega arith)); no_longer = no_longer }

  pub copy_not_prepared : (e : Error) (w w' : Option Waiting) (r : Result Unit Error) → r ≡ Err e → sparse_pending (f.keeps_data && g.keeps_data) first w ≡ None → w' ≡ w → CountsFaults ((f.is_reliable && g.is_reliable) && l.is_reliable) count now_count r
      → allowed (lending_reasons (sparse_view f g count first second table size s short w) l Write o n) e
      → IsPreparation l o n (sparse_view f g count first second table size s short w) (sparse_view f' g' now_count now then table size s short w') (Err e)
  copy_not_prepared e w w' r is spent same faults reason = record {
    unchanged = copy_unchanged w w';
    refused = rw same (still_none (f.keeps_data && g.keeps_data) (f'.keeps_data && g'.keeps_data) first now w spent);
    causes = tt;
    lengths = copy_lengths;
    faults = copy_faults (f.is_reliable && g.is_reliable) _ l.is_reliable count now_count r (Err e) (λ x. let y : e ≡ Error.Device = cc in is ∙ ap (λ i. Err i) y) faults;
    refusals = reason;
  }

  pub copy_prepared : (m : PreparedDataMapping ℕ) (w : Option Waiting) (t : ℕ) (r : Result Unit Error) → CountsFaults ((f.is_reliable && g.is_reliable) && l.is_reliable) count now_count r
      → IsPreparation l o n (sparse_view f g count first second table size s short w) (sparse_view f' g' now_count now then table size s short (Some (record { start = o; length = run; ticket = t }))) (Ok m)
  copy_prepared m w t r faults =
      let laws = sparse_causes f g count first second table size s short w in
      record {
        unchanged = copy_unchanged w (Some (record { start = o; length = run; ticket = t }));
        refused = tt;
        causes = record { causes = λ op a c q k e t h i j x y. laws.part op a c q k e j x y; copied = λ op a c q k p t h i j x y. laws.part_copied op a c q k p j x y };
        lengths = copy_lengths;
        faults = copy_faults (f.is_reliable && g.is_reliable) _ l.is_reliable count now_count r (Ok m) (λ x. let z : ⊥ = cc in absurd z) faults;
        refusals = tt;
      }
