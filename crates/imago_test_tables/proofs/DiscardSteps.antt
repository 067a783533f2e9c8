-- SPDX-License-Identifier: MIT
use Rattle.std.proofs.Common.{◌≡◌, ℕ, ◌+◌, ◌<◌, ◌≤◌, ◌⊎◌, ◌&&◌, ⊎_elim, inl, inr, Bool, List, length, Option, Some, None, Result, Ok, Err, refl, sym, ap, ◌∙◌, arith}
use Rattle.std.specs.Prelude.{slice_get, IfOk, IfErr, OnOk, OnErr, IsErrOf}
use Rattle.imago_storage.specs.declared.error.Error.{Error}
use Rattle.imago_storage.specs.Features.{Features}
use Rattle.imago_test_tables.specs.declared.sparse.Settings.{Settings}
use Rattle.imago_test_tables.specs.declared.sparse.Waiting.{Waiting}
use Rattle.imago_test_tables.specs.declared.table.Origin.{Origin}
use Rattle.imago_drivers.specs.Operation.{Operation, Map, Read, Write, Zero, DiscardToZero, DiscardToAny, DiscardToBacking, Grow, Shrink, Flush}
use Rattle.imago_drivers.specs.Place.{Value, shown, values}
use Rattle.imago_drivers.specs.Calls.{IsDiscard}
use Rattle.imago_drivers.specs.Outside.{StaysOutside}
use Rattle.imago_drivers.specs.Causes.{IsSettled}
use Rattle.imago_drivers.specs.Changes.{Change, IsChanged, partly}
use Rattle.imago_drivers.specs.Frame.{IsFramed}
use Rattle.imago_test_tables.specs.Pair.{at_index}
use Rattle.imago_test_tables.specs.Table.{IsFilled, IsPartlyFilled, HasBarred, HasEnd}
use Rattle.imago_test_tables.specs.Sparse.{entry_place, sparse_place, sparse_view, sparse_pending, sparse_cause, sparse_copies, sparse_answers}
use Rattle.imago_test_tables.specs.SparseLaws.{end_entry, none_past, past_table}
use Rattle.imago_test_tables.proofs.CommitSteps.{cause_sub}
use Rattle.imago_test_tables.proofs.StaySteps.{filled_stays}
use Rattle.imago_test_tables.proofs.TableSteps.{filled_part}

-- a write alone copies
copies_none : (table : List Origin) (op : Operation) (o n p : ℕ) → (Write ≡ op → ⊥) → sparse_copies table op o n p → ⊥
copies_none table Write o n p other c = other refl
copies_none table Map o n p other c = c
copies_none table Read o n p other c = c
copies_none table Zero o n p other c = c
copies_none table DiscardToZero o n p other c = c
copies_none table DiscardToAny o n p other c = c
copies_none table DiscardToBacking o n p other c = c
copies_none table (Grow mode) o n p other c = c
copies_none table Shrink o n p other c = c
copies_none table Flush o n p other c = c

-- What a discard promises that gives entries to the layer below: `how` is true of what that layer has.
module _ (f g : Features) (count : ℕ) (first second : List ℕ) (table now : List Origin) (size : ℕ) (s : Settings) (short : Bool) (waiting : Option Waiting) (o n : ℕ) (op : Operation) (how : (ℕ → Value) → ℕ → Change)
    (spent : sparse_pending (f.keeps_data && g.keeps_data) first waiting ≡ None) (other : Write ≡ op → ⊥) (part : sparse_answers s.fail_granules table op o n o n) (shows : (below : ℕ → Value) (k : ℕ) (v : Value) → how below o k v (below (o + k))) where
  abbrev value_of : (below : ℕ → Value) (p : ℕ) → Option Origin → Value
  value_of below p entry = shown below (entry_place (at_index first second) p entry)

  done_values : (below : ℕ → Value) → IsFilled o n Origin.Lower table now → IsChanged o n (how below o) (values below (sparse_place (at_index first second) table)) (values below (sparse_place (at_index first second) now))
  done_values below fill = record {
    inside = λ k h.
        let a : o ≤ o + k = omega arith in
        let b : o + k < o + n = omega (arith, h) in
        rw (fill.inside (o + k) (a, b)) (shows below k (values below (sparse_place (at_index first second) table) (o + k)));
    before = λ p h. ap (value_of below p) (fill.before p h);
    behind = λ p h. ap (value_of below p) (fill.behind p h);
  }

  torn_values : (below : ℕ → Value) → IsPartlyFilled o n Origin.Lower table now → IsChanged o n (partly (how below o)) (values below (sparse_place (at_index first second) table)) (values below (sparse_place (at_index first second) now))
  torn_values below fill = record {
    inside = λ k h. ⊎_elim
        (λ same. inl (ap (value_of below (o + k)) same))
        (λ given. inr (rw (given.1) (shows below k (values below (sparse_place (at_index first second) table) (o + k)))))
        (fill.each (o + k));
    before = λ p h. ⊎_elim (λ same. ap (value_of below p) same) (λ given. let i = given.0 in absurd (omega (arith, h, i.0))) (fill.each p);
    behind = λ p h. ⊎_elim (λ same. ap (value_of below p) same) (λ given. let i = given.0 in absurd (omega (arith, h, i.1))) (fill.each p);
  }

  -- no entry is barred that wasn't, and no place copied
  settled : IsPartlyFilled o n Origin.Lower table now → (a b : ℕ) → IsSettled (λ x. x ≡ op) (sparse_cause table short) (sparse_cause now short) (sparse_copies table) (sparse_copies now) a b
  settled fill a b = record {
    causes = λ x c d q m e t h i j k y. cause_sub table now short x c d q m e (λ p z. ⊎_elim (λ same. sym same ∙ z) (λ given. let u : Some Origin.Lower ≡ Some Origin.Barred = sym (given.1) ∙ z in let v : ⊥ = cc in absurd v) (fill.each p)) j k y;
    copied = λ x c d q m p t h i j k y. absurd (copies_none now x q m p (λ u. other (u ∙ t)) y);
  }

  framed : length now ≡ length table → IsFramed (sparse_view f g count first second table size s short waiting) (sparse_view f g count first second now size s short waiting)
  framed len = record {
    kind = record { abilities = refl; store_count = refl; store_features = λ i. refl };
    size = refl;
    ends = λ p e. let x = none_past now p (end_entry (at_index first second) p (slice_get now p) e) in past_table (at_index first second) table p (omega (arith, x, len));
  }

  stays : IsPartlyFilled o n Origin.Lower table now
      → StaysOutside (f.keeps_data && g.keeps_data) 1 o n
      (sparse_place (at_index first second) table) (sparse_place (at_index first second) now)
  stays fill = filled_stays (at_index first second) (f.keeps_data && g.keeps_data) table now o n
      Origin.Lower fill

  refused_as : (e : Error) → (e ≡ Error.NoAccess) ⊎ (e ≡ Error.BeyondDisk) → e ≡ Error.Device → ⊥
  refused_as e (inl a) d = let x : Error.NoAccess ≡ Error.Device = sym a ∙ d in let z : ⊥ = cc in z
  refused_as e (inr a) d = let x : Error.BeyondDisk ≡ Error.Device = sym a ∙ d in let z : ⊥ = cc in z

  pub discarded : (r : Result (ℕ × ℕ) Error) → IfOk r (λ x. (x.0 ≡ o) × (x.1 ≡ n)) → OnOk r (IsFilled o n Origin.Lower table now) → OnErr r (IsPartlyFilled o n Origin.Lower table now) → IfErr r (λ e. (e ≡ Error.NoAccess) ⊎ (e ≡ Error.BeyondDisk))
      → (IsErrOf r Error.NoAccess → HasBarred table o n) → (IsErrOf r Error.BeyondDisk → HasEnd table o n)
      → IsDiscard how op o n (sparse_view f g count first second table size s short waiting) (sparse_view f g count first second now size s short waiting) r
  discarded (Ok x) answered filled torn only barred beyond =
      let a : x.0 ≡ o = answered.0 in
      let b : x.1 ≡ n = answered.1 in
      record {
        done = record {
          inside = inr (omega (arith, a), omega (arith, a, b));
          part = rw (a, b) part;
          whole = λ h. (a, b);
          done = λ k below. rw (a, b) (done_values below filled);
          refused = λ k below. tt;
        };
        causes = settled (filled_part o n n Origin.Lower table now filled (omega arith)) (x.0) (x.1);
        nothing_pending = spent;
        lengths = record { no_shorter = λ i. omega arith; no_longer = λ i. omega arith };
        framed = framed filled.len;
        faults = record { later = omega arith; reliable = λ e. refl; device = λ e. let z : ⊥ = cc in absurd z };
        refusals = tt;
        outside = stays (filled_part o n n Origin.Lower table now filled (omega arith));
      }
  discarded (Err e) answered filled torn only barred beyond = record {
    done = record { inside = tt; part = tt; whole = λ h. tt; done = λ k below. tt; refused = λ k below. torn_values below torn };
    causes = tt;
    nothing_pending = spent;
    lengths = record { no_shorter = λ i. omega arith; no_longer = λ i. omega arith };
    framed = framed torn.len;
    faults = record { later = omega arith; reliable = λ x. refl; device = λ x. let y : e ≡ Error.Device = cc in absurd (refused_as e only y) };
    refusals = ⊎_elim
        (λ a. rw a (barred (ap (λ x. Err x) a)))
        (λ a. let h = beyond (ap (λ x. Err x) a) in rw a (h.0, h.1, ap (entry_place (at_index first second) (h.0)) (h.2)))
        only;
    outside = stays torn;
  }
