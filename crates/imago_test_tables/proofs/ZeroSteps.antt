-- SPDX-License-Identifier: MIT
use Rattle.std.proofs.Common.{◌≡◌, ℕ, ◌+◌, ◌<◌, ◌≤◌, ◌⊎◌, ◌&&◌, ⊎_elim, inl, inr, Bool, List, length, Option, Some, None, Result, Ok, Err, refl, sym, ap, ◌∙◌, arith}
use Rattle.std.specs.Prelude.{slice_get, IfOk, IfErr, OnOk, OnErr, IsErrOf}
use Rattle.imago_storage.specs.declared.error.Error.{Error}
use Rattle.imago_storage.specs.Features.{Features}
use Rattle.imago_test_tables.specs.declared.sparse.Settings.{Settings}
use Rattle.imago_test_tables.specs.declared.sparse.Waiting.{Waiting}
use Rattle.imago_test_tables.specs.declared.table.Origin.{Origin}
use Rattle.imago_drivers.specs.Operation.{Operation}
use Rattle.imago_drivers.specs.Place.{Value, shown, values}
use Rattle.imago_drivers.specs.Calls.{IsZeroCall}
use Rattle.imago_drivers.specs.Outside.{StaysOutside}
use Rattle.imago_drivers.specs.Causes.{AddsNone}
use Rattle.imago_drivers.specs.Changes.{IsChanged, zeroes, partly}
use Rattle.imago_drivers.specs.Frame.{IsFramed, ReachesNoMore}
use Rattle.imago_test_tables.specs.Pair.{at_index}
use Rattle.imago_test_tables.specs.Table.{IsFilled, IsPartlyFilled, HasBarred, HasEnd}
use Rattle.imago_test_tables.specs.Sparse.{entry_place, sparse_place, sparse_view, sparse_pending, sparse_cause, sparse_copies, sparse_answers}
use Rattle.imago_test_tables.specs.SparseLaws.{lower_entry, end_entry, none_past, past_table}
use Rattle.imago_test_tables.proofs.CommitSteps.{cause_sub, copies_sub}
use Rattle.imago_test_tables.proofs.StaySteps.{filled_stays}
use Rattle.imago_test_tables.proofs.TableSteps.{filled_part}

-- What a zero call promises that makes entries explicit zeroes.
module _ (f g : Features) (count : ℕ) (first second : List ℕ) (table now : List Origin) (size : ℕ) (s : Settings) (short : Bool) (waiting : Option Waiting) (o n : ℕ) (op : Operation)
    (spent : sparse_pending (f.keeps_data && g.keeps_data) first waiting ≡ None) (part : sparse_answers s.fail_granules table op o n o n) where
  abbrev value_of : (below : ℕ → Value) (p : ℕ) → Option Origin → Value
  value_of below p entry = shown below (entry_place (at_index first second) p entry)

  done_values : (below : ℕ → Value) → IsFilled o n Origin.Zero table now → IsChanged o n zeroes (values below (sparse_place (at_index first second) table)) (values below (sparse_place (at_index first second) now))
  done_values below fill = record {
    inside = λ k h.
        let a : o ≤ o + k = omega arith in
        let b : o + k < o + n = omega (arith, h) in
        ap (value_of below (o + k)) (fill.inside (o + k) (a, b));
    before = λ p h. ap (value_of below p) (fill.before p h);
    behind = λ p h. ap (value_of below p) (fill.behind p h);
  }

  torn_values : (below : ℕ → Value) → IsPartlyFilled o n Origin.Zero table now → IsChanged o n (partly zeroes) (values below (sparse_place (at_index first second) table)) (values below (sparse_place (at_index first second) now))
  torn_values below fill = record {
    inside = λ k h. ⊎_elim
        (λ same. inl (ap (value_of below (o + k)) same))
        (λ given. inr (ap (value_of below (o + k)) (given.1)))
        (fill.each (o + k));
    before = λ p h. ⊎_elim (λ same. ap (value_of below p) same) (λ given. let i = given.0 in absurd (omega (arith, h, i.0))) (fill.each p);
    behind = λ p h. ⊎_elim (λ same. ap (value_of below p) same) (λ given. let i = given.0 in absurd (omega (arith, h, i.1))) (fill.each p);
  }

  -- an entry that isn't a zero is as it was
  was : IsPartlyFilled o n Origin.Zero table now → (p : ℕ) (e : Option Origin) → (Some Origin.Zero ≡ e → ⊥) → slice_get now p ≡ e → slice_get table p ≡ e
  was fill p e other is = ⊎_elim (λ same. sym same ∙ is) (λ given. absurd (other (sym (given.1) ∙ is))) (fill.each p)

  adds_none : IsPartlyFilled o n Origin.Zero table now → AddsNone (sparse_cause table short) (sparse_cause now short) (sparse_copies table) (sparse_copies now)
  adds_none fill = record {
    causes = λ x c d e y. cause_sub table now short x c d c d e (λ p. was fill p (Some Origin.Barred) (λ u. let z : ⊥ = cc in z)) (omega arith) (omega arith) y;
    copied = λ x c d p y. copies_sub table now x c d c d p (was fill p (Some Origin.Lower) (λ u. let z : ⊥ = cc in z)) (omega arith) (omega arith) y;
  }

  reaches : IsPartlyFilled o n Origin.Zero table now → ReachesNoMore (sparse_view f g count first second table size s short waiting) (sparse_view f g count first second now size s short waiting)
  reaches fill p q w e =
      let x = lower_entry (at_index first second) p (slice_get now p) q w e in
      let y = was fill p (Some Origin.Lower) (λ u. let z : ⊥ = cc in z) (x.0) in
      (w, ap (entry_place (at_index first second) p) (y ∙ sym (x.0)) ∙ e)

  framed : length now ≡ length table → IsFramed (sparse_view f g count first second table size s short waiting) (sparse_view f g count first second now size s short waiting)
  framed len = record {
    kind = record { abilities = refl; store_count = refl; store_features = λ i. refl };
    size = refl;
    ends = λ p e. let x = none_past now p (end_entry (at_index first second) p (slice_get now p) e) in past_table (at_index first second) table p (omega (arith, x, len));
  }

  stays : IsPartlyFilled o n Origin.Zero table now
      → StaysOutside (f.keeps_data && g.keeps_data) 1 o n
      (sparse_place (at_index first second) table) (sparse_place (at_index first second) now)
  stays fill = filled_stays (at_index first second) (f.keeps_data && g.keeps_data) table now o n
      Origin.Zero fill

  refused_as : (e : Error) → (e ≡ Error.NoAccess) ⊎ (e ≡ Error.BeyondDisk) → e ≡ Error.Device → ⊥
  refused_as e (inl a) d = let x : Error.NoAccess ≡ Error.Device = sym a ∙ d in let z : ⊥ = cc in z
  refused_as e (inr a) d = let x : Error.BeyondDisk ≡ Error.Device = sym a ∙ d in let z : ⊥ = cc in z

  pub zeroed : (r : Result (ℕ × ℕ) Error) → IfOk r (λ x. (x.0 ≡ o) × (x.1 ≡ n)) → OnOk r (IsFilled o n Origin.Zero table now) → OnErr r (IsPartlyFilled o n Origin.Zero table now) → IfErr r (λ e. (e ≡ Error.NoAccess) ⊎ (e ≡ Error.BeyondDisk))
      → (IsErrOf r Error.NoAccess → HasBarred table o n) → (IsErrOf r Error.BeyondDisk → HasEnd table o n)
      → IsZeroCall op o n (sparse_view f g count first second table size s short waiting) (sparse_view f g count first second now size s short waiting) r
  zeroed (Ok x) answered filled torn only barred beyond =
      let a : x.0 ≡ o = answered.0 in
      let b : x.1 ≡ n = answered.1 in
      let some = filled_part o n n Origin.Zero table now filled (omega arith) in
      record {
        done = record {
          inside = inr (omega (arith, a), omega (arith, a, b));
          part = rw (a, b) part;
          whole = λ h. (a, b);
          done = λ k below. rw (a, b) (done_values below filled);
          refused = λ k below. tt;
        };
        causes = adds_none some;
        reaches = reaches some;
        nothing_pending = spent;
        lengths = record { no_shorter = λ i. omega arith; no_longer = λ i. omega arith };
        framed = framed filled.len;
        faults = record { later = omega arith; reliable = λ e. refl; device = λ e. let z : ⊥ = cc in absurd z };
        refusals = tt;
        outside = stays some;
      }
  zeroed (Err e) answered filled torn only barred beyond = record {
    done = record { inside = tt; part = tt; whole = λ h. tt; done = λ k below. tt; refused = λ k below. torn_values below torn };
    causes = adds_none torn;
    reaches = reaches torn;
    nothing_pending = spent;
    lengths = record { no_shorter = λ i. omega arith; no_longer = λ i. omega arith };
    framed = framed torn.len;
    faults = record { later = omega arith; reliable = λ x. refl; device = λ x. let y : e ≡ Error.Device = cc in absurd (refused_as e only y) };
    refusals = ⊎_elim
        (λ a. rw a (barred (ap (λ x. Err x) a)))
        (λ a. let h = beyond (ap (λ x. Err x) a) in rw a (h.0, h.1, ap (entry_place (at_index first second) (h.0)) (h.2)))
        only;
    outside = stays torn;
  }
