-- SPDX-License-Identifier: MIT
use Rattle.std.proofs.Common.{◌≡◌, ℕ, ◌+◌, ◌-◌, ◌<◌, ◌≤◌, ◌⊎◌, ⊎_elim, inl, inr, Bool, true, false, Option, Some, None, ap, arith, Result, Ok, Err}
use Rattle.std.specs.Prelude.{IfErr, nat_lt}
use Rattle.std.proofs.lemmas.Bool.{cases_lt}
use Rattle.std.proofs.lemmas.Result.{on_ok_weaker, on_err_weaker}
use Rattle.std.proofs.lemmas.Bool.Decides.{nat_tests}
use Rattle.imago_storage.specs.declared.error.Error.{Error}
use Rattle.imago_storage.specs.declared.error.Error.TheVariants as E
use Rattle.imago_storage.specs.Features.{Features, len_align}
use Rattle.imago_drivers.specs.declared.mapping.PreparedDataMapping.{PreparedDataMapping}
use Rattle.imago_drivers.specs.Operation.{Operation}
use Rattle.imago_drivers.specs.Place.{Value, Byte}
use Rattle.imago_drivers.specs.Outside.{StaysOutside}
use Rattle.imago_drivers.specs.Reasons.{Reasons, allowed}
use Rattle.imago_drivers.specs.LayerBelow.{LayerBelow}
use Rattle.imago_drivers.specs.Laws.{AreCauses}
use Rattle.imago_drivers.specs.Lengths.{GrowTo, padded_to}
use Rattle.imago_drivers.specs.View.{View, Abilities, EndsIn}
use Rattle.imago_drivers.specs.Changes.{IsChanged, partly}
use Rattle.imago_drivers.specs.Frame.{IsKind, IsFramed, IsUnchanged}
use Rattle.imago_drivers.specs.Done.{HasDone, range_reasons}
use Rattle.imago_drivers.specs.Prepared.{is_for}
use Rattle.imago_drivers.specs.Commit.{IsCommit, IsCancel, is_committed, commit_longest, commit_reasons}
use Rattle.imago_drivers.specs.Pending.{Pending}
use Rattle.imago_drivers.specs.Resized.{IsSameDisk}
use Rattle.imago_drivers.specs.declared.format.PreallocateMode.{PreallocateMode}
use Rattle.imago_drivers.specs.Calls.{IsZeroCall, IsDiscard, IsGrowth, IsShrink, IsFlush}
use Rattle.imago_drivers.proofs.Stays.{outside_more}
use Rattle.imago_test_drivers.specs.Choppy.{chopped, chopped_no_memory}

-- a refusal whose reasons are more
pub refused_more : {T : Type 0} (r : Reasons) (beyond : Type 0) (cause : Error → Type 0) (memory : Type 0) → (r.beyond_disk → beyond) → ((e : Error) → r.cause e → cause e) → (r.memory → memory)
    → (result : Result T Error) → IfErr result (allowed r) → IfErr result (allowed (record r { beyond_disk = beyond; cause = cause; memory = memory }))
refused_more r beyond cause memory b c m (Ok x) h = tt
refused_more r beyond cause memory b c m (Err E.BeyondDisk) h = b h
refused_more r beyond cause memory b c m (Err E.WrapAround) h = c Error.WrapAround h
refused_more r beyond cause memory b c m (Err E.InvalidData) h = c Error.InvalidData h
refused_more r beyond cause memory b c m (Err E.Unsupported) h = c Error.Unsupported h
refused_more r beyond cause memory b c m (Err E.NoAccess) h = c Error.NoAccess h
refused_more r beyond cause memory b c m (Err E.Memory) h = m h
refused_more r beyond cause memory b c m (Err E.ReadOnly) h = h
refused_more r beyond cause memory b c m (Err E.RangeOverflow) h = h
refused_more r beyond cause memory b c m (Err E.Device) h = h
refused_more r beyond cause memory b c m (Err E.ForeignMapping) h = h
refused_more r beyond cause memory b c m (Err E.Denied) h = h
refused_more r beyond cause memory b c m (Err E.NotFound) h = h

-- the padded end of a part of a range is none past that of the range
pub padded_part : (f : Features) (o n q m : ℕ) → o ≤ q → q + m ≤ o + n → padded_to f q m ≤ padded_to f o n
padded_part f o n q m from to = ⊎_elim
    (λ some.
    let t : nat_lt 0 m ≡ true = grind (arith, nat_tests) in
    let u : nat_lt 0 n ≡ true = let s : 0 < n = omega arith in grind (arith, nat_tests) in
    let l : q + m + (len_align f - 1) ≤ o + n + (len_align f - 1) = omega arith in
    rw (t, u) l)
    (λ zero. let t : nat_lt 0 m ≡ false = grind (arith, nat_tests) in let l : 0 ≤ padded_to f o n = omega arith in rw t l)
    (cases_lt 0 m)

-- a part of a range changed, maybe in part, and nothing else of it
changed_part : (how : Value → Value → Type 0) (o n q m : ℕ) (f g : ℕ → Value) → o ≤ q → q + m ≤ o + n → IsChanged q m (partly (λ k. how)) f g → IsChanged o n (partly (λ k. how)) f g
changed_part how o n q m f g from to x = record {
  inside = λ k h. ⊎_elim
      (λ before. inl (x.before (o + k) before))
      (λ after. ⊎_elim
      (λ within.
      let e : q + (o + k - q) ≡ o + k = omega arith in
      let y : partly (λ j. how) (o + k - q) (f (q + (o + k - q))) (g (q + (o + k - q))) = x.inside (o + k - q) (omega arith) in
      rw e at y)
      (λ past. inl (x.behind (o + k) past))
      (cases_lt (o + k) (q + m)))
      (cases_lt (o + k) q);
  before = λ p h. x.before p (omega arith);
  behind = λ p h. x.behind p (omega arith);
}

module _ {St : Type 0} (granularity : Option ℕ) (old new : View St) where
  kind_same : IsKind old new → IsKind (chopped granularity old) (chopped granularity new)
  kind_same x = record { abilities = ap {A = Abilities} (λ a. record a { zero_granularity = granularity }) x.abilities; store_count = x.store_count; store_features = x.store_features }

  pub framed : IsFramed old new → IsFramed (chopped granularity old) (chopped granularity new)
  framed x = record {
    kind = kind_same x.kind;
    size = x.size;
    ends = x.ends;
  }

  pub unchanged : IsUnchanged old new → IsUnchanged (chopped granularity old) (chopped granularity new)
  unchanged x = record { framed = framed x.framed; places = x.places; reaches = x.reaches }

  -- a call on a part of a range, as a call on the range
  module _ (op : Operation) (o n q m : ℕ) (from : o ≤ q) (to : q + m ≤ o + n)
      (longest : (index : ℕ) → old.limits.longest op q m index ≤ old.limits.longest op o n index) (no_more : chopped_no_memory old.limits.no_memory op o n → ⊥) (laws : AreCauses old) where
    grow_part : GrowTo (old.limits.longest op q m) old.stores new.stores → GrowTo (old.limits.longest op o n) old.stores new.stores
    grow_part x = record { no_shorter = x.no_shorter; no_longer = λ i. omega (arith, x.no_longer i, longest i) }

    ends_part : EndsIn old.place q m → EndsIn old.place o n
    ends_part x = let i = x.1 in (x.0, (omega (arith, i.0), omega (arith, i.1)), x.2)

    refused_part : {T : Type 0} (result : Result T Error) → IfErr result (allowed (range_reasons old op q m)) → IfErr result (allowed (range_reasons (chopped granularity old) op o n))
    refused_part result h = let s = range_reasons (chopped granularity old) op o n in refused_more (range_reasons old op q m) s.beyond_disk s.cause s.memory ends_part (λ e c. laws.part op o n q m e from to c) (λ x free. no_more free) result h

    done_part : (how : Value → Value → Type 0) (result : Result (ℕ × ℕ) Error) → HasDone (λ _ _ _. how) op q m old new result → HasDone (λ _ _ _. how) op o n (chopped granularity old) (chopped granularity new) result
    done_part how (Ok r) x = record {
      inside = ⊎_elim (λ none. inl none) (λ some. inr (omega (arith, some.0), omega (arith, some.1))) x.inside;
      part = tt;
      whole = λ h. absurd h;
      done = x.done;
      refused = λ k below. tt;
    }
    done_part how (Err e) x = record {
      inside = tt;
      part = tt;
      whole = λ h. absurd h;
      done = λ k below. tt;
      refused = λ k below. changed_part how o n q m _ _ from to (x.refused k below);
    }

    stays : StaysOutside old.abilities.keeps_data old.abilities.block q m old.place new.place
        → StaysOutside old.abilities.keeps_data old.abilities.block o n old.place new.place
    stays x = outside_more old.abilities.keeps_data old.abilities.block o n q m old.place new.place
        from to x

    -- a zero call or a discard to zero
    pub zeroed : (result : Result (ℕ × ℕ) Error) → IsZeroCall op q m old new result → IsZeroCall op o n (chopped granularity old) (chopped granularity new) result
    zeroed result x = record {
      done = done_part (λ v w. w ≡ Byte 0) result x.done;
      causes = x.causes;
      reaches = x.reaches;
      nothing_pending = x.nothing_pending;
      lengths = grow_part x.lengths;
      framed = framed x.framed;
      faults = x.faults;
      refusals = refused_part result x.refusals;
      outside = stays x.outside;
    }

    -- a discard to any or to backing
    pub discarded : (how : Value → Value → Type 0) (result : Result (ℕ × ℕ) Error) → IsDiscard (λ _ _ _. how) op q m old new result → IsDiscard (λ _ _ _. how) op o n (chopped granularity old) (chopped granularity new) result
    discarded how result x = record {
      done = done_part how result x.done;
      causes = x.causes;
      nothing_pending = x.nothing_pending;
      lengths = grow_part x.lengths;
      framed = framed x.framed;
      faults = x.faults;
      refusals = refused_part result x.refusals;
      outside = stays x.outside;
    }

-- what a mapping is for is the same of the driver in blocks
for_same : {St : Type 0} (granularity : Option ℕ) (v : View St) (m : PreparedDataMapping St) (st : Option St) (at n o : ℕ) → is_for (chopped granularity v) m st at n o → is_for v m st at n o
for_same granularity v m None at n o h = h
for_same granularity v m (Some s) at n o h = h

committed_same : {St : Type 0} (granularity : Option ℕ) (old new : View St) (torn : Bool) (pending : Option (Pending St)) (st : Option St) → is_committed pending st torn old new → is_committed pending st torn (chopped granularity old) (chopped granularity new)
committed_same granularity old new torn pending None h = h
committed_same granularity old new torn None (Some s) h = h
committed_same granularity old new torn (Some q) (Some s) h = h

commit_grows : {St : Type 0} (granularity : Option ℕ) (old new : View St) (pending : Option (Pending St)) (st : Option St) → GrowTo (commit_longest old.limits pending st) old.stores new.stores
    → GrowTo (commit_longest (chopped granularity old).limits pending st) old.stores new.stores
commit_grows granularity old new pending None h = h
commit_grows granularity old new None (Some s) h = h
commit_grows granularity old new (Some q) (Some s) h = h

-- a call that is passed on
module _ {Self St : Type 0} (granularity : Option ℕ) (view : Self → View St) (old new : Self) where
  pub committed : (m : PreparedDataMapping St) (result : Result Unit Error) → IsCommit view old new m result → IsCommit (λ d. chopped granularity (view d)) old new m result
  committed m result x = record {
    foreign = x.foreign;
    untouched = x.untouched;
    done = on_ok_weaker result (committed_same granularity (view old) (view new) false (view old).pending m.state) x.done;
    torn = λ f. on_err_weaker result (committed_same granularity (view old) (view new) true (view old).pending m.state) (x.torn f);
    own_spent = x.own_spent;
    others_stay = x.others_stay;
    reaches = x.reaches;
    settled = on_ok_weaker result (λ h o i. h o (for_same granularity (view old) m m.state 0 m.length o i)) x.settled;
    lengths = commit_grows granularity (view old) (view new) (view old).pending m.state x.lengths;
    framed = framed granularity (view old) (view new) x.framed;
    faults = x.faults;
    refusals = let s = commit_reasons (chopped granularity (view old)) m in
        refused_more (commit_reasons (view old) m) s.beyond_disk s.cause s.memory (λ h. h) (λ e c. (c.0, λ o i. c.1 o (for_same granularity (view old) m m.state 0 m.length o i))) (λ h. h) result x.refusals;
    outside = x.outside;
  }

  pub cancelled : (m : PreparedDataMapping St) → IsCancel view old new m → IsCancel (λ d. chopped granularity (view d)) old new m
  cancelled m x = record {
    own_spent = x.own_spent;
    others_stay = x.others_stay;
    untouched = x.untouched;
    places = x.places;
    reaches = x.reaches;
    lengths = x.lengths;
    framed = framed granularity (view old) (view new) x.framed;
    later = x.later;
    reliable = x.reliable;
  }

  pub flushed : (relation : Self → Self → Result Unit Error → Type 0) (result : Result Unit Error) → IsFlush view relation old new result → IsFlush (λ d. chopped granularity (view d)) relation old new result
  flushed relation result x = record {
    performed = x.performed;
    unchanged = unchanged granularity (view old) (view new) x.unchanged;
    pending = x.pending;
    causes = x.causes;
    lengths = x.lengths;
    faults = x.faults;
    refusals = x.refusals;
  }

module _ {St : Type 0} (granularity : Option ℕ) (old new : View St) where
  disk_same : IsSameDisk old new → IsSameDisk (chopped granularity old) (chopped granularity new)
  disk_same x = record { size = x.size; places = x.places; reaches = x.reaches; ends = x.ends; no_shorter = x.no_shorter }

  pub grown : (mode : PreallocateMode) (l : LayerBelow) (size : ℕ) (result : Result Unit Error) → IsGrowth mode l size old new result → IsGrowth mode l size (chopped granularity old) (chopped granularity new) result
  grown mode l size result x = record {
    grown = on_ok_weaker result (λ y. record { size = y.size; kept = y.kept; added = y.added; ends = y.ends; listed = y.listed }) x.grown;
    idle = x.idle;
    unchanged = on_err_weaker result disk_same x.unchanged;
    nothing_pending = x.nothing_pending;
    no_longer = x.no_longer;
    kind = kind_same granularity old new x.kind;
    faults = x.faults;
    refusals = x.refusals;
  }

  pub shrunk : (size : ℕ) (result : Result Unit Error) → IsShrink size old new result → IsShrink size (chopped granularity old) (chopped granularity new) result
  shrunk size result x = record {
    cut = on_ok_weaker result (λ y. record { size = y.size; kept = y.kept; ends = y.ends }) x.cut;
    idle = x.idle;
    unchanged = on_err_weaker result disk_same x.unchanged;
    nothing_pending = x.nothing_pending;
    no_longer = x.no_longer;
    kind = kind_same granularity old new x.kind;
    faults = x.faults;
    refusals = x.refusals;
  }
