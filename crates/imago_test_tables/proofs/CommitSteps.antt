-- SPDX-License-Identifier: MIT
use Rattle.std.proofs.Common.{◌≡◌, ℕ, ◌+◌, ◌<◌, ◌≤◌, ◌⊎◌, ◌&&◌, ⊎_elim, inl, inr, Bool, true, false, List, Option, Some, None, refl, sym, ap, ◌∙◌, arith, min, nat_lt, if◌then◌else◌, Ok}
use Rattle.std.specs.Prelude.{slice_index, slice_get, is_none, IsTrue}
use Rattle.std.proofs.lemmas.Bool.{cases_lt}
use Rattle.std.proofs.lemmas.Bool.Decides.{nat_tests}
use mathlib.Core.Path.{fun_ext}
use Rattle.imago_storage.specs.declared.error.Error.{Error}
use Rattle.imago_storage.specs.declared.error.Error.TheVariants as E
use Rattle.imago_storage.specs.Faults.{RoseOrSaturated}
use Rattle.imago_storage.specs.Features.{Features}
use Rattle.imago_drivers.specs.declared.mapping.PreparedDataMapping.{PreparedDataMapping}
use Rattle.imago_test_tables.specs.declared.sparse.Settings.{Settings}
use Rattle.imago_test_tables.specs.declared.sparse.Waiting.{Waiting}
use Rattle.imago_test_tables.specs.declared.table.Origin.{Origin}
use Rattle.imago_drivers.specs.Operation.{Operation, Map, Read, Write, Zero, DiscardToZero, DiscardToAny, DiscardToBacking, Grow, Shrink, Flush}
use Rattle.imago_drivers.specs.Place.{Byte, shown}
use Rattle.imago_drivers.specs.Causes.{IsSettled, IsOnRange}
use Rattle.imago_drivers.specs.Pending.{Pending, IsOwn}
use Rattle.imago_drivers.specs.View.{View}
use Rattle.imago_drivers.specs.Laws.{AreCauses}
use Rattle.imago_drivers.specs.Frame.{IsFramed, ReachesNoMore}
use Rattle.imago_drivers.specs.Prepared.{is_foreign}
use Rattle.imago_drivers.specs.Commit.{IsCommit, is_committed, commit_moves}
use Rattle.imago_drivers.proofs.Stays.{stays_itself}
use Rattle.imago_test_tables.specs.Pair.{at_index}
use Rattle.imago_test_tables.specs.Table.{IsFilled}
use Rattle.imago_test_tables.specs.Sparse.{entry_place, sparse_view, sparse_pending, sparse_cause, sparse_copies, waiting_byte}
use Rattle.imago_test_tables.specs.SparseLaws.{lower_entry, end_entry}

-- the byte of a place that a write waits for
pub waits_inside : (keeps : Bool) (first : List ℕ) (w : Waiting) (p : ℕ) → IsTrue keeps → w.start ≤ p → p < w.start + w.length → waiting_byte keeps first w p ≡ slice_index first p
waits_inside true first w p k a b = let t : nat_lt p w.start ≡ false = grind (arith, nat_tests) in let u : nat_lt p (w.start + w.length) ≡ true = grind (arith, nat_tests) in rw (t, u) refl
waits_inside false first w p k a b = let z : ⊥ = cc in absurd z

-- where the storage's byte stays, so does the waiting one
pub waits_same : (keeps : Bool) (first now : List ℕ) (w : Waiting) (p : ℕ) → slice_index now p ≡ slice_index first p → waiting_byte keeps now w p ≡ waiting_byte keeps first w p
waits_same keeps first now w p e = ap (λ x. if keeps then (if nat_lt p w.start then 0 else (if nat_lt p (w.start + w.length) then x else 0)) else 0) e

waits_out : (keeps : Bool) (first now : List ℕ) (w : Waiting) (p : ℕ) → (IsTrue keeps → w.start ≤ p → p < w.start + w.length → slice_index now p ≡ slice_index first p) → waiting_byte keeps now w p ≡ waiting_byte keeps first w p
waits_out false first now w p h = refl
waits_out true first now w p h = ⊎_elim
    (λ under. let t : nat_lt p w.start ≡ true = grind (arith, nat_tests) in rw t refl)
    (λ above. ⊎_elim
    (λ inside. waits_same true first now w p (h refl above inside))
    (λ over. let t : nat_lt p w.start ≡ false = grind (arith, nat_tests) in let u : nat_lt p (w.start + w.length) ≡ false = grind (arith, nat_tests) in rw (t, u) refl)
    (cases_lt p (w.start + w.length)))
    (cases_lt p w.start)

-- a write elsewhere leaves what waits
pub waits_on : (keeps : Bool) (first now : List ℕ) (waiting : Option Waiting) → ((w : Waiting) → waiting ≡ Some w → (p : ℕ) → IsTrue keeps → w.start ≤ p → p < w.start + w.length → slice_index now p ≡ slice_index first p)
    → sparse_pending keeps now waiting ≡ sparse_pending keeps first waiting
waits_on keeps first now None h = refl
waits_on keeps first now (Some w) h = ap (λ b. Some (record { start = w.start; storage = 0; offset = w.start; length = w.length; state = w.ticket; from = w.start; until = w.start + w.length; bytes = b })) (fun_ext (λ p. waits_out keeps first now w p (h w refl p)))

-- the mapping that waits is no foreign one, and has a state
pub own_is_known : (p : Option (Pending ℕ)) (m : PreparedDataMapping ℕ) (st : Option ℕ) → m.state ≡ st → IsOwn p m → is_foreign p m st → ⊥
own_is_known p m None e own f = f
own_is_known p m (Some s) e own f = f own

pub own_has_state : (p : Option (Pending ℕ)) (m : PreparedDataMapping ℕ) → IsOwn p m → m.state ≡ None → ⊥
own_has_state None m own e = own
own_has_state (Some q) m own e = let x = own.3 in let z : ⊥ = cc in z

no_foreign : (p : Option (Pending ℕ)) (m : PreparedDataMapping ℕ) (st : Option ℕ) → st ≡ None → is_foreign p m st → ⊥
no_foreign p m None e f = f
no_foreign p m (Some s) e f = let z : ⊥ = cc in z

nothing_done : (pending : Option (Pending ℕ)) (st : Option ℕ) (torn : Bool) (v : View ℕ) → st ≡ None → is_committed pending st torn v v
nothing_done pending None torn v e = record { stored = λ p b s f w x. (b, x); same = λ k p. refl }
nothing_done pending (Some s) torn v e = let z : ⊥ = cc in absurd z

-- a mapping with no state is committed by doing nothing
pub commit_nothing : {Self : Type 0} (view : Self → View ℕ) (d : Self) (m : PreparedDataMapping ℕ) → m.state ≡ None → AreCauses (view d) → IsCommit view d d m (Ok tt)
commit_nothing view d m e laws = record {
  foreign = (λ x. let z : ⊥ = cc in absurd z, λ x. absurd (no_foreign (view d).pending m m.state e x));
  untouched = λ x. refl;
  done = nothing_done (view d).pending m.state false (view d) e;
  torn = λ x. tt;
  own_spent = λ own. absurd (own_has_state (view d).pending m own e);
  others_stay = λ x. refl;
  reaches = λ p q w x. (w, x);
  settled = λ o x. record { causes = λ op a n q k r t h i j l c. laws.part op a n q k r j l c; copied = λ op a n q k p t h i j l c. laws.part_copied op a n q k p j l c };
  lengths = record { no_shorter = λ i. omega arith; no_longer = λ i. omega arith };
  framed = record { kind = record { abilities = refl; store_count = refl; store_features = λ i. refl }; size = refl; ends = λ p x. x };
  faults = record { later = omega arith; reliable = λ x. refl; device = λ x. let z : ⊥ = cc in absurd z };
  refusals = tt;
  outside = stays_itself (view d).abilities.keeps_data (commit_moves (view d).pending m.state)
      (view d).place;
}

-- an entry after a filling is what it was or the filled one
pub filled_entry : (o n : ℕ) (origin : Origin) (old new : List Origin) → IsFilled o n origin old new → (p : ℕ) → (slice_get new p ≡ slice_get old p) ⊎ (slice_get new p ≡ Some origin)
filled_entry o n origin old new f p = ⊎_elim
    (λ under. inl (f.before p under))
    (λ above. ⊎_elim (λ inside. inr (f.inside p (above, inside))) (λ over. inl (f.behind p over)) (cases_lt p (o + n)))
    (cases_lt p o)

-- an entry that isn't the first storage's was that before
was : (o n : ℕ) (old new : List Origin) → IsFilled o n Origin.First old new → (p : ℕ) (e : Option Origin) → slice_get new p ≡ e → (e ≡ Some Origin.First → ⊥) → slice_get old p ≡ e
was o n old new f p e is other = ⊎_elim (λ same. sym same ∙ is) (λ first. absurd (other (sym is ∙ first))) (filled_entry o n Origin.First old new f p)

pub cause_sub : (old now : List Origin) (short : Bool) (op : Operation) (o n q m : ℕ) (e : Error) → ((p : ℕ) → slice_get now p ≡ Some Origin.Barred → slice_get old p ≡ Some Origin.Barred) → o ≤ q → q + m ≤ o + n
    → sparse_cause now short op q m e → sparse_cause old short op o n e
cause_sub old now short op o n q m E.WrapAround sub h k c = c
cause_sub old now short op o n q m E.Unsupported sub h k c = c
cause_sub old now short op o n q m E.NoAccess sub h k c = let i = c.1 in let x : o ≤ c.0 = omega (arith, i.0) in let y : c.0 < o + n = omega (arith, i.1) in (c.0, (x, y), sub (c.0) (c.2))
cause_sub old now short op o n q m E.ReadOnly sub h k c = absurd c
cause_sub old now short op o n q m E.BeyondDisk sub h k c = absurd c
cause_sub old now short op o n q m E.RangeOverflow sub h k c = absurd c
cause_sub old now short op o n q m E.InvalidData sub h k c = absurd c
cause_sub old now short op o n q m E.Device sub h k c = absurd c
cause_sub old now short op o n q m E.Memory sub h k c = absurd c
cause_sub old now short op o n q m E.ForeignMapping sub h k c = absurd c
cause_sub old now short op o n q m E.Denied sub h k c = absurd c
cause_sub old now short op o n q m E.NotFound sub h k c = absurd c

pub copies_sub : (old now : List Origin) (op : Operation) (o n q m p : ℕ) → (slice_get now p ≡ Some Origin.Lower → slice_get old p ≡ Some Origin.Lower) → o ≤ q → q + m ≤ o + n → sparse_copies now op q m p → sparse_copies old op o n p
copies_sub old now Write o n q m p sub h k c = let i = c.0 in let x : o ≤ p = omega (arith, i.0) in let y : p < o + n = omega (arith, i.1) in ((x, y), sub (c.1))
copies_sub old now Map o n q m p sub h k c = c
copies_sub old now Read o n q m p sub h k c = c
copies_sub old now Zero o n q m p sub h k c = c
copies_sub old now DiscardToZero o n q m p sub h k c = c
copies_sub old now DiscardToAny o n q m p sub h k c = c
copies_sub old now DiscardToBacking o n q m p sub h k c = c
copies_sub old now (Grow mode) o n q m p sub h k c = c
copies_sub old now Shrink o n q m p sub h k c = c
copies_sub old now Flush o n q m p sub h k c = c

module _ (f g : Features) (count now_count : ℕ) (first second : List ℕ) (table now : List Origin) (size : ℕ) (s : Settings) (short : Bool) (o n : ℕ) (fill : IsFilled o n Origin.First table now) where
  pub commit_reaches : (w v : Option Waiting) → ReachesNoMore (sparse_view f g count first second table size s short w) (sparse_view f g now_count first second now size s short v)
  commit_reaches w v p q marked e =
      let x = lower_entry (at_index first second) p (slice_get now p) q marked e in
      (marked, ap (entry_place (at_index first second) p) (was o n table now fill p (Some Origin.Lower) (x.0) (λ y. let z : ⊥ = cc in z) ∙ sym (x.0)) ∙ e)

  pub commit_framed : (w v : Option Waiting) → IsFramed (sparse_view f g count first second table size s short w) (sparse_view f g now_count first second now size s short v)
  commit_framed w v = record {
    kind = record { abilities = refl; store_count = refl; store_features = λ i. refl };
    size = refl;
    ends = λ p e. let x = end_entry (at_index first second) p (slice_get now p) e in ap (entry_place (at_index first second) p) (was o n table now fill p None x (λ y. let z : ⊥ = cc in z));
  }

  pub commit_settled : (a b : ℕ) → IsSettled IsOnRange (sparse_cause table short) (sparse_cause now short) (sparse_copies table) (sparse_copies now) a b
  commit_settled a b = record {
    causes = λ op c d q m e t h i j k x. cause_sub table now short op c d q m e (λ p y. was o n table now fill p (Some Origin.Barred) y (λ u. let z : ⊥ = cc in z)) j k x;
    copied = λ op c d q m p t h i j k x. copies_sub table now op c d q m p (λ y. was o n table now fill p (Some Origin.Lower) y (λ u. let z : ⊥ = cc in z)) j k x;
  }

either : (b : Bool) → (b ≡ true) ⊎ (b ≡ false)
either true = inl refl
either false = inr refl

-- a commit of the first n bytes of the write that waits, all of them if it isn't torn
pub commit_done : (f g : Features) (count now_count : ℕ) (first second : List ℕ) (table now : List Origin) (size : ℕ) (s : Settings) (short : Bool) (n : ℕ) (waiting : Option Waiting) (m : PreparedDataMapping ℕ) (st : Option ℕ) (torn : Bool)
    → m.state ≡ st → IsOwn (sparse_pending (f.keeps_data && g.keeps_data) first waiting) m → IsFilled m.offset n Origin.First table now → n ≤ m.length → (torn ≡ false → n ≡ m.length)
    → is_committed (sparse_pending (f.keeps_data && g.keeps_data) first waiting) st torn (sparse_view f g count first second table size s short waiting) (sparse_view f g now_count first second now size s short None)
commit_done f g count now_count first second table now size s short n None m st torn e own fill most whole = absurd own
commit_done f g count now_count first second table now size s short n (Some w) m None torn e own fill most whole = let x = own.3 in let z : ⊥ = cc in absurd z
commit_done f g count now_count first second table now size s short n (Some w) m (Some t) torn e own fill most whole =
    let begins : m.offset ≡ w.start = own.1 in
    let long : m.length ≡ w.length = own.2 in
    let filled : IsFilled w.start n Origin.First table now = rw begins at fill in (
      λ u k h. let a : w.start ≤ w.start + k = omega arith in let b : w.start + k < w.start + n = omega (arith, whole u, long) in
          (slice_index first (w.start + k), ap (entry_place (at_index first second) (w.start + k)) (filled.inside (w.start + k) (a, b))),
      λ keeps below round. record {
        inside = λ k h. ⊎_elim
            (λ made. let a : w.start ≤ w.start + k = omega arith in let b : w.start + k < w.start + n = omega arith in
            inl (ap (λ x. shown below (entry_place (at_index first second) (w.start + k) x)) (filled.inside (w.start + k) (a, b)) ∙ ap (λ x. Byte x) (sym (waits_inside (f.keeps_data && g.keeps_data) first w (w.start + k) keeps a (omega arith)))))
            (λ left. ⊎_elim
            (λ torn_so. inr (torn_so, ap (λ x. shown below (entry_place (at_index first second) (w.start + k) x)) (filled.behind (w.start + k) (omega arith))))
            (λ not_torn. absurd (omega (arith, whole not_torn, long)))
            (either torn))
            (cases_lt k n);
        before = λ p h. ap (λ x. shown below (entry_place (at_index first second) p x)) (filled.before p h);
        behind = λ p h. ap (λ x. shown below (entry_place (at_index first second) p x)) (filled.behind p (omega (arith, most, long)));
      },
    )

-- a driver with a plan to fail isn't reliable
pub no_plan : (reliable : Bool) (plan : Option ℕ) (other : Bool) → IsTrue (reliable && (is_none plan && other)) → {most : ℕ} → plan ≡ Some most → ⊥
no_plan reliable None other e h = let z : ⊥ = cc in z
no_plan true (Some x) other e h = let z : ⊥ = cc in z
no_plan false (Some x) other e h = let z : ⊥ = cc in z

-- a fault that is counted raises the count, or it stands at its greatest value
pub rose : (before now faults rest : ℕ) → before ≡ rest + faults → now ≡ min (faults + 1) 18446744073709551615 → RoseOrSaturated before (rest + now)
rose before now faults rest e h = ⊎_elim
    (λ low. inl (omega (arith, e, h)))
    (λ high. inr (omega (arith, h)))
    (cases_lt faults 18446744073709551615)
