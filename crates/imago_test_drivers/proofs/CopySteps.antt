-- SPDX-License-Identifier: MIT
use Rattle.std.proofs.Common.{◌≡◌, ℕ, ◌+◌, ◌/◌, max, ◌<◌, ◌≤◌, ◌⊎◌, ⊎_elim, inl, inr, Bool, true, false, List, length, Option, Some, None, refl, sym, ap, ◌∙◌, arith, Result, Ok, Err}
use Rattle.std.specs.Prelude.{slice_index, IsTrue, OnOk, OnErr, IfErr}
use Rattle.std.proofs.Math.Nat.{div-eq_of_lt}
use Rattle.std.proofs.lemmas.Bool.{cases_lt}
use Rattle.imago_storage.specs.declared.error.Error.{Error}
use Rattle.imago_storage.specs.Error.{IsDeviceOrMemory}
use Rattle.imago_storage.specs.Faults.{CountsFaults}
use Rattle.imago_storage.specs.Features.{Features}
use Rattle.imago_drivers.specs.Done.{driver_reasons}
use Rattle.imago_drivers.specs.Reasons.{allowed}
use Rattle.imago_drivers.specs.declared.mapping.PreparedDataMapping.{PreparedDataMapping}
use Rattle.imago_test_drivers.specs.declared.copy_once.Waiting.{Waiting}
use Rattle.imago_drivers.specs.Place.{Value, Byte, End, values, shown, HasValues}
use Rattle.imago_drivers.specs.Pending.{Pending, IsOwn, ShowsRound, StaysPending}
use Rattle.imago_drivers.specs.Operation.{Operation, Map, Read, Write, Zero, DiscardToZero, DiscardToAny, DiscardToBacking, Grow, Shrink, Flush}
use Rattle.imago_drivers.specs.Causes.{IsSettled, IsOnRange}
use Rattle.imago_drivers.specs.View.{View}
use Rattle.imago_drivers.specs.Frame.{IsFramed, IsUnchanged, ReachesNoMore}
use Rattle.imago_drivers.specs.Prepared.{IsPut, is_foreign}
use Rattle.imago_drivers.specs.Commit.{is_committed, commit_moves}
use Rattle.imago_drivers.specs.Outside.{SharesBlock, StayBut}
use Rattle.imago_drivers.specs.Ranges.{HasBytes}
use Rattle.imago_drivers.specs.Raw.{raw_place}
use Rattle.imago_drivers.specs.RawLaws.{raw_in, raw_out, raw_lower}
use Rattle.imago_test_drivers.specs.CopyOnce.{copy_place, copy_view, copy_pending, copy_cause, copy_copies, WaitsInside}
use Rattle.imago_test_drivers.specs.CopyOnceLaws.{lower_in, lower_out, lower_only, copy_causes}
use Rattle.imago_drivers.proofs.RawSteps.{raw_put, if_ok, if_err, ok_of, err_of}

-- a call that changes no byte changes no place
pub same_bytes : (f g : Features) (count now_count : ℕ) (old new : List ℕ) (size : ℕ) (copied : Bool) (w : Option Waiting) → new ≡ old → g ≡ f
    → IsUnchanged (copy_view f count old size copied w) (copy_view g now_count new size copied w)
same_bytes f g count now_count old new size copied w e h = rw (e, h) (record {
  framed = record { kind = record { abilities = refl; store_count = refl; store_features = λ i. refl }; size = refl; ends = λ p x. x };
  places = record { stored = λ p b s o v x. (b, x); same = λ k p. refl };
  reaches = λ p q v x. (v, x);
})

module _ (size : ℕ) (old new : List ℕ) where
  -- bytes that change in the storage change in the disk, if they are copied
  pub copy_put : (copied torn keeps : Bool) (o : ℕ) (xs : List ℕ) → (IsTrue keeps → HasBytes torn o (length xs) (λ k. slice_index xs k) old new)
      → IsPut 0 o xs torn keeps (copy_place copied size old) (copy_place copied size new)
  copy_put true torn keeps o xs h = raw_put size old new torn keeps o xs h
  copy_put false torn keeps o xs h = record {
    stored = λ p b s f w e. absurd (lower_only size old p _ e (λ x. let z : ⊥ = cc in z) (λ x. let z : ⊥ = cc in z));
    hit = λ k p b i w l e. absurd (lower_only size old p _ e (λ x. let z : ⊥ = cc in z) (λ x. let z : ⊥ = cc in z));
    miss = λ k p non. refl;
  }

  pub copy_put_on_ok : (copied keeps : Bool) (o : ℕ) (xs : List ℕ) {E : Type 0} (r : Result Unit E) → (IsTrue keeps → OnOk r (HasBytes false o (length xs) (λ k. slice_index xs k) old new))
      → OnOk r (IsPut 0 o xs false keeps (copy_place copied size old) (copy_place copied size new))
  copy_put_on_ok copied keeps o xs r h = if_ok r (λ x e. copy_put copied false keeps o xs (λ k. ok_of x e (h k)))

  pub copy_put_on_err : (copied keeps : Bool) (o : ℕ) (xs : List ℕ) {E : Type 0} (r : Result Unit E) → (IsTrue keeps → OnErr r (HasBytes true o (length xs) (λ k. slice_index xs k) old new))
      → OnErr r (IsPut 0 o xs true keeps (copy_place copied size old) (copy_place copied size new))
  copy_put_on_err copied keeps o xs r h = if_err r (λ x e. copy_put copied true keeps o xs (λ k. err_of x e (h k)))

module _ (size : ℕ) (bytes : List ℕ) (below : ℕ → Value) where
  copied_value : (p : ℕ) → p < size → values below (copy_place true size bytes) p ≡ Byte (slice_index bytes p)
  copied_value p h = ap (shown below) (raw_in size bytes p h)

  -- a place whose byte was copied shows after the copy what it showed before
  shows_same : (w : Waiting) → ShowsRound (values below (copy_place false size bytes)) (copy_pending size bytes (Some w))
      → (p : ℕ) → (p < w.start) ⊎ (w.start + w.length ≤ p) → values below (copy_place true size bytes) p ≡ values below (copy_place false size bytes) p
  shows_same w round p out = ⊎_elim
      (λ under. copied_value p under ∙ sym (round p (omega arith) under out))
      (λ over. ap (shown below) (raw_out size bytes p over ∙ sym (lower_out size bytes p over)))
      (cases_lt p size)

-- a commit of the write that waits shows the copy
pub copy_done : (f : Features) (count : ℕ) (bytes : List ℕ) (size : ℕ) (copied : Bool) (waiting : Option Waiting) (m : PreparedDataMapping ℕ) (st : Option ℕ) → m.state ≡ st
    → IsOwn (copy_pending size bytes waiting) m → ((w : Waiting) → waiting ≡ Some w → WaitsInside size copied w)
    → is_committed (copy_pending size bytes waiting) st false (copy_view f count bytes size copied waiting) (copy_view f count bytes size true None)
copy_done f count bytes size copied None m st e own inside = absurd own
copy_done f count bytes size copied (Some w) m None e own inside = let x = own.3 in let z : ⊥ = cc in absurd z
copy_done f count bytes size copied (Some w) m (Some s) e own inside =
    let i = inside w refl in
    let b : w.start + w.length ≤ size = i.0 in
    rw (i.1) (
      λ t k h. (slice_index bytes (w.start + k), raw_in size bytes (w.start + k) (omega arith)),
      λ keeps below round. record {
        inside = λ k h. inl (copied_value size bytes below (w.start + k) (omega arith));
        before = λ p h. shows_same size bytes below w round p (inl h);
        behind = λ p h. shows_same size bytes below w round p (inr h);
      },
    )

-- past the disk is the end, copied or not
past_disk : (size : ℕ) (bytes : List ℕ) (copied : Bool) (p : ℕ) → size ≤ p
    → copy_place copied size bytes p ≡ End
past_disk size bytes true p h = raw_out size bytes p h
past_disk size bytes false p h = lower_out size bytes p h

-- a commit may move all of the disk, and nothing past it
pub copy_stays : (keeps : Bool) (bytes : List ℕ) (size : ℕ) (copied : Bool)
    (waiting : Option Waiting) (m : PreparedDataMapping ℕ) (st : Option ℕ) → m.state ≡ st
    → IsOwn (copy_pending size bytes waiting) m
    → StayBut keeps (commit_moves (copy_pending size bytes waiting) st)
    (copy_place copied size bytes) (copy_place true size bytes)
copy_stays keeps bytes size copied None m st e own = absurd own
copy_stays keeps bytes size copied (Some w) m None e own =
    let x = own.3 in let z : ⊥ = cc in absurd z
copy_stays keeps bytes size copied (Some w) m (Some s) e own =
    let past : (p : ℕ) → ((0 ≤ p) × (p < size) → ⊥) → size ≤ p =
    λ p out. ⊎_elim (λ under. absurd (out (omega arith, under))) (λ over. over)
    (cases_lt p size) in
    record {
      stored = λ p b t f v out x.
          let y = past_disk size bytes copied p (past p out) in let z : ⊥ = cc in absurd z;
      same = λ k p out. raw_out size bytes p (past p out)
          ∙ sym (past_disk size bytes copied p (past p out));
    }

-- the whole disk is one block
one_block : (size p : ℕ) → p < size → p / max size 1 ≡ 0
one_block size p h = div-eq_of_lt (omega arith)

-- what a commit may move shares the block with what waits
pub copy_near : (size : ℕ) (bytes : List ℕ) (w : Waiting) (q : Pending ℕ) (o n : ℕ)
    → copy_pending size bytes (Some w) ≡ Some q → 0 < n → o + n ≤ size → (p : ℕ) → q.from ≤ p
    → p < q.until → SharesBlock (max size 1) o n p
copy_near size bytes w q o n e some inside p low high =
    let x : q.until ≡ size = cc in
    let under : p < size = omega (arith, high, x) in
    let own : o < size = omega (arith, some, inside) in
    (o, (omega arith, omega (arith, some)), one_block size p under ∙ sym (one_block size o own))

-- the mapping that waits is no foreign one, and has a state
pub own_is_known : (v : View ℕ) (m : PreparedDataMapping ℕ) (st : Option ℕ) → m.state ≡ st → IsOwn v.pending m → is_foreign v.pending m st → ⊥
own_is_known v m None e own f = f
own_is_known v m (Some s) e own f = f own

pub own_has_state : (p : Option (Pending ℕ)) (m : PreparedDataMapping ℕ) → IsOwn p m → m.state ≡ None → ⊥
own_has_state None m own e = own
own_has_state (Some q) m own e = let x = own.3 in let z : ⊥ = cc in z

-- after the copy no place leads to the layer below, and none is an end that was none
pub copy_reaches : (f : Features) (count now_count : ℕ) (bytes now : List ℕ) (size : ℕ) (copied : Bool) (w : Option Waiting) → ReachesNoMore (copy_view f count bytes size copied w) (copy_view f now_count now size true None)
copy_reaches f count now_count bytes now size copied w p q v e = absurd (raw_lower size now p q v e)

copy_ends : (bytes now : List ℕ) (size : ℕ) (copied : Bool) (p : ℕ) → raw_place size now p ≡ End → copy_place copied size bytes p ≡ End
copy_ends bytes now size true p e = ⊎_elim (λ below. let x = raw_in size now p below in let z : ⊥ = cc in absurd z) (λ above. raw_out size bytes p above) (cases_lt p size)
copy_ends bytes now size false p e = ⊎_elim (λ below. let x = raw_in size now p below in let z : ⊥ = cc in absurd z) (λ above. lower_out size bytes p above) (cases_lt p size)

pub copy_framed : (f : Features) (count now_count : ℕ) (bytes now : List ℕ) (size : ℕ) (copied : Bool) (w : Option Waiting) → IsFramed (copy_view f count bytes size copied w) (copy_view f now_count now size true None)
copy_framed f count now_count bytes now size copied w = record { kind = record { abilities = refl; store_count = refl; store_features = λ i. refl }; size = refl; ends = λ p e. copy_ends bytes now size copied p e }

nothing_copied : (size : ℕ) (op : Operation) (o n p : ℕ) → copy_copies true size op o n p → ⊥
nothing_copied size Write o n p c = let e = c.0 in let z : ⊥ = cc in z
nothing_copied size Map o n p c = c
nothing_copied size Read o n p c = c
nothing_copied size Zero o n p c = c
nothing_copied size DiscardToZero o n p c = c
nothing_copied size DiscardToAny o n p c = c
nothing_copied size DiscardToBacking o n p c = c
nothing_copied size (Grow mode) o n p c = c
nothing_copied size Shrink o n p c = c
nothing_copied size Flush o n p c = c

pub copy_settled : (f : Features) (count : ℕ) (bytes : List ℕ) (size : ℕ) (copied : Bool) (w : Option Waiting) (o n : ℕ) → IsSettled IsOnRange copy_cause copy_cause (copy_copies copied size) (copy_copies true size) o n
copy_settled f count bytes size copied w o n = record {
  causes = λ op a c q m e r h i j k x. (copy_causes f count bytes size copied w).part op a c q m e j k x;
  copied = λ op a c q m p r h i j k x. absurd (nothing_copied size op q m p x);
}

-- once it is copied, nothing waits
pub no_pending : (keeps : Bool) (size : ℕ) (old new : List ℕ) (copied : Bool) (waiting : Option Waiting) → copied ≡ true → ((w : Waiting) → waiting ≡ Some w → WaitsInside size copied w)
    → StaysPending keeps (copy_pending size old waiting) (copy_pending size new waiting)
no_pending keeps size old new copied None e inside = refl
no_pending keeps size old new copied (Some w) e inside = let i = inside w refl in let x = i.1 in let z : ⊥ = cc in absurd z

-- what was read of the layer below and written into the storage is what the disk shows
pub copied_below : (size : ℕ) (old new items : List ℕ) (copied : Bool) (at : ℕ → Value) → copied ≡ false → length items ≡ size → HasValues at 0 items → HasBytes false 0 (length items) (λ k. slice_index items k) old new
    → (p : ℕ) → p < size → values at (copy_place copied size old) p ≡ Byte (slice_index new p)
copied_below size old new items copied at e l v b p h =
    let q : p < length items = omega arith in
    let at_p : 0 + p ≡ p = omega arith in
    let x : slice_index new p ≡ slice_index items p = rw at_p at (⊎_elim (λ a. a) (λ a. let y = a.0 in let z : ⊥ = cc in absurd z) (b.inside p q)) in
    let y : at p ≡ Byte (slice_index items p) = rw at_p at (v p q) in
    rw e (ap (shown at) (lower_in size old p h) ∙ y ∙ ap (λ i. Byte i) (sym x))

-- what waits is a part of the copy
pub around_copy : (size : ℕ) (bytes : List ℕ) (w : Waiting) (q : Pending ℕ) → copy_pending size bytes (Some w) ≡ Some q → w.start + w.length ≤ size → (q.from ≤ q.start) × (q.start + q.length ≤ q.until)
around_copy size bytes w q e h = let x : q ≡ record { start = w.start; storage = 0; offset = w.start; length = w.length; state = w.ticket; from = 0; until = size; bytes = λ p. slice_index bytes p } = cc in rw x (omega arith, h)

-- the count of faults of a storage's call is that of the copy's
pub copy_faults : (count now_count faults : ℕ) (reliable : Bool) (result : Result Unit Error) → CountsFaults reliable count now_count result → CountsFaults reliable (count + faults) (now_count + faults) result
copy_faults count now_count faults reliable result x = record {
  later = omega (arith, x.later);
  reliable = λ e. ap (λ i. i + faults) (x.reliable e);
  device = λ e. ⊎_elim (λ a. inl (omega (arith, a))) (λ a. inr (omega (arith, a))) (x.device e);
}

-- what a storage's flush is refused for, the copy's may be
pub copy_flush_refused : (v : View ℕ) → (v.limits.no_memory Flush 0 0 → ⊥) → (result : Result Unit Error) → IfErr result IsDeviceOrMemory → IfErr result (allowed (driver_reasons v Flush 0 0))
copy_flush_refused v takes (Ok x) h = tt
copy_flush_refused v takes (Err e) h = ⊎_elim (λ device. rw device tt) (λ memory. rw memory takes) h
