-- SPDX-License-Identifier: MIT
use Rattle.std.proofs.Common.{◌≡◌, ℕ, ◌+◌, ◌-◌, ◌*◌, ◌/◌, ◌<◌, ◌≤◌, ◌⊎◌, ⊎_elim, inl, inr, Bool, true, false, List, length, Option, Some, None, refl, sym, ap, ◌∙◌, arith, Result, Ok, Err, nat_lt}
use Rattle.std.specs.Prelude.{slice_index, slice_get, is_none, IsTrue, IfErr, IsErrOf}
use Rattle.std.proofs.lemmas.Bool.{cases_lt}
use Rattle.std.proofs.lemmas.Bool.Decides.{nat_tests}
use Rattle.std.proofs.lemmas.Nat.{div-add-mod'}
use Rattle.imago_storage.specs.declared.error.Error.{Error}
use Rattle.imago_storage.specs.Error.{IsDeviceOrMemory, IsExtRefusal}
use Rattle.imago_storage.specs.Faults.{CountsFaults}
use Rattle.imago_storage.specs.Features.{Features, IsAlignedRequest, MayRunOut}
use Rattle.imago_storage.specs.Padding.{Wraps}
use Rattle.imago_drivers.specs.Operation.{Write, Flush}
use Rattle.imago_drivers.specs.Place.{Value, Byte, shown, values, SamePlaces}
use Rattle.imago_drivers.specs.Causes.{IsSettled, IsOnRange}
use Rattle.imago_drivers.specs.Reasons.{allowed}
use Rattle.imago_drivers.specs.Done.{driver_reasons, mapping_write_reasons}
use Rattle.imago_drivers.specs.Frame.{IsFramed, IsUnchanged, ReachesNoMore}
use Rattle.imago_drivers.specs.Ranges.{HasBytes}
use Rattle.imago_drivers.specs.Pending.{Pending, IsOwn, ShowsRound}
use Rattle.imago_drivers.specs.Prepared.{IsFor, is_for, IsPutApart, is_foreign, is_written}
use Rattle.imago_drivers.specs.Changes.{or_torn, into}
use Rattle.imago_drivers.specs.View.{View}
use Rattle.imago_drivers.specs.Laws.{AreCauses}
use Rattle.imago_drivers.specs.Commit.{IsCommit, is_committed}
use Rattle.imago_drivers.specs.declared.mapping.PreparedDataMapping.{PreparedDataMapping}
use Rattle.imago_drivers.specs.declared.mapping.Ticket.{Ticket}
use Rattle.imago_cow.specs.declared.table.GuestBlock.{GuestBlock}
use Rattle.imago_cow.specs.declared.cow.Waiting.{Waiting}
use Rattle.imago_cow.specs.Guest.{Covers, entry_place, cow_place, is_data}
use Rattle.imago_cow.specs.GuestLaws.{place_in, place_out, rest_small, same_block}
use Rattle.imago_cow.specs.Cow.{cow_view, cow_cause, cow_copies, cow_pending, WaitsApart, waiting_byte, waiting_from, data_count, IsDirect}
use Rattle.imago_cow.specs.CowLaws.{from_size, lower_place, cow_causes}
use Rattle.imago_cow.proofs.DirectSteps.{not_direct, direct_request}
use Rattle.imago_cow.proofs.WholeSteps.{times_more}
use Rattle.imago_cow.proofs.PrepareSteps.{pending_of, same_places}

-- Bytes of the storage may have changed, and nothing else.
module _ (f g : Features) (count now_count : ℕ) (old new : List ℕ) (size block : ℕ) (entries : List GuestBlock) (blocks : ℕ) (v : Option Waiting) (positive : 0 < block) (covers : Covers size block entries) (same : g ≡ f) where
  pub bytes_framed : (w : Option Waiting) → IsFramed (cow_view f count old size block entries blocks v) (cow_view g now_count new size block entries blocks w)
  bytes_framed w = rw same (record {
    kind = record { abilities = refl; store_count = refl; store_features = λ i. refl };
    size = refl;
    ends = λ p e. place_out old size block entries p (from_size new size block entries positive covers p e);
  })

  pub bytes_reaches : (w : Option Waiting) → ReachesNoMore (cow_view f count old size block entries blocks v) (cow_view g now_count new size block entries blocks w)
  bytes_reaches w p q u e = let x = lower_place new size block entries p q u e in
      (u, place_in old size block entries p (x.0) ∙ ap (entry_place old block p) (x.1) ∙ sym (ap (entry_place new block p) (x.1)) ∙ sym (place_in new size block entries p (x.0)) ∙ e)

  pub bytes_settled : (a b : ℕ) → IsSettled IsOnRange (cow_cause f block size entries blocks v) (cow_cause g block size entries blocks v) (cow_copies block size entries) (cow_copies block size entries) a b
  bytes_settled a b =
      let laws = cow_causes f count old size block entries blocks v in
      rw same (record { causes = λ op c n q m e t h i j k x. laws.part op c n q m e j k x; copied = λ op c n q m p t h i j k x. laws.part_copied op c n q m p j k x })

-- a call that changes no byte changes no place
pub same_bytes : (f g : Features) (count now_count : ℕ) (old new : List ℕ) (size block : ℕ) (entries : List GuestBlock) (blocks : ℕ) (v : Option Waiting) → new ≡ old → g ≡ f
    → IsUnchanged (cow_view f count old size block entries blocks v) (cow_view g now_count new size block entries blocks v)
same_bytes f g count now_count old new size block entries blocks v e h = rw (e, h) (record {
  framed = record { kind = record { abilities = refl; store_count = refl; store_features = λ i. refl }; size = refl; ends = λ p x. x };
  places = record { stored = λ p b s o w x. (b, x); same = λ k p. refl };
  reaches = λ p q w x. (w, x);
})

-- nothing waits, whatever the storage has
pub still_none : (block size : ℕ) (old new : List ℕ) (v : Option Waiting) → cow_pending block size old v ≡ None → cow_pending block size new v ≡ None
still_none block size old new None e = refl
still_none block size old new (Some w) e = let z : ⊥ = cc in absurd z

pub none_waits : (block size : ℕ) (old : List ℕ) (v : Option Waiting) → cow_pending block size old v ≡ None → v ≡ None
none_waits block size old None e = refl
none_waits block size old (Some w) e = let z : ⊥ = cc in absurd z

-- the mapping that waits is no foreign one, and has a state
pub own_is_known : {St : Type 0} (p : Option (Pending St)) (m : PreparedDataMapping St) (st : Option St) → m.state ≡ st → IsOwn p m → is_foreign p m st → ⊥
own_is_known p m None e own f = f
own_is_known p m (Some s) e own f = f own

pub own_has_state : {St : Type 0} (p : Option (Pending St)) (m : PreparedDataMapping St) → IsOwn p m → m.state ≡ None → ⊥
own_has_state None m own e = own
own_has_state (Some q) m own e = let x = own.3 in let z : ⊥ = cc in z

-- the count of faults of a storage's call is that of the driver's
pub storage_faults : {T : Type 0} (count now_count faults : ℕ) (reliable : Bool) (result : Result T Error) → CountsFaults reliable count now_count result → CountsFaults reliable (count + faults) (now_count + faults) result
storage_faults count now_count faults reliable result x = record {
  later = omega (arith, x.later);
  reliable = λ e. ap (λ i. i + faults) (x.reliable e);
  device = λ e. ⊎_elim (λ a. inl (omega (arith, a))) (λ a. inr (omega (arith, a))) (x.device e);
}

-- what a storage's flush is refused for, the driver's may be
pub flush_refused : (v : View Ticket) (result : Result Unit Error) → (IsErrOf result Error.Memory → v.limits.no_memory Flush 0 0 → ⊥) → IfErr result IsDeviceOrMemory → IfErr result (allowed (driver_reasons v Flush 0 0))
flush_refused v (Ok x) takes h = tt
flush_refused v (Err e) takes h = ⊎_elim (λ device. rw device tt) (λ memory. rw memory (takes (ap (λ x. Err x) memory))) h

-- a mapping with no state is committed by doing nothing
no_foreign : {St : Type 0} (p : Option (Pending St)) (m : PreparedDataMapping St) (st : Option St) → st ≡ None → is_foreign p m st → ⊥
no_foreign p m None e f = f
no_foreign p m (Some s) e f = let z : ⊥ = cc in z

nothing_done : {St : Type 0} (pending : Option (Pending St)) (st : Option St) (torn : Bool) (v : View St) → st ≡ None → is_committed pending st torn v v
nothing_done pending None torn v e = record { stored = λ p b s f w x. (b, x); same = λ k p. refl }
nothing_done pending (Some s) torn v e = let z : ⊥ = cc in absurd z

pub commit_nothing : {Self St : Type 0} (view : Self → View St) (d : Self) (m : PreparedDataMapping St) → m.state ≡ None → AreCauses (view d) → IsCommit view d d m (Ok tt)
commit_nothing view d m e laws = record {
  foreign = (λ x. let z : ⊥ = cc in absurd z, λ x. absurd (no_foreign (view d).pending m m.state e x));
  untouched = λ x. refl;
  done = nothing_done (view d).pending m.state false (view d) e;
  torn = λ x. tt;
  own_spent = λ own. absurd (own_has_state (view d).pending m own e);
  others_stay = λ x. refl;
  reaches = λ p q w x. (w, x);
  settled = λ o x. record { causes = λ op a n q k r t h i j l c. laws.part op a n q k r j l c; copied = λ op a n q k p t h i j l c. laws.part_copied op a n q k p j l c };
  lengths = record { no_shorter = λ i. omega arith; no_longer = λ i. omega arith };
  framed = record { kind = record { abilities = refl; store_count = refl; store_features = λ i. refl }; size = refl; ends = λ p x. x };
  faults = record { later = omega arith; reliable = λ x. refl; device = λ x. let z : ⊥ = cc in absurd z };
  refusals = tt;
  outside = record { stored = λ p b s f w n x. (b, x); same = λ k p n. refl };
}

not_ext : {e : Error} → IsExtRefusal e → (e ≡ Error.WrapAround → ⊥) → (e ≡ Error.Device → ⊥) → (e ≡ Error.Memory → ⊥) → ⊥
not_ext h w d m = ⊎_elim w (λ k. ⊎_elim d m k) h

-- a write into a mapping whose bytes lie in the data blocks
pub mapping_refused : (f : Features) (count : ℕ) (bytes : List ℕ) (size block : ℕ) (entries : List GuestBlock) (blocks : ℕ) (v : Option Waiting) (m : PreparedDataMapping Ticket) (at n : ℕ) (r : Result Unit Error)
    → IfErr r IsExtRefusal → (IsErrOf r Error.WrapAround → Wraps f (m.offset + at) n) → m.offset + at + n ≤ blocks * block
    → (IsErrOf r Error.Memory → (o : ℕ) → IsFor (cow_view f count bytes size block entries blocks v) m at n o → IsDirect f f.write_memory (length bytes) block entries o n → ⊥) → IfErr r (allowed (mapping_write_reasons (cow_view f count bytes size block entries blocks v) m at n))
mapping_refused f count bytes size block entries blocks v m at n (Ok x) only wraps inside takes = tt
mapping_refused f count bytes size block entries blocks v m at n (Err e) only wraps inside takes = ⊎_elim
    (λ w. rw w (
      refl,
      λ o q.
          let t : blocks * block ≤ data_count block size entries blocks v Write o n * block = times_more block blocks (data_count block size entries blocks v Write o n) (omega arith) in
          (refl, record { from = m.offset + at; count = n; above = omega arith; below = omega (arith, inside, t); wraps = wraps (ap (λ x. Err x) w) }),
      wraps (ap (λ x. Err x) w),
    ))
    (λ k. ⊎_elim (λ d. rw d tt) (λ y. rw y (takes (ap (λ x. Err x) y))) k) only

-- A refusal for want of memory of a write into a mapping whose places stand in data blocks.
pub existing_takes : (f : Features) (count : ℕ) (bytes : List ℕ) (size block : ℕ) (entries : List GuestBlock) (blocks : ℕ) (v : Option Waiting) (m : PreparedDataMapping Ticket) (st : Option Ticket) (at n o : ℕ)
    → is_none st ≡ true → 0 < n → (IsAlignedRequest f (m.offset + at) n → MayRunOut f.write_memory (length bytes) (m.offset + at + n))
    → is_for (cow_view f count bytes size block entries blocks v) m st at n o → IsDirect f f.write_memory (length bytes) block entries o n → ⊥
existing_takes f count bytes size block entries blocks v m None at n o stateless some memory stands d =
    let q = direct_request f f.write_memory (length bytes) block entries o n bytes size m.storage (m.offset + at) some stands d in (q.1) (memory (q.0))
existing_takes f count bytes size block entries blocks v m (Some s) at n o stateless some memory stands d = let z : ⊥ = cc in z

-- The places of the mapping that waits stand in no data block yet.
pub waiting_takes : (f : Features) (count : ℕ) (bytes : List ℕ) (size block : ℕ) (entries : List GuestBlock) (blocks : ℕ) (w : Waiting) (m : PreparedDataMapping Ticket) (at n o : ℕ)
    → 0 < block → WaitsApart block size entries blocks w → m.state ≡ Some w.state → 0 < n → at + n ≤ w.length
    → IsFor (cow_view f count bytes size block entries blocks (Some w)) m at n o → IsDirect f f.write_memory (length bytes) block entries o n → ⊥
waiting_takes f count bytes size block entries blocks w m at n o positive apart state some inside is_for_it d =
    let x : is_for (cow_view f count bytes size block entries blocks (Some w)) m (Some w.state) at n o = rw state at is_for_it in
    let from : w.start ≡ x.0.start = let e = x.1 in let y : pending_of block size bytes w ≡ x.0 = cc in ap (λ p. p.start) y in
    let starts : o ≡ w.start + at = omega (arith, x.2, from) in
    let same : o / block ≡ w.start / block = ap (λ i. i / block) starts ∙ same_block block positive w.start (w.start + at) (omega arith) (omega (arith, apart.in_block, inside, some, rest_small block positive w.start)) in
    not_direct f f.write_memory (length bytes) block entries o n (ap (λ i. is_data (slice_get entries i)) same ∙ apart.free) d

-- no request is refused as a foreign mapping
pub not_foreign : {T : Type 0} (r : Result T Error) → IfErr r IsExtRefusal → IsErrOf r Error.ForeignMapping → ⊥
not_foreign r h e =
    let x : IsExtRefusal Error.ForeignMapping = rw e at h in
    not_ext x (λ a. let z : ⊥ = cc in z) (λ a. let z : ⊥ = cc in z) (λ a. let z : ⊥ = cc in z)

-- The write that waits is written: its bytes in the data block change, and nothing shows it.
module _ (f : Features) (count now_count : ℕ) (old new : List ℕ) (size block : ℕ) (entries : List GuestBlock) (blocks : ℕ) (w : Waiting) (positive : 0 < block) (covers : Covers size block entries) (apart : WaitsApart block size entries blocks w)
    (at : ℕ) (xs : List ℕ) (inside : at + length xs ≤ w.length) (torn : Bool) where
  abbrev Put : Type 0
  Put = HasBytes torn (w.offset + at) (length xs) (λ k. slice_index xs k) old new

  pub waits_index : (bytes : List ℕ) (p : ℕ) → waiting_from block w ≤ p → waiting_byte block bytes w p ≡ slice_index bytes (w.offset + p - w.start)
  waits_index bytes p h = let t : nat_lt p (waiting_from block w) ≡ false = grind (arith, nat_tests) in rw t refl

  -- a byte that waits outside what is written stays
  waits_outside : Put → (p : ℕ) → (p < w.start + at) ⊎ (w.start + at + length xs ≤ p) → waiting_byte block new w p ≡ waiting_byte block old w p
  waits_outside put p out = ⊎_elim
      (λ early. let t : nat_lt p (waiting_from block w) ≡ true = grind (arith, nat_tests) in rw t refl)
      (λ from. waits_index new p from ∙ ⊎_elim
      (λ b. put.before (w.offset + p - w.start) (omega (arith, b, from, apart.offset, div-add-mod' w.start block)))
      (λ b. put.behind (w.offset + p - w.start) (omega (arith, b)))
      out ∙ sym (waits_index old p from))
      (cases_lt p (waiting_from block w))

  unnamed : Put → (x : ℕ) → (x < w.number * block) ⊎ (w.number * block + block ≤ x) → slice_index new x ≡ slice_index old x
  unnamed put x out = ⊎_elim (λ a. put.before x (omega (arith, a, apart.offset))) (λ a. put.behind x (omega (arith, a, apart.offset, apart.in_block, inside))) out

  pub places_stay : (keeps : Bool) → (IsTrue keeps → Put) → SamePlaces keeps (cow_place old size block entries) (cow_place new size block entries)
  places_stay keeps put = same_places f count now_count old new size block entries blocks blocks w positive covers apart (omega arith) keeps (λ k. unnamed (put k))

  put_apart : Put → IsPutApart (pending_of block size old w) (pending_of block size new w) at (length xs) (or_torn torn (into xs))
  put_apart put = record {
    same = refl;
    changed = record {
      inside = λ k h.
          let from : waiting_from block w ≤ w.start + at + k = omega arith in
          let e : w.offset + (w.start + at + k) - w.start ≡ w.offset + at + k = omega arith in
          let a : waiting_byte block new w (w.start + at + k) ≡ slice_index new (w.offset + at + k) = waits_index new (w.start + at + k) from ∙ ap (slice_index new) e in
          let b : waiting_byte block old w (w.start + at + k) ≡ slice_index old (w.offset + at + k) = waits_index old (w.start + at + k) from ∙ ap (slice_index old) e in
          ⊎_elim (λ x. inl (ap (λ y. Byte y) (a ∙ x))) (λ x. inr (x.0, ap (λ y. Byte y) (a ∙ x.1 ∙ sym b))) (put.inside k h);
      before = λ p h. ap (λ y. Byte y) (waits_outside put p (inl h));
      behind = λ p h. ap (λ y. Byte y) (waits_outside put p (inr h));
    };
  }

  pub written_apart : (m : PreparedDataMapping Ticket) (st : Option Ticket) → st ≡ Some w.state → (IsTrue f.keeps_data → Put)
      → is_written st torn (cow_view f count old size block entries blocks (Some w)) (cow_view f now_count new size block entries blocks (Some w)) m at xs
  written_apart m None e put = let z : ⊥ = cc in absurd z
  written_apart m (Some s) e put = (
    places_stay f.keeps_data put,
    λ q is. let a : pending_of block size old w ≡ q = cc in
        rw (← a) (pending_of block size new w, refl, refl, λ k. put_apart (put k)),
  )

  pub round_stays : (IsTrue f.keeps_data → Put) → IsTrue f.keeps_data → (below : ℕ → Value) → ShowsRound (values below (cow_place old size block entries)) (cow_pending block size old (Some w))
      → ShowsRound (values below (cow_place new size block entries)) (cow_pending block size new (Some w))
  round_stays put k below round p x y out =
      ap (shown below) ((places_stay f.keeps_data put).same k p) ∙ round p x y out ∙ ap (λ b. Byte b) (sym (waits_outside (put k) p (⊎_elim (λ a. inl (omega (arith, a))) (λ a. inr (omega (arith, a, inside))) out)))
