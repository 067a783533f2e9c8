-- SPDX-License-Identifier: MIT
use Rattle.std.proofs.Common.{◌≡◌, ℕ, ◌+◌, ◌-◌, ◌*◌, ◌/◌, ◌<◌, ◌≤◌, ⊎_elim, inl, inr, Bool, true, List, length, Option, Some, None, refl, sym, ap, ◌∙◌, arith, Result, Ok, Err}
use Rattle.std.specs.Prelude.{slice_get, slice_index, IsTrue, IfErr, OnOk, OnErr, IsErrOf}
use Rattle.std.proofs.lemmas.Bool.{cases_lt}
use Rattle.imago_storage.specs.declared.error.Error.{Error}
use Rattle.imago_storage.specs.declared.error.Error.TheVariants as E
use Rattle.imago_storage.specs.Error.{IsExtRefusal}
use Rattle.imago_storage.specs.Features.{Features}
use Rattle.imago_storage.specs.Padding.{Wraps}
use Rattle.imago_drivers.specs.Operation.{Operation}
use Rattle.imago_drivers.specs.Place.{Stored, PlacesStandAt}
use Rattle.imago_drivers.specs.Prepared.{IsPut}
use Rattle.imago_drivers.specs.Ranges.{HasBytes}
use Rattle.imago_drivers.specs.Reasons.{allowed, none}
use Rattle.imago_cow.specs.declared.table.GuestBlock.{GuestBlock}
use Rattle.imago_cow.specs.declared.table.GuestBlock.TheVariants as G
use Rattle.imago_cow.specs.declared.cow.Waiting.{Waiting}
use Rattle.imago_cow.specs.Guest.{origin_in, entry_place, cow_place}
use Rattle.imago_cow.specs.GuestLaws.{place_in, place_out}
use Rattle.imago_cow.specs.Cow.{cow_cause, uses_data, data_count}
use Rattle.imago_cow.specs.CowLaws.{stored_place}
use Rattle.imago_cow.proofs.WholeSteps.{times_more}
use Rattle.imago_cow.proofs.MapSteps.{stands_within}

-- an entry's place whose byte stays is as it was
same_entry : (old new : List ℕ) (block p : ℕ) (entry : Option GuestBlock) → ((j : ℕ) → entry ≡ Some (GuestBlock.Data j) → slice_index new (origin_in block j p) ≡ slice_index old (origin_in block j p)) → entry_place new block p entry ≡ entry_place old block p entry
same_entry old new block p None h = refl
same_entry old new block p (Some G.Absent) h = refl
same_entry old new block p (Some G.Zero) h = refl
same_entry old new block p (Some (G.Data j)) h = ap (λ b. Stored b 0 (origin_in block j p) true) (h j refl)

module _ (size block : ℕ) (entries : List GuestBlock) (old new : List ℕ) where
  pub same_stored : (p : ℕ) → ((b s o : ℕ) (w : Bool) → cow_place old size block entries p ≡ Stored b s o w → slice_index new o ≡ slice_index old o) → cow_place new size block entries p ≡ cow_place old size block entries p
  same_stored p h = ⊎_elim
      (λ under. place_in new size block entries p under ∙ same_entry old new block p (slice_get entries (p / block))
      (λ j e. h (slice_index old (origin_in block j p)) 0 (origin_in block j p) true (place_in old size block entries p under ∙ ap (entry_place old block p) e))
      ∙ sym (place_in old size block entries p under))
      (λ over. place_out new size block entries p over ∙ sym (place_out old size block entries p over))
      (cases_lt p size)

  -- a stored place stands where it stood, with the storage's byte
  pub stays_stored : (p b s o : ℕ) (w : Bool) → cow_place old size block entries p ≡ Stored b s o w → cow_place new size block entries p ≡ Stored (slice_index new o) s o w
  stays_stored p b s o w e =
      let x = stored_place old size block entries p b s o w e in
      let y = x.1 in
      place_in new size block entries p (x.0) ∙ ap (entry_place new block p) y.named
      ∙ ap (λ i. Stored (slice_index new i) 0 i true) (sym y.offset) ∙ ap (λ i. Stored (slice_index new o) i o true) (sym y.storage) ∙ ap (λ i. Stored (slice_index new o) s o i) (sym y.writable)

  -- bytes that change in the storage change in the disk
  pub cow_put : (torn keeps : Bool) (o : ℕ) (xs : List ℕ) → (IsTrue keeps → HasBytes torn o (length xs) (λ k. slice_index xs k) old new) → IsPut 0 o xs torn keeps (cow_place old size block entries) (cow_place new size block entries)
  cow_put torn keeps o xs h = record {
    stored = λ p b s f w e. (slice_index new f, stays_stored p b s f w e);
    hit = λ kp p b k w lt e. ⊎_elim
        (λ a. inl (stays_stored p b 0 (o + k) w e ∙ ap (λ i. Stored i 0 (o + k) w) a))
        (λ a. inr (a.0, same_stored p (λ b' s' o' w' e'. let x : Stored b 0 (o + k) w ≡ Stored b' s' o' w' = sym e ∙ e' in let y : o + k ≡ o' = cc in rw y at (a.1))))
        ((h kp).inside k lt);
    miss = λ kp p non. same_stored p (λ b s f w e. ⊎_elim
        (λ under. (h kp).before f under)
        (λ above. ⊎_elim
        (λ inside. let q : f ≡ o + (f - o) = omega arith in let l : f - o < length xs = omega arith in
        let x = (stored_place old size block entries p b s f w e).1 in
        absurd (non b (f - o) w l (e ∙ ap (λ i. Stored b i f w) x.storage ∙ ap (λ i. Stored b 0 i w) q)))
        (λ beyond. (h kp).behind f beyond)
        (cases_lt f (o + length xs)))
        (cases_lt f o));
  }

pub on_ok : {T E : Type 0} (r : Result T E) {P : Type 0} → ((x : T) → r ≡ Ok x → P) → OnOk r P
on_ok (Ok x) h = h x refl
on_ok (Err e) h = tt

pub on_err : {T E : Type 0} (r : Result T E) {P : Type 0} → ((e : E) → r ≡ Err e → P) → OnErr r P
on_err (Ok x) h = tt
on_err (Err e) h = h e refl

pub ok_holds : {T E : Type 0} {r : Result T E} {P : Type 0} (x : T) → r ≡ Ok x → OnOk r P → P
ok_holds x e h = rw e at h

pub err_holds : {T E : Type 0} {r : Result T E} {P : Type 0} (x : E) → r ≡ Err x → OnErr r P → P
err_holds x e h = rw e at h

-- a refusal of a request is none of the others
not_ext : {e : Error} → IsExtRefusal e → (e ≡ Error.WrapAround → ⊥) → (e ≡ Error.Device → ⊥) → (e ≡ Error.Memory → ⊥) → ⊥
not_ext h w d m = ⊎_elim w (λ k. ⊎_elim d m k) h

-- Why a request at the storage was refused, as one on the places that stand there: D is what a failed device means, and `free` when
-- one on places from an offset on takes no memory.
pub request_refused : (f : Features) (bytes : List ℕ) (size block : ℕ) (entries : List GuestBlock) (blocks : ℕ) (waiting : Option Waiting) (op : Operation) (s at n : ℕ) (D : Type 0) (r : Result Unit Error) (free : ℕ → Type 0)
    → (IsErrOf r Error.Memory → (x : ℕ) → PlacesStandAt (cow_place bytes size block entries) s at n x → free x → ⊥)
    → 0 < block → ((i j : ℕ) → slice_get entries i ≡ Some (GuestBlock.Data j) → j < blocks) → uses_data op ≡ true
    → IfErr r IsExtRefusal → (IsErrOf r Error.Device → D) → (IsErrOf r Error.WrapAround → Wraps f at n)
    → IfErr r (allowed record none {
      cause = λ e. (e ≡ Error.WrapAround) × ((x : ℕ) → PlacesStandAt (cow_place bytes size block entries) s at n x → cow_cause f block size entries blocks waiting op x n e) × Wraps f at n;
      device = D;
      memory = (x : ℕ) → PlacesStandAt (cow_place bytes size block entries) s at n x → free x → ⊥;
    })
request_refused f bytes size block entries blocks waiting op s at n D (Ok u) free takes positive known uses only device wraps = tt
request_refused f bytes size block entries blocks waiting op s at n D (Err E.WrapAround) free takes positive known uses only device wraps =
    let w = wraps refl in (
      refl,
      λ x q.
          let h = stands_within bytes size block entries blocks s at n x positive known (w.0) q in
          let m : blocks * block ≤ data_count block size entries blocks waiting op x n * block = times_more block blocks (data_count block size entries blocks waiting op x n) (omega arith) in
          (uses, record { from = at; count = n; above = omega arith; below = omega (arith, h, m); wraps = w }),
      w,
    )
request_refused f bytes size block entries blocks waiting op s at n D (Err E.Device) free takes positive known uses only device wraps = device refl
request_refused f bytes size block entries blocks waiting op s at n D (Err E.Memory) free takes positive known uses only device wraps = takes refl
request_refused f bytes size block entries blocks waiting op s at n D (Err E.ReadOnly) free takes positive known uses only device wraps = absurd (not_ext only (λ a. let z : ⊥ = cc in z) (λ a. let z : ⊥ = cc in z) (λ a. let z : ⊥ = cc in z))
request_refused f bytes size block entries blocks waiting op s at n D (Err E.BeyondDisk) free takes positive known uses only device wraps = absurd (not_ext only (λ a. let z : ⊥ = cc in z) (λ a. let z : ⊥ = cc in z) (λ a. let z : ⊥ = cc in z))
request_refused f bytes size block entries blocks waiting op s at n D (Err E.RangeOverflow) free takes positive known uses only device wraps = absurd (not_ext only (λ a. let z : ⊥ = cc in z) (λ a. let z : ⊥ = cc in z) (λ a. let z : ⊥ = cc in z))
request_refused f bytes size block entries blocks waiting op s at n D (Err E.InvalidData) free takes positive known uses only device wraps = absurd (not_ext only (λ a. let z : ⊥ = cc in z) (λ a. let z : ⊥ = cc in z) (λ a. let z : ⊥ = cc in z))
request_refused f bytes size block entries blocks waiting op s at n D (Err E.Unsupported) free takes positive known uses only device wraps = absurd (not_ext only (λ a. let z : ⊥ = cc in z) (λ a. let z : ⊥ = cc in z) (λ a. let z : ⊥ = cc in z))
request_refused f bytes size block entries blocks waiting op s at n D (Err E.NoAccess) free takes positive known uses only device wraps = absurd (not_ext only (λ a. let z : ⊥ = cc in z) (λ a. let z : ⊥ = cc in z) (λ a. let z : ⊥ = cc in z))
request_refused f bytes size block entries blocks waiting op s at n D (Err E.ForeignMapping) free takes positive known uses only device wraps = absurd (not_ext only (λ a. let z : ⊥ = cc in z) (λ a. let z : ⊥ = cc in z) (λ a. let z : ⊥ = cc in z))
request_refused f bytes size block entries blocks waiting op s at n D (Err E.Denied) free takes positive known uses only device wraps = absurd (not_ext only (λ a. let z : ⊥ = cc in z) (λ a. let z : ⊥ = cc in z) (λ a. let z : ⊥ = cc in z))
request_refused f bytes size block entries blocks waiting op s at n D (Err E.NotFound) free takes positive known uses only device wraps = absurd (not_ext only (λ a. let z : ⊥ = cc in z) (λ a. let z : ⊥ = cc in z) (λ a. let z : ⊥ = cc in z))
