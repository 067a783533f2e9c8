-- SPDX-License-Identifier: MIT
use Rattle.std.proofs.Common.{◌≡◌, ℕ, ◌+◌, ◌-◌, ◌<◌, ◌≤◌, ◌⊎◌, ⊎_elim, inl, inr, Bool, true, false, List, length, Option, Some, None, refl, sym, ap, ◌∙◌, arith, Result, Ok, Err}
use Rattle.std.specs.Prelude.{slice_index, is_none, IsTrue, IfErr, IsOk, OnOk, OnErr, IsErrOf}
use Rattle.std.proofs.lemmas.Bool.{cases_lt}
use Rattle.imago_storage.specs.declared.error.Error.{Error}
use Rattle.imago_storage.specs.Error.{IsExtRefusal}
use Rattle.imago_storage.specs.declared.error.Error.TheVariants as E
use Rattle.imago_storage.specs.Features.{Features, MemoryUse, IsAlignedRequest, MayRunOut}
use Rattle.imago_storage.specs.Padding.{Wraps}
use Rattle.imago_drivers.specs.Operation.{Operation, Read}
use Rattle.imago_drivers.specs.Reasons.{none, allowed}
use Rattle.imago_drivers.specs.declared.mapping.PreparedDataMapping.{PreparedDataMapping}
use Rattle.imago_drivers.specs.Place.{Stored, PlacesStandAt, BytesAreWritable, HasStranger}
use Rattle.imago_drivers.specs.View.{View}
use Rattle.imago_drivers.specs.Pending.{StaysPending}
use Rattle.imago_drivers.specs.Prepared.{IsPut, is_for, is_foreign_write, is_written}
use Rattle.imago_drivers.specs.Raw.{raw_place, raw_cause, RequestWraps}
use Rattle.imago_drivers.specs.Ranges.{HasBytes}
use Rattle.imago_drivers.specs.RawLaws.{raw_in, raw_out, raw_stored}

module _ (size : ℕ) (old new : List ℕ) where
  pub same_place : (p : ℕ) → slice_index new p ≡ slice_index old p
      → raw_place size new p ≡ raw_place size old p
  same_place p e = ⊎_elim
      (λ below. raw_in size new p below ∙ ap (λ b. Stored b 0 p true) e ∙ sym (raw_in size old p below))
      (λ above. raw_out size new p above ∙ sym (raw_out size old p above))
      (cases_lt p size)

  pub stays_stored : (p b s f : ℕ) (w : Bool) → raw_place size old p ≡ Stored b s f w → (c : ℕ) × (raw_place size new p ≡ Stored c s f w)
  stays_stored p b s f w e = let x = raw_stored size old p b s f w e in
      (slice_index new p, raw_in size new p (x.0) ∙ ap (λ i. Stored (slice_index new p) i p true) (sym (x.1)) ∙ ap (λ i. Stored (slice_index new p) s i true) (x.2) ∙ ap (λ i. Stored (slice_index new p) s f i) (sym (x.4)))

  -- bytes that change in the storage change in the image
  pub raw_put : (torn keeps : Bool) (o : ℕ) (xs : List ℕ) → (IsTrue keeps → HasBytes torn o (length xs) (λ k. slice_index xs k) old new) → IsPut 0 o xs torn keeps (raw_place size old) (raw_place size new)
  raw_put torn keeps o xs h = record {
    stored = stays_stored;
    hit = λ kp p b k w lt e.
        let x = raw_stored size old p b 0 (o + k) w e in
        let t : p ≡ o + k = x.2 in
        let u : w ≡ true = x.4 in
        ⊎_elim
        (λ a. inl (rw (u, ← t) (raw_in size new p (x.0) ∙ ap (λ i. Stored i 0 p true) (rw (← t) at a))))
        (λ a. inr (a.0, same_place p (rw (← t) at (a.1))))
        ((h kp).inside k lt);
    miss = λ kp p non. ⊎_elim
        (λ below. same_place p ((h kp).before p below))
        (λ above. ⊎_elim
        (λ under. ⊎_elim
        (λ lt. let q : p ≡ o + (p - o) = omega arith in let l : p - o < length xs = omega arith in
        absurd (non (slice_index old p) (p - o) true l (raw_in size old p lt ∙ ap (λ i. Stored (slice_index old p) 0 i true) q)))
        (λ ge. raw_out size new p ge ∙ sym (raw_out size old p ge))
        (cases_lt p size))
        (λ beyond. same_place p ((h kp).behind p beyond))
        (cases_lt p (o + length xs)))
        (cases_lt p o);
  }

-- a mapping names the place that it was asked for
pub raw_first : (size : ℕ) (bytes : List ℕ) (p : ℕ) → p < size → (b : ℕ) × (raw_place size bytes p ≡ Stored b 0 (p + 0) true)
raw_first size bytes p h = let z : p + 0 ≡ p = omega arith in (slice_index bytes p, rw z (raw_in size bytes p h))

-- storage bytes that stand at a place begin at that place
pub raw_at : (size : ℕ) (bytes : List ℕ) (s f n o : ℕ) → 0 < n → PlacesStandAt (raw_place size bytes) s f n o → o ≡ f
raw_at size bytes s f n o h at = let a = at 0 h in let x = raw_stored size bytes (o + 0) (a.0) s (f + 0) (a.1) (a.2) in omega (arith, x.2)

pub raw_within : (size : ℕ) (bytes : List ℕ) (s f n o : ℕ) → 0 < n → PlacesStandAt (raw_place size bytes) s f n o → f + n ≤ size
raw_within size bytes s f n o h at = let a = at (n - 1) (omega arith) in let x = raw_stored size bytes (o + (n - 1)) (a.0) s (f + (n - 1)) (a.1) (a.2) in omega (arith, x.0, x.2)

-- storage bytes of writable places lie inside the disk
pub raw_inside : (size : ℕ) (bytes : List ℕ) (s f n : ℕ) → 0 < n → BytesAreWritable (raw_place size bytes) s f n → f + n ≤ size
raw_inside size bytes s f n h w = let a = w (n - 1) (omega arith) in let x = raw_stored size bytes (a.0) (a.1) s (f + (n - 1)) true (a.2) in omega (arith, x.0, x.2)

pub stranger : (size : ℕ) (bytes : List ℕ) (s f n : ℕ) → 0 < n → ((0 < s) ⊎ (size < f + n)) → HasStranger (raw_place size bytes) s f n
stranger size bytes s f n h c = (n - 1, omega arith, λ p b e. let x = raw_stored size bytes p b s (f + (n - 1)) true e in ⊎_elim (λ a. omega (arith, x.1)) (λ a. omega (arith, x.0, x.2)) c)

pub no_stranger : (size : ℕ) (bytes : List ℕ) (f n : ℕ) → f + n ≤ size → HasStranger (raw_place size bytes) 0 f n → ⊥
no_stranger size bytes f n h s = let i = s.0 in let l : i < n = s.1 in s.2 (f + i) (slice_index bytes (f + i)) (raw_in size bytes (f + i) (omega arith))

-- a mapping with no state, by cases of its state
pub foreign_stateless : {St : Type 0} (v : View St) (m : PreparedDataMapping St) (st : Option St) → is_none st ≡ true → HasStranger v.place m.storage m.offset m.length → is_foreign_write v m st
foreign_stateless v m None e h = inr h
foreign_stateless v m (Some s) e h = let z : ⊥ = cc in absurd z

pub foreign_not : {St : Type 0} (v : View St) (m : PreparedDataMapping St) (st : Option St) → is_none st ≡ true → v.abilities.is_writable ≡ true → (HasStranger v.place m.storage m.offset m.length → ⊥) → is_foreign_write v m st → ⊥
foreign_not v m None e t h i = ⊎_elim (λ a. let z : ⊥ = cc in z) h i
foreign_not v m (Some s) e t h i = let z : ⊥ = cc in absurd z

pub written_stateless : {St : Type 0} (v v' : View St) (m : PreparedDataMapping St) (st : Option St) (torn : Bool) (at : ℕ) (xs : List ℕ) → is_none st ≡ true → StaysPending v.abilities.keeps_data v.pending v'.pending
    → IsPut m.storage (m.offset + at) xs torn v.abilities.keeps_data v.place v'.place → is_written st torn v v' m at xs
written_stateless v v' m None torn at xs e same h = (h, same)
written_stateless v v' m (Some s) torn at xs e same h = let z : ⊥ = cc in absurd z

pub for_stateless : {St : Type 0} (v : View St) (m : PreparedDataMapping St) (st : Option St) (at n o : ℕ) → is_none st ≡ true → is_for v m st at n o → PlacesStandAt v.place m.storage (m.offset + at) n o
for_stateless v m None at n o e h = h
for_stateless v m (Some s) at n o e h = let z : ⊥ = cc in absurd z

-- a refusal of a request is none of the others
not_ext : {e : Error} → IsExtRefusal e → (e ≡ Error.WrapAround → ⊥) → (e ≡ Error.Device → ⊥) → (e ≡ Error.Memory → ⊥) → ⊥
not_ext h w d m = ⊎_elim w (λ k. ⊎_elim d m k) h

-- Why a request at the storage was refused, as a request on places that stand there: P are the places, D what a failed device
-- means, F whether the mapping may be foreign.
pub request_refused : (f : Features) (size len f_at n : ℕ) (op : Operation) (takes : MemoryUse) (P : ℕ → Type 0) (D F : Type 0) (r : Result Unit Error)
    → ((x : ℕ) → 0 < n → P x → x ≡ f_at) → (n ≡ 0 → IsOk r) → IfErr r IsExtRefusal
    → (IsErrOf r Error.Device → D)
    → (IsErrOf r Error.WrapAround → Wraps f f_at n)
    → ((x : ℕ) → 0 < n → P x → Wraps f f_at n → RequestWraps f size op f_at n)
    → (IsErrOf r Error.Memory → IsAlignedRequest f f_at n → MayRunOut takes len (f_at + n))
    → IfErr r (allowed record none {
      cause = λ e. (e ≡ Error.WrapAround) × ((x : ℕ) → P x → raw_cause f size op x n e) × Wraps f f_at n;
      device = D;
      memory = (x : ℕ) → P x → (x + n ≤ size) × IsAlignedRequest f x n × (MayRunOut takes len (x + n) → ⊥) → ⊥;
      foreign_mapping = F;
    })
request_refused f size len at n op takes P D F (Ok u) same empty only device wrapped wraps memory = tt
request_refused f size len at n op takes P D F (Err E.WrapAround) same empty only device wrapped wraps memory =
    (refl, λ x q. ⊎_elim (λ some. let t : x ≡ at = same x some q in record { from = at; count = n; above = omega arith; below = omega arith; wraps = wraps x some q (wrapped refl) }) (λ zero. let i = empty (omega arith) in let z : ⊥ = cc in absurd z) (cases_lt 0 n), wrapped refl)
request_refused f size len at n op takes P D F (Err E.Memory) same empty only device wrapped wraps memory =
    λ x q m. ⊎_elim (λ some. let t : x ≡ at = same x some q in let u = rw t at m in u.2 (memory refl (u.1))) (λ zero. let i = empty (omega arith) in let z : ⊥ = cc in absurd z) (cases_lt 0 n)
request_refused f size len at n op takes P D F (Err E.Device) same empty only device wrapped wraps memory = device refl
request_refused f size len at n op takes P D F (Err E.ReadOnly) same empty only device wrapped wraps memory = absurd (not_ext only (λ a. let z : ⊥ = cc in z) (λ a. let z : ⊥ = cc in z) (λ a. let z : ⊥ = cc in z))
request_refused f size len at n op takes P D F (Err E.BeyondDisk) same empty only device wrapped wraps memory = absurd (not_ext only (λ a. let z : ⊥ = cc in z) (λ a. let z : ⊥ = cc in z) (λ a. let z : ⊥ = cc in z))
request_refused f size len at n op takes P D F (Err E.RangeOverflow) same empty only device wrapped wraps memory = absurd (not_ext only (λ a. let z : ⊥ = cc in z) (λ a. let z : ⊥ = cc in z) (λ a. let z : ⊥ = cc in z))
request_refused f size len at n op takes P D F (Err E.InvalidData) same empty only device wrapped wraps memory = absurd (not_ext only (λ a. let z : ⊥ = cc in z) (λ a. let z : ⊥ = cc in z) (λ a. let z : ⊥ = cc in z))
request_refused f size len at n op takes P D F (Err E.Unsupported) same empty only device wrapped wraps memory = absurd (not_ext only (λ a. let z : ⊥ = cc in z) (λ a. let z : ⊥ = cc in z) (λ a. let z : ⊥ = cc in z))
request_refused f size len at n op takes P D F (Err E.NoAccess) same empty only device wrapped wraps memory = absurd (not_ext only (λ a. let z : ⊥ = cc in z) (λ a. let z : ⊥ = cc in z) (λ a. let z : ⊥ = cc in z))
request_refused f size len at n op takes P D F (Err E.ForeignMapping) same empty only device wrapped wraps memory = absurd (not_ext only (λ a. let z : ⊥ = cc in z) (λ a. let z : ⊥ = cc in z) (λ a. let z : ⊥ = cc in z))
request_refused f size len at n op takes P D F (Err E.Denied) same empty only device wrapped wraps memory = absurd (not_ext only (λ a. let z : ⊥ = cc in z) (λ a. let z : ⊥ = cc in z) (λ a. let z : ⊥ = cc in z))
request_refused f size len at n op takes P D F (Err E.NotFound) same empty only device wrapped wraps memory = absurd (not_ext only (λ a. let z : ⊥ = cc in z) (λ a. let z : ⊥ = cc in z) (λ a. let z : ⊥ = cc in z))

-- a read at the storage
pub read_refused : (f : Features) (size : ℕ) (bytes : List ℕ) (s f_at n : ℕ) (r : Result Unit Error)
    → (n ≡ 0 → IsOk r) → IfErr r IsExtRefusal
    → (IsErrOf r Error.Device → f.is_reliable ≡ false)
    → (IsErrOf r Error.WrapAround → Wraps f f_at n)
    → (IsErrOf r Error.Memory → IsAlignedRequest f f_at n → MayRunOut f.read_memory (length bytes) (f_at + n))
    → IfErr r (allowed record none {
      cause = λ e. (e ≡ Error.WrapAround) × ((x : ℕ) → PlacesStandAt (raw_place size bytes) s f_at n x → raw_cause f size Read x n e) × Wraps f f_at n;
      device = f.is_reliable ≡ false;
      memory = (x : ℕ) → PlacesStandAt (raw_place size bytes) s f_at n x → (x + n ≤ size) × IsAlignedRequest f x n × (MayRunOut f.read_memory (length bytes) (x + n) → ⊥) → ⊥;
      foreign_mapping = ⊥;
    })
read_refused f size bytes s at n r empty only device wraps memory =
    request_refused f size (length bytes) at n Read f.read_memory (λ x. PlacesStandAt (raw_place size bytes) s at n x) (f.is_reliable ≡ false) ⊥ r
    (λ x h q. raw_at size bytes s at n x h q) empty only device wraps (λ x h q w. (raw_within size bytes s at n x h q, w)) memory

pub if_ok : {T E : Type 0} (r : Result T E) {P : Type 0} → ((x : T) → r ≡ Ok x → P) → OnOk r P
if_ok (Ok x) h = h x refl
if_ok (Err e) h = tt

pub if_err : {T E : Type 0} (r : Result T E) {P : Type 0} → ((e : E) → r ≡ Err e → P) → OnErr r P
if_err (Ok x) h = tt
if_err (Err e) h = h e refl

pub ok_of : {T E : Type 0} {r : Result T E} {P : Type 0} (x : T) → r ≡ Ok x → OnOk r P → P
ok_of x e h = rw e at h

pub err_of : {T E : Type 0} {r : Result T E} {P : Type 0} (x : E) → r ≡ Err x → OnErr r P → P
err_of x e h = rw e at h

module _ (size : ℕ) (old new : List ℕ) (keeps : Bool) (o : ℕ) (xs : List ℕ) (r : Result Unit Error) where
  pub raw_put_on_ok : (IsTrue keeps → OnOk r (HasBytes false o (length xs) (λ k. slice_index xs k) old new)) → OnOk r (IsPut 0 o xs false keeps (raw_place size old) (raw_place size new))
  raw_put_on_ok h = if_ok r (λ x e. raw_put size old new false keeps o xs (λ k. ok_of x e (h k)))

  pub raw_put_on_err : (IsTrue keeps → OnErr r (HasBytes true o (length xs) (λ k. slice_index xs k) old new)) → OnErr r (IsPut 0 o xs true keeps (raw_place size old) (raw_place size new))
  raw_put_on_err h = if_err r (λ x e. raw_put size old new true keeps o xs (λ k. err_of x e (h k)))
