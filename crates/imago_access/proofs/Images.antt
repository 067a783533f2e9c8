-- SPDX-License-Identifier: MIT
use Rattle.std.proofs.Common.{◌≡◌, ℕ, ◌+◌, ◌<◌, ◌≤◌, ◌⊎◌, ◌&&◌, inl, inr, ⊎_elim, Bool, true, false, Option, Some, None, List, length, max, refl, sym, ap, ◌∙◌, subst, arith, Box, Global, Result, Ok, Err}
use Rattle.std.specs.Prelude.{IsTrue, IfErr, IfOk, IsOk, OnOk, OnErr, IsErrOf}
use Rattle.std.specs.Option.{option_copied}
use Rattle.imago_storage.specs.Faults.{CountsFaults}
use Rattle.imago_drivers.specs.Frame.{IsKind, IsUnchanged, ReachesNoMore}
use Rattle.imago_drivers.specs.Causes.{Causes, Copies, IsSettled, IsOnRange}
use Rattle.imago_drivers.specs.Done.{lending_reasons, keeps_over}
use Rattle.imago_drivers.specs.Prepared.{IsPrepared}
use Rattle.imago_drivers.specs.declared.mapping.PreparedDataMapping.{PreparedDataMapping}
use Rattle.std.specs.Borrow.{Bor}
use Rattle.imago_storage.specs.declared.error.Error.{Error}
use Rattle.imago_drivers.specs.Operation.{Operation}
use Rattle.imago_drivers.specs.Place.{Value, End, values, shown}
use Rattle.imago_drivers.specs.LayerBelow.{LayerBelow, lent}
use Rattle.imago_drivers.specs.View.{View, Stores}
use Rattle.imago_drivers.specs.Lengths.{GrowTo, AreNoShorter}
use Rattle.imago_drivers.specs.Reasons.{Reasons, allowed}
use Rattle.imago_drivers.specs.Changes.{IsChanged, into, partly, overwritten}
use Rattle.imago_access.specs.Framed.{StaysFramed}
use Rattle.imago_access.specs.declared.access.FormatAccess.{FormatAccess, FormatAccess', out-FormatAccess, out-roll-FormatAccess, rolls-FormatAccess', is-FormatAccess', FormatAccess-F, back-FormatAccess-backing}
use Rattle.imago_access.specs.Chain.{driver, backing, unboxed, disk_value, as_layer_below, lent_image}
use Rattle.imago_access.specs.Lending.{with_driver}
use Rattle.imago_access.specs.Calls.{Overflows, FailsTest, IsLoose, settles, ShowsFaults, IsRangeCall, IsWrite, devices_reliable, IsMappedWrite, IsEnsured, IsPreparing}
use Rattle.imago_access.specs.Writing.{CommitMayTakeMemory, WasPrepared, StandsAlone, HasWrittenAll, HasMapped, filled, shown_length, shown_change}
use Rattle.imago_access.proofs.Chains.{value_out}
use Rattle.imago_drivers.specs.Outside.{StaysOutside}
use Rattle.imago_access.specs.Moves.{MovesWithin}
use Rattle.imago_access.proofs.Moved.{moved_none, moved_outside}

-- what a driver is lent, as the image below
pub lent_is : {D St : Type 0} (view : D → View St) (r : Option (Bor (FormatAccess D))) (b : Option (FormatAccess D)) → option_copied r ≡ b → lent (as_layer_below view) r ≡ lent_image view b
lent_is view None b h = ap (lent_image view) h
lent_is view (Some r) b h = ap (lent_image view) h

ok_more : {T E : Type 0} (r : Result T E) (P Q : T → Type 0) → ((t : T) → P t → Q t) → IfOk r P → IfOk r Q
ok_more (Ok t) P Q f h = f t h
ok_more (Err e) P Q f h = tt

ok_both : {T E : Type 0} (r : Result T E) (P Q R : T → Type 0) → ((t : T) → P t → Q t → R t) → IfOk r P → IfOk r Q → IfOk r R
ok_both (Ok t) P Q R f h k = f t h k
ok_both (Err e) P Q R f h k = tt

pub on_ok : {E : Type 0} (r : Result Unit E) (P : Type 0) → OnOk r P → IfOk r (λ u. P)
on_ok (Ok t) P h = h
on_ok (Err e) P h = tt

err_more : {T E : Type 0} (r : Result T E) (P Q : Type 0) → (P → Q) → OnErr r P → OnErr r Q
err_more (Ok t) P Q f h = tt
err_more (Err e) P Q f h = f h

refusals_more : {T E : Type 0} (r : Result T E) (P Q : E → Type 0) → ((e : E) → P e → Q e) → IfErr r P → IfErr r Q
refusals_more (Ok t) P Q f h = tt
refusals_more (Err e) P Q f h = f e h

module _ {D : Type 0} (x : FormatAccess D) (d : D) where
  pub driver_with : driver (with_driver x d) ≡ d
  driver_with = ap (λ (r : FormatAccess-F D (FormatAccess D)). r.inner) (out-roll-FormatAccess D record { inner = d; backing = (out-FormatAccess D x).backing })

  pub backing_with : backing (with_driver x d) ≡ backing x
  backing_with = ap (λ (r : FormatAccess-F D (FormatAccess D)). unboxed r.backing) (out-roll-FormatAccess D record { inner = d; backing = (out-FormatAccess D x).backing })

-- an image with its own driver is itself
pub with_own_driver : {D : Type 0} (x : FormatAccess D) (d : D) → d ≡ driver x → with_driver x d ≡ x
with_own_driver {D} x d h = ap (with_driver x) h ∙ rolls-FormatAccess' record { inner = driver x; backing = (out-FormatAccess D x).backing } ∙ sym (is-FormatAccess' x)

module _ {D St : Type 0} (view : D → View St) (x : FormatAccess D) (d : D) where
  value_rolled : (b : Option (Box (FormatAccess D) Global)) → disk_value view (FormatAccess' (back-FormatAccess-backing D b) d) ≡ values (lent_image view (unboxed b)).at (view d).place
  value_rolled None = refl
  value_rolled (Some b) = refl

  -- what an image shows with another driver
  pub value_with : disk_value view (with_driver x d) ≡ values (lent_image view (backing x)).at (view d).place
  value_with = ap (disk_value view) (rolls-FormatAccess' record { inner = d; backing = (out-FormatAccess D x).backing }) ∙ value_rolled (out-FormatAccess D x).backing

  pub changed_image : (P : (ℕ → Value) → (ℕ → Value) → Type 0) → P (values (lent_image view (backing x)).at (view (driver x)).place) (values (lent_image view (backing x)).at (view d).place) → P (disk_value view x) (disk_value view (with_driver x d))
  changed_image P h = let a = value_out view x in let b = value_with in rw (a, b) h

pub both_ways : (b : Bool) → b ≡ true → b ≡ false → ⊥
both_ways b x y = let z = sym x ∙ y in cc

-- the tests of a writable driver
abbrev FailsWritableTest : {St : Type 0} → View St → Operation → ℕ → ℕ → Error → Type 0
FailsWritableTest v op o n e =
    ((e ≡ Error.RangeOverflow) × (v.abilities.is_writable ≡ true) × Overflows op o n)
    ⊎ ((e ≡ Error.BeyondDisk) × (v.abilities.is_writable ≡ true) × (Overflows op o n → ⊥) × (v.size < o + n))

then_writable : {St : Type 0} (v : View St) (op : Operation) (o n : ℕ) (e : Error) → FailsWritableTest v op o n e → v.abilities.is_writable ≡ true
then_writable v op o n e f = ⊎_elim (λ a. a.1) (λ a. a.1) f

-- what a test that passed rules out
pub not_failed : {St : Type 0} (v : View St) (op : Operation) (o n : ℕ) → v.abilities.is_writable ≡ true → o + n ≤ v.size → (Overflows op o n → ⊥) → (e : Error) → FailsTest v op o n e → ⊥
not_failed v op o n w fits small e f = ⊎_elim
    (λ a. both_ways v.abilities.is_writable w a.1)
    (λ r. ⊎_elim (λ a. small a.2) (λ a. let x : v.size < o + n = a.3 in omega arith) r)
    f

same_test : {St : Type 0} (v : View St) (op : Operation) (o n : ℕ) (e x : Error) → FailsTest v op o n e → FailsTest v op o n x → e ≡ x
same_test v op o n e x f g = ⊎_elim
    (λ a. ⊎_elim (λ b. a.0 ∙ sym b.0) (λ r. absurd (both_ways v.abilities.is_writable (then_writable v op o n x r) a.1)) g)
    (λ q. ⊎_elim
    (λ b. absurd (both_ways v.abilities.is_writable (then_writable v op o n e q) b.1))
    (λ r. ⊎_elim
    (λ a. ⊎_elim (λ b. a.0 ∙ sym b.0) (λ b. absurd (b.2 a.2)) r)
    (λ a. ⊎_elim (λ b. absurd (a.2 b.2)) (λ b. a.0 ∙ sym b.0) r)
    q)
    g)
    f

-- a test that fails is no failed device
test_device : {St T : Type 0} (v : View St) (op : Operation) (o n : ℕ) (e : Error) → FailsTest v op o n e → IsErrOf {T = T} (Err e) Error.Device → ⊥
test_device v op o n e f h = ⊎_elim (λ a. let x = a.0 in cc) (λ r. ⊎_elim (λ a. let x = a.0 in cc) (λ a. let x = a.0 in cc) r) f

reaches_same : {St : Type 0} (v : View St) → ReachesNoMore v v
reaches_same v = λ p q w h. (w, h)

-- settled for each operation, so for those
settles_for : (op : Operation) (old new : Causes) (c d : Copies) (o n : ℕ) → IsSettled IsOnRange old new c d o n → IsSettled (settles op) old new c d o n
settles_for op old new c d o n s = record {
  causes = λ of a m q k e t. s.causes of a m q k e t.0;
  copied = λ of a m q k p t. s.copied of a m q k p t.0;
}

at_most : (a b : ℕ) → a ≤ max a b
at_most a b = omega arith

-- the lengths of storages that nothing is done to
pub same_lengths : (s : Stores) (longest : ℕ → ℕ) → GrowTo longest s s
same_lengths s longest = record { no_shorter = λ i. omega arith; no_longer = λ i. at_most (length (s.bytes i)) (longest i) }

-- a count of faults that shows each of them
shows_faults : {T : Type 0} (r : Bool) (a b : ℕ) (result : Result T Error) → CountsFaults r a b result → ShowsFaults ⊥ r a b result
shows_faults r a b result h = record { later = h.later; reliable = h.reliable; device = λ e. inl (h.device e) }

module _ {D St T : Type 0} (view : D → View St) (x : FormatAccess D) (op : Operation) (o n : ℕ) (nothing : Type 0) (of : Operation → Type 0) (reasons : Reasons) (hidden : Type 0) (part : T → ℕ) (keeps : Bool) (effect : T → Type 0) (remains : Type 0) where
  -- a call that a test refuses
  pub failed_call : (e : Error) → FailsTest (view (driver x)) op o n e → remains → (view (driver x)).pending ≡ None → IsRangeCall view op o n nothing of reasons hidden part keeps effect remains x x (Err e)
  failed_call e f r p = record {
    tested = λ z g. (ap (λ y. Err y) (same_test (view (driver x)) op o n e z f g), refl);
    idle = λ i passed. absurd (passed e f);
    done = λ k. tt;
    torn = λ k. r;
    reaches = λ l. reaches_same (view (driver x));
    settled = tt;
    same_size = refl;
    ends = λ q h. h;
    no_shorter = λ i. omega arith;
    kept = record { below = refl; kind = record { abilities = refl; store_count = refl; store_features = λ i. refl } };
    nothing_pending = p;
    faults = record { later = omega arith; reliable = λ t. refl; device = λ h. absurd (test_device {T = T} (view (driver x)) op o n e f h) };
    refusals = inl f;
    outside = moved_none op o n (view (driver x));
  }

  -- a call that passed its tests
  pub passed_call : (d : D) (result : Result T Error) → (view (driver x)).abilities.is_writable ≡ true → o + n ≤ (view (driver x)).size → (Overflows op o n → ⊥) → (nothing → IsOk result × (d ≡ driver x))
      → (IsTrue keeps → IfOk result effect) → (IsTrue keeps → OnErr result remains)
      → ((IsLoose op → ⊥) → ReachesNoMore (view (driver x)) (view d))
      → IfOk result (λ r. IsSettled of (view (driver x)).limits.cause (view d).limits.cause (view (driver x)).limits.copies (view d).limits.copies o (part r))
      → StaysFramed (view (driver x)) (view d)
      → MovesWithin op o n (view (driver x)) (view d) → (view d).pending ≡ None
      → ShowsFaults hidden (devices_reliable view x) (view (driver x)).fault_count (view d).fault_count result
      → IfErr result (allowed reasons) → IsRangeCall view op o n nothing of reasons hidden part keeps effect remains x (with_driver x d) result
  passed_call d result w fits small idle done torn reaches settled framed moved spent faults refusals =
      let e : driver (with_driver x d) ≡ d = driver_with x d in
      record {
        tested = λ z g. absurd (not_failed (view (driver x)) op o n w fits small z g);
        idle = λ i passed. ((idle i).0, with_own_driver x d (idle i).1);
        done = done;
        torn = torn;
        reaches = λ l. subst (λ (y : D). ReachesNoMore (view (driver x)) (view y)) (sym e) (reaches l);
        settled = subst (λ (y : D). IfOk result (λ r. IsSettled of (view (driver x)).limits.cause (view y).limits.cause (view (driver x)).limits.copies (view y).limits.copies o (part r))) (sym e) settled;
        same_size = ap (λ (y : D). (view y).size) e ∙ framed.size;
        ends = subst (λ (y : D). (p : ℕ) → (view y).place p ≡ End → (view (driver x)).place p ≡ End) (sym e) framed.ends;
        no_shorter = subst (λ (y : D). AreNoShorter (view (driver x)).stores (view y).stores) (sym e) framed.no_shorter;
        kept = record { below = backing_with x d; kind = subst (λ (y : D). IsKind (view (driver x)) (view y)) (sym e) framed.kind };
        nothing_pending = subst (λ (y : D). (view y).pending ≡ None) (sym e) spent;
        faults = subst (λ (y : D). ShowsFaults hidden (devices_reliable view x) (view (driver x)).fault_count (view y).fault_count result) (sym e) faults;
        refusals = refusals_more result (allowed reasons) _ (λ e h. inr h) refusals;
        outside = subst (λ (y : D). MovesWithin op o n (view (driver x)) (view y)) (sym e) moved;
      }

pub image_write : {D St : Type 0} (view : D → View St) (x : FormatAccess D) (d : D) (o : ℕ) (bytes : List ℕ) (result : Result Unit Error) (l : LayerBelow) → l ≡ lent_image view (backing x)
    → (view (driver x)).abilities.is_writable ≡ true → o + length bytes ≤ (view (driver x)).size → (length bytes ≡ 0 → IsOk result × (d ≡ driver x))
    → HasWrittenAll l (CommitMayTakeMemory view (driver x)) (view (driver x)) (view d) o bytes result → IsWrite view x (with_driver x d) o bytes result
image_write {D} view x d o bytes result l e w fits idle h =
    let k = subst (λ (m : LayerBelow). HasWrittenAll m (CommitMayTakeMemory view (driver x)) (view (driver x)) (view d) o bytes result) e h in
    passed_call view x Operation.Write o (length bytes) _ _ _ _ _ _ _ _ d result w fits (λ z. z) idle
    (λ keeps. on_ok result _ (both result (λ c s. (changed_image view x d (λ a b. IsChanged o (length bytes) (into bytes) a b) c, subst (λ (y : D). StandsAlone (view y).place o (length bytes)) (sym (driver_with x d)) s)) (k.done keeps) k.alone))
    (λ keeps. err_more result _ _ (λ c. changed_image view x d (λ a b. IsChanged o (length bytes) (partly (into bytes)) a b) c) (k.torn keeps))
    (λ z. k.reaches)
    (on_ok result _ (ok_then result (λ s. settles_for Operation.Write _ _ _ _ o (length bytes) s) k.settled))
    k.framed k.outside k.spent (shows_faults _ _ _ result k.faults) k.refusals
  where
    ok_then : {P Q : Type 0} (r : Result Unit Error) → (P → Q) → OnOk r P → OnOk r Q
    ok_then (Ok t) f h = f h
    ok_then (Err e) f h = tt

    both : {P Q R : Type 0} (r : Result Unit Error) → (P → Q → R) → OnOk r P → OnOk r Q → OnOk r R
    both (Ok t) f h k = f h k
    both (Err e) f h k = tt

-- a write through a mapping by the driver, over what it is lent
pub image_mapped : {D St : Type 0} (view : D → View St) (x : FormatAccess D) (d : D) (o n : ℕ) (w : Bool) (bytes : List ℕ) (commit : Bool) (result : Result (ℕ × Bool) Error) (l : LayerBelow) → l ≡ lent_image view (backing x)
    → (view (driver x)).abilities.is_writable ≡ true → o + n ≤ (view (driver x)).size
    → IfOk result (WasPrepared view l.tells_bytes (values l.at (view (driver x)).place) (driver x) o n w)
    → HasMapped l (CommitMayTakeMemory view (driver x)) (view (driver x)) (view d) o n w bytes commit result → IsMappedWrite view x (with_driver x d) o n w bytes commit result
image_mapped {D} view x d o n w bytes commit result l e writable fits told h =
    let k = subst (λ (m : LayerBelow). HasMapped m (CommitMayTakeMemory view (driver x)) (view (driver x)) (view d) o n w bytes commit result) e h in
    record {
      told = subst (λ (f : ℕ → Value). IfOk result (WasPrepared view (lent_image view (backing x)).tells_bytes f (driver x) o n w)) (sym (value_out view x)) (subst (λ (m : LayerBelow). IfOk result (WasPrepared view m.tells_bytes (values m.at (view (driver x)).place) (driver x) o n w)) e told);
      call = passed_call view x Operation.Write o n _ _ _ _ _ _ _ _ d result writable fits (λ z. z) (λ i. absurd i)
          (λ keeps. ok_both result _ _ _ (λ m c s. (changed_image view x d (λ a b. IsChanged o (shown_length commit m) (shown_change w bytes m) a b) c, subst (λ (y : D). StandsAlone (view y).place o (shown_length commit m)) (sym (driver_with x d)) s)) (k.done keeps) k.alone)
          (λ keeps. err_more result _ _ (λ c. changed_image view x d (λ a b. IsChanged o n (partly (filled w bytes)) a b) c) (k.torn keeps))
          (λ z. k.reaches) k.settled k.framed k.outside k.spent (shows_faults _ _ _ result k.faults) k.refusals;
    }

pub failed_mapped : {D St : Type 0} (view : D → View St) (x : FormatAccess D) (o n : ℕ) (w : Bool) (bytes : List ℕ) (commit : Bool) (e : Error) → FailsTest (view (driver x)) Operation.Write o n e → (view (driver x)).pending ≡ None
    → IsMappedWrite view x x o n w bytes commit (Err e)
failed_mapped view x o n w bytes commit e f p = record {
  told = tt;
  call = failed_call view x Operation.Write o n _ _ _ _ _ _ _ _ e f (record { inside = λ k h. inl refl; before = λ q h. refl; behind = λ q h. refl }) p;
}

-- a data mapping by the driver, over what it is lent
pub image_ensured : {D St : Type 0} (view : D → View St) (x : FormatAccess D) (d : D) (o n : ℕ) (w : Bool) (result : Result (ℕ × ℕ × ℕ) Error) (l : LayerBelow) → l ≡ lent_image view (backing x)
    → (view (driver x)).abilities.is_writable ≡ true → o + n ≤ (view (driver x)).size
    → (IsTrue (keeps_over (view (driver x)) l) → IfOk result (λ r. IsChanged o r.2 (overwritten w) (values l.at (view (driver x)).place) (values l.at (view d).place)))
    → (IsTrue (keeps_over (view (driver x)) l) → OnErr result (IsChanged o n (overwritten w) (values l.at (view (driver x)).place) (values l.at (view d).place)))
    → ReachesNoMore (view (driver x)) (view d)
    → IfOk result (λ r. IsSettled IsOnRange (view (driver x)).limits.cause (view d).limits.cause (view (driver x)).limits.copies (view d).limits.copies o r.2)
    → StaysFramed (view (driver x)) (view d)
    → StaysOutside (view (driver x)).abilities.keeps_data (view (driver x)).abilities.block o n
    (view (driver x)).place (view d).place
    → (view d).pending ≡ None
    → CountsFaults ((view (driver x)).abilities.is_reliable && l.is_reliable) (view (driver x)).fault_count (view d).fault_count result
    → IfErr result (allowed (lending_reasons (view (driver x)) l Operation.Write o n)) → IsEnsured view x (with_driver x d) o n w result
image_ensured view x d o n w result l h writable fits done torn reaches settled framed outside spent faults refusals =
    passed_call view x Operation.Write o n _ _ _ _ _ _ _ _ d result writable fits (λ z. z) (λ i. absurd i)
    (λ k. ok_more result _ _ (λ r c. changed_image view x d (λ a b. IsChanged o r.2 (overwritten w) a b) c) (subst (λ (m : LayerBelow). IfOk result (λ r. IsChanged o r.2 (overwritten w) (values m.at (view (driver x)).place) (values m.at (view d).place))) h (done (subst (λ (m : LayerBelow). IsTrue (keeps_over (view (driver x)) m)) (sym h) k))))
    (λ k. err_more result _ _ (λ c. changed_image view x d (λ a b. IsChanged o n (overwritten w) a b) c) (subst (λ (m : LayerBelow). OnErr result (IsChanged o n (overwritten w) (values m.at (view (driver x)).place) (values m.at (view d).place))) h (torn (subst (λ (m : LayerBelow). IsTrue (keeps_over (view (driver x)) m)) (sym h) k))))
    (λ z. reaches)
    (ok_more result _ _ (λ r s. settles_for Operation.Write _ _ _ _ o r.2 s) settled)
    framed (moved_outside Operation.Write o n (view (driver x)) (view d) outside) spent
    (shows_faults _ _ _ result (subst (λ (m : LayerBelow). CountsFaults ((view (driver x)).abilities.is_reliable && m.is_reliable) (view (driver x)).fault_count (view d).fault_count result) h faults))
    (subst (λ (m : LayerBelow). IfErr result (allowed (lending_reasons (view (driver x)) m Operation.Write o n))) h refusals)

-- the preparing of a mapping by the driver, over what it is lent
pub image_preparing : {D St : Type 0} (view : D → View St) (x : FormatAccess D) (d : D) (o n : ℕ) (result : Result (PreparedDataMapping St) Error) (l : LayerBelow) → l ≡ lent_image view (backing x)
    → (view (driver x)).abilities.is_writable ≡ true → o + n ≤ (view (driver x)).size
    → IsUnchanged (view (driver x)) (view d) → OnErr result ((view d).pending ≡ None)
    → IfOk result (λ m. IsSettled IsOnRange (view (driver x)).limits.cause (view d).limits.cause (view (driver x)).limits.copies (view d).limits.copies o m.length)
    → GrowTo ((view (driver x)).limits.longest Operation.Write o n) (view (driver x)).stores (view d).stores
    → CountsFaults ((view (driver x)).abilities.is_reliable && l.is_reliable) (view (driver x)).fault_count (view d).fault_count result
    → IfErr result (allowed (lending_reasons (view (driver x)) l Operation.Write o n)) → IsPreparing view x (with_driver x d) o n result
image_preparing {D = D} view x d o n result l h writable fits unchanged spent settled lengths faults refusals =
    let e : driver (with_driver x d) ≡ d = driver_with x d in
    let c = subst (λ (m : LayerBelow). CountsFaults ((view (driver x)).abilities.is_reliable && m.is_reliable) (view (driver x)).fault_count (view d).fault_count result) h faults in
    record {
      tested = λ z g. absurd (not_failed (view (driver x)) Operation.Write o n writable fits (λ y. y) z g);
      same_size = ap (λ (y : D). (view y).size) e ∙ unchanged.framed.size;
      ends = subst (λ (y : D). (p : ℕ) → (view y).place p ≡ End → (view (driver x)).place p ≡ End) (sym e) unchanged.framed.ends;
      unchanged = λ k. changed_image view x d (λ a b. (p : ℕ) → b p ≡ a p) (λ p. ap (shown (lent_image view (backing x)).at) (unchanged.places.same k p));
      same_layer = subst (λ (y : D). IsUnchanged (view (driver x)) (view y)) (sym e) unchanged;
      lengths = subst (λ (y : D). GrowTo ((view (driver x)).limits.longest Operation.Write o n) (view (driver x)).stores (view y).stores) (sym e) lengths;
      reaches = subst (λ (y : D). ReachesNoMore (view (driver x)) (view y)) (sym e) unchanged.reaches;
      settled = subst (λ (y : D). IfOk result (λ m. IsSettled IsOnRange (view (driver x)).limits.cause (view y).limits.cause (view (driver x)).limits.copies (view y).limits.copies o m.length)) (sym e) settled;
      kept = record { below = backing_with x d; kind = subst (λ (y : D). IsKind (view (driver x)) (view y)) (sym e) unchanged.framed.kind };
      nothing_pending = err_more result _ _ (λ s. subst (λ (y : D). (view y).pending ≡ None) (sym e) s) spent;
      faults = subst (λ (y : D). CountsFaults (devices_reliable view x) (view (driver x)).fault_count (view y).fault_count result) (sym e) c;
      refusals = refusals_more result _ _ (λ z k. inr k) (subst (λ (m : LayerBelow). IfErr result (allowed (lending_reasons (view (driver x)) m Operation.Write o n))) h refusals);
    }

pub failed_preparing : {D St : Type 0} (view : D → View St) (x : FormatAccess D) (o n : ℕ) (e : Error) → FailsTest (view (driver x)) Operation.Write o n e → (view (driver x)).pending ≡ None → IsPreparing view x x o n (Err e)
failed_preparing {St = St} view x o n e f p = record {
  tested = λ z g. (ap (λ y. Err y) (same_test (view (driver x)) Operation.Write o n e z f g), refl);
  same_size = refl;
  unchanged = λ k q. refl;
  same_layer = record {
    framed = record { kind = record { abilities = refl; store_count = refl; store_features = λ i. refl }; size = refl; ends = λ q h. h };
    places = record { stored = λ q b s f w h. (b, h); same = λ k q. refl };
    reaches = reaches_same (view (driver x));
  };
  lengths = same_lengths (view (driver x)).stores _;
  reaches = reaches_same (view (driver x));
  settled = tt;
  ends = λ q h. h;
  kept = record { below = refl; kind = record { abilities = refl; store_count = refl; store_features = λ i. refl } };
  nothing_pending = p;
  faults = record { later = omega arith; reliable = λ t. refl; device = λ h. absurd (test_device {T = PreparedDataMapping St} (view (driver x)) Operation.Write o n e f h) };
  refusals = inl f;
}

-- what is prepared over what the driver is lent is prepared over the disk
pub image_prepared : {D St : Type 0} (view : D → View St) (x : FormatAccess D) (d : D) (o n : ℕ) (w : Bool) (m : PreparedDataMapping St) (l : LayerBelow) → l ≡ lent_image view (backing x)
    → IsPrepared o n w l.tells_bytes (values l.at (view (driver x)).place) (view (driver x)) (view d) m → IsPrepared o n w (lent_image view (backing x)).tells_bytes (disk_value view x) (view (driver x)) (view (driver (with_driver x d))) m
image_prepared {D = D} view x d o n w m l h p =
    let a = subst (λ (k : LayerBelow). IsPrepared o n w k.tells_bytes (values k.at (view (driver x)).place) (view (driver x)) (view d) m) h p in
    let b = subst (λ (f : ℕ → Value). IsPrepared o n w (lent_image view (backing x)).tells_bytes f (view (driver x)) (view d) m) (sym (value_out view x)) a in
    subst (λ (y : D). IsPrepared o n w (lent_image view (backing x)).tells_bytes (disk_value view x) (view (driver x)) (view y) m) (sym (driver_with x d)) b
