-- SPDX-License-Identifier: MIT
use Rattle.std.proofs.Common.{◌≡◌, ℕ, ◌<◌, ◌≤◌, ◌&&◌, inl, inr, true, refl, sym, ap, ◌∙◌, subst, arith, Result, Ok, Err, min, max, length}
use Rattle.std.specs.Prelude.{IsTrue, IfErr, OnOk, OnErr}
use Rattle.imago_storage.specs.declared.error.Error.{Error}
use Rattle.imago_storage.specs.Faults.{CountsFaults}
use Rattle.imago_drivers.specs.Operation.{Operation, Grow, Shrink, Flush}
use Rattle.imago_drivers.specs.declared.format.PreallocateMode.{PreallocateMode}
use Rattle.imago_drivers.specs.Place.{End, shown, values, SamePlaces}
use Rattle.imago_drivers.specs.Pending.{ShowsRound}
use Rattle.imago_drivers.specs.LayerBelow.{LayerBelow}
use Rattle.imago_drivers.specs.View.{View}
use Rattle.imago_drivers.specs.CallRelations.{Calls}
use Rattle.imago_drivers.specs.Reasons.{allowed}
use Rattle.imago_drivers.specs.Causes.{AddsNone}
use Rattle.imago_drivers.specs.Frame.{IsKind, IsUnchanged}
use Rattle.imago_drivers.specs.Lengths.{GrowTo, AreNoLonger}
use Rattle.imago_drivers.specs.Calls.{IsFlush}
use Rattle.imago_drivers.specs.Resized.{IsGrown, IsCut, IsSameDisk, IsListed, grown_into}
use Rattle.imago_drivers.specs.Done.{lending_reasons, driver_reasons}
use Rattle.imago_access.proofs.Weaker.{and_left, and_right}
use Rattle.imago_access.specs.declared.access.FormatAccess.{FormatAccess}
use Rattle.imago_access.specs.Chain.{driver, backing, disk_value, lent_image}
use Rattle.imago_access.specs.Lending.{with_driver}
use Rattle.imago_access.specs.Calls.{IsKept, range_refusals}
use Rattle.imago_access.specs.Performed.{IsGrownBy, IsCutBy}
use Rattle.imago_access.specs.Sizes.{HasGrown, HasShrunk, IsSameImage, FailsWritable, IsIdle, IsResizedLayer, IsResize, IsFlushed, resize_reliable, resize_refusals}
use Rattle.imago_access.proofs.Images.{driver_with, backing_with, changed_image}

ok_then : {P Q : Type 0} (r : Result Unit Error) → (P → Q) → OnOk r P → OnOk r Q
ok_then (Ok t) f h = f h
ok_then (Err e) f h = tt

err_then : {P Q : Type 0} (r : Result Unit Error) → (P → Q) → OnErr r P → OnErr r Q
err_then (Ok t) f h = tt
err_then (Err e) f h = f h

refused_then : (r : Result Unit Error) (P Q : Error → Type 0) → ((e : Error) → P e → Q e) → IfErr r P → IfErr r Q
refused_then (Ok t) P Q f h = tt
refused_then (Err e) P Q f h = f e h

module _ {D St : Type 0} (view : D → View St) (x : FormatAccess D) (d : D) where
  -- what is so for the driver is so for the image with it
  pub with : (P : D → Type 0) → P d → P (driver (with_driver x d))
  with P h = subst P (sym (driver_with x d)) h

  pub kept_with : IsKind (view (driver x)) (view d) → IsKept view x (with_driver x d)
  kept_with h = record { below = backing_with x d; kind = with (λ (y : D). IsKind (view (driver x)) (view y)) h }

  same_values : SamePlaces (view (driver x)).abilities.keeps_data (view (driver x)).place (view d).place → IsTrue (view (driver x)).abilities.keeps_data → (p : ℕ) → disk_value view (with_driver x d) p ≡ disk_value view x p
  same_values h k = changed_image view x d (λ a b. (p : ℕ) → b p ≡ a p) (λ p. ap (shown (lent_image view (backing x)).at) (h.same k p))

  pub same_image : (view d).size ≡ (view (driver x)).size → SamePlaces (view (driver x)).abilities.keeps_data (view (driver x)).place (view d).place → IsSameImage view x (with_driver x d)
  same_image s h = record { size = with (λ (y : D). (view y).size ≡ (view (driver x)).size) s; values = same_values h }

  pub grown_image : (mode : PreallocateMode) (n : ℕ) → IsGrown mode (lent_image view (backing x)).tells_bytes (lent_image view (backing x)).at n (view (driver x)) (view d) → HasGrown view mode n x (with_driver x d)
  grown_image mode n h = record {
    size = with (λ (y : D). (view y).size ≡ max (view (driver x)).size n) h.size;
    stays = λ k. changed_image view x d (λ a b. (p : ℕ) → p < (view (driver x)).size → b p ≡ a p) (h.kept (and_left _ _ k) (and_right _ _ k));
    added = λ k. changed_image view x d (λ a b. (p : ℕ) → (view (driver x)).size ≤ p → p < n → grown_into mode (view (driver x)).abilities.takes_backing (lent_image view (backing x)).at p (b p)) (h.added (and_left _ _ k) (and_right _ _ k));
  }

  pub cut_image : (n : ℕ) → IsCut n (view (driver x)) (view d) → HasShrunk view n x (with_driver x d)
  cut_image n h = record {
    size = with (λ (y : D). (view y).size ≡ min (view (driver x)).size n) h.size;
    stays = λ k p lt.
        let s : (view (driver (with_driver x d))).size ≡ (view d).size = ap (λ (y : D). (view y).size) (driver_with x d) in
        changed_image view x d (λ a b. (q : ℕ) → q < (view d).size → b q ≡ a q) (λ q i. h.kept k (lent_image view (backing x)).at q i) p (omega arith);
  }

  pub resized_image : (op : Operation) (n : ℕ) (effect : Type 0) (result : Result Unit Error) → (view (driver x)).abilities.is_writable ≡ true
      → OnOk result effect → (IsIdle op (view (driver x)).size n → ⊥) → OnErr result (IsSameDisk (view (driver x)) (view d)) → ((p : ℕ) → p < (view (driver x)).size → p < (view d).size → (view d).place p ≡ End → (view (driver x)).place p ≡ End) → IsKind (view (driver x)) (view d)
      → OnOk result (IsResizedLayer op (lent_image view (backing x)).tells_bytes (lent_image view (backing x)).at n (view (driver x)) (view d)) → (IsListed (view (driver x)) → IsListed (view d))
      → AreNoLonger ((view (driver x)).limits.longest op n 0) (view (driver x)).stores (view d).stores
      → CountsFaults (resize_reliable view x op) (view (driver x)).fault_count (view d).fault_count result
      → IfErr result (allowed (resize_refusals view x op n)) → IsResize view op n effect x (with_driver x d) result
  resized_image op n effect result w done idle same ends kind layer listed no_longer faults refusals = record {
    tested = λ e f. absurd (let y = sym w ∙ f.1 in cc);
    done = done;
    idle = λ t i. absurd (idle i);
    unchanged = err_then result (λ h. same_image h.size h.places) same;
    layer = with (λ (y : D). OnOk result (IsResizedLayer op (lent_image view (backing x)).tells_bytes (lent_image view (backing x)).at n (view (driver x)) (view y))) layer;
    same_layer = with (λ (y : D). OnErr result (IsSameDisk (view (driver x)) (view y))) same;
    listed = with (λ (y : D). IsListed (view (driver x)) → IsListed (view y)) listed;
    no_longer = with (λ (y : D). AreNoLonger ((view (driver x)).limits.longest op n 0) (view (driver x)).stores (view y).stores) no_longer;
    ends = with (λ (y : D). (p : ℕ) → p < (view (driver x)).size → p < (view y).size → (view y).place p ≡ End → (view (driver x)).place p ≡ End) ends;
    kept = kept_with kind;
    faults = with (λ (y : D). CountsFaults (resize_reliable view x op) (view (driver x)).fault_count (view y).fault_count result) faults;
    refusals = refused_then result _ _ (λ e h. inr h) refusals;
  }

  pub flushed_image : (relation : D → D → Result Unit Error → Type 0) (result : Result Unit Error) → IsFlush view relation (driver x) d result → IsFlushed view relation x (with_driver x d) result
  flushed_image relation result h = record {
    performed = with (λ (y : D). relation (driver x) y result) h.performed;
    unchanged = same_image h.unchanged.framed.size h.unchanged.places;
    same_layer = with (λ (y : D). IsUnchanged (view (driver x)) (view y)) h.unchanged;
    causes = with (λ (y : D). AddsNone (view (driver x)).limits.cause (view y).limits.cause (view (driver x)).limits.copies (view y).limits.copies) h.causes;
    lengths = with (λ (y : D). GrowTo ((view (driver x)).limits.longest Flush 0 0) (view (driver x)).stores (view y).stores) h.lengths;
    ends = with (λ (y : D). (p : ℕ) → (view y).place p ≡ End → (view (driver x)).place p ≡ End) h.unchanged.framed.ends;
    kept = kept_with h.unchanged.framed.kind;
    pending = with (λ (y : D). (view y).pending ≡ (view (driver x)).pending) h.pending;
    faults = with (λ (y : D). CountsFaults (view (driver x)).abilities.is_reliable (view (driver x)).fault_count (view y).fault_count result) h.faults;
    refusals = h.refusals;
  }

  -- what a commit will show round the prepared range is what the image shows there
  pub round_image : (ShowsRound (values (lent_image view (backing x)).at (view (driver x)).place) (view (driver x)).pending → ShowsRound (values (lent_image view (backing x)).at (view d).place) (view d).pending)
      → ShowsRound (disk_value view x) (view (driver x)).pending → ShowsRound (disk_value view (with_driver x d)) (view (driver (with_driver x d))).pending
  round_image h = with (λ (y : D). ShowsRound (disk_value view x) (view (driver x)).pending → ShowsRound (disk_value view (with_driver x d)) (view y).pending)
      (changed_image view x d (λ a b. ShowsRound a (view (driver x)).pending → ShowsRound b (view d).pending) h)

most : (a b : ℕ) → a ≤ max a b
most a b = omega arith

-- a list of places that is whole stays whole, over a cut and over a refusal
listed_by_end : {St : Type 0} (old new : View St) → ((p : ℕ) → p < new.size → new.place p ≡ End → old.place p ≡ End) → new.size ≤ old.size → IsListed old → IsListed new
listed_by_end old new ends le h p lt e = h p (omega arith) (ends p lt e)

same_listed : {St : Type 0} (old new : View St) → IsSameDisk old new → IsListed old → IsListed new
same_listed old new h = listed_by_end old new (λ p lt e. h.ends p e) (omega (arith, h.size))

cut_listed : {St : Type 0} (old new : View St) (n : ℕ) → IsCut n old new → IsListed old → IsListed new
cut_listed old new n h = listed_by_end old new h.ends (omega (arith, h.size))

stays_listed : {St : Type 0} (old new : View St) (result : Result Unit Error) (effect : Type 0) → (effect → IsListed old → IsListed new) → OnOk result effect → OnErr result (IsSameDisk old new) → IsListed old → IsListed new
stays_listed old new (Ok t) effect f done same = f done
stays_listed old new (Err e) effect f done same = same_listed old new same

-- a resize of an image that isn't writable
pub read_only_resize : {D St : Type 0} (view : D → View St) (x : FormatAccess D) (op : Operation) (n : ℕ) (effect : Type 0) (e : Error) → FailsWritable (view (driver x)) e → IsResize view op n effect x x (Err e)
read_only_resize view x op n effect e w = record {
  tested = λ z f. (ap (λ y. Err y) (w.0 ∙ sym f.0), refl);
  done = tt;
  idle = λ t i. let y = sym t ∙ w.1 in let z : ⊥ = cc in absurd z;
  unchanged = record { size = refl; values = λ k p. refl };
  layer = tt;
  same_layer = record { size = refl; places = record { stored = λ p b s f w h. (b, h); same = λ k p. refl }; reaches = λ p q w h. (w, h); ends = λ p h. h; no_shorter = λ i. omega arith };
  listed = λ h. h;
  no_longer = λ i. most (length ((view (driver x)).stores.bytes i)) ((view (driver x)).limits.longest op n 0 i);
  ends = λ p a b h. h;
  kept = record { below = refl; kind = record { abilities = refl; store_count = refl; store_features = λ i. refl } };
  faults = record { later = omega arith; reliable = λ t. refl; device = λ h. let y = w.0 in let z : ⊥ = cc in absurd z };
  refusals = inl w;
}

-- a resize with nothing to do, which calls nothing
idle_resize : {D St : Type 0} (view : D → View St) (x : FormatAccess D) (op : Operation) (n : ℕ) (effect : Type 0) → (view (driver x)).abilities.is_writable ≡ true → effect
    → IsResizedLayer op (lent_image view (backing x)).tells_bytes (lent_image view (backing x)).at n (view (driver x)) (view (driver x)) → IsResize view op n effect x x (Ok tt)
idle_resize view x op n effect w did layer = record {
  tested = λ e f. absurd (let y = sym w ∙ f.1 in cc);
  done = did;
  idle = λ t i. (refl, refl);
  unchanged = tt;
  layer = layer;
  same_layer = tt;
  listed = λ h. h;
  no_longer = λ i. most (length ((view (driver x)).stores.bytes i)) ((view (driver x)).limits.longest op n 0 i);
  ends = λ p a b h. h;
  kept = record { below = refl; kind = record { abilities = refl; store_count = refl; store_features = λ i. refl } };
  faults = record { later = omega arith; reliable = λ t. refl; device = λ d. let z : ⊥ = cc in absurd z };
  refusals = tt;
}

pub idle_growth : {D St : Type 0} (view : D → View St) (x : FormatAccess D) (mode : PreallocateMode) (n : ℕ) → (view (driver x)).abilities.is_writable ≡ true → n ≤ (view (driver x)).size
    → IsResize view (Grow mode) n (HasGrown view mode n x x) x x (Ok tt)
idle_growth view x mode n w le = idle_resize view x (Grow mode) n _ w
    (record { size = omega (arith, le); stays = λ k p lt. refl; added = λ k p a b. absurd (omega (arith, le, a, b)) })
    (record { size = omega (arith, le); kept = λ k t p lt. refl; added = λ k t p a b. absurd (omega (arith, le, a, b)); ends = λ p lt h. h; listed = λ h. h })

pub idle_cut : {D St : Type 0} (view : D → View St) (x : FormatAccess D) (n : ℕ) → (view (driver x)).abilities.is_writable ≡ true → (view (driver x)).size ≤ n
    → IsResize view Shrink n (HasShrunk view n x x) x x (Ok tt)
idle_cut view x n w le = idle_resize view x Shrink n _ w
    (record { size = omega (arith, le); stays = λ k p lt. refl })
    (record { size = omega (arith, le); kept = λ k below p lt. refl; ends = λ p lt h. h })

grow_weaker : {D St : Type 0} (view : D → View St) (x : FormatAccess D) (l : LayerBelow) → l ≡ lent_image view (backing x) → (op : Operation) (n : ℕ) (e : Error)
    → allowed (record (lending_reasons (view (driver x)) l op n 0) { beyond_disk = ⊥ }) e → allowed (record (range_refusals view x op n 0) { beyond_disk = ⊥ }) e
grow_weaker view x l h op n e c = subst (λ (m : LayerBelow). allowed (record (lending_reasons (view (driver x)) m op n 0) { beyond_disk = ⊥ }) e) h c

-- no place becomes an end, where a resize is done or refused
ends_by : {St : Type 0} (old new : View St) (result : Result Unit Error) (effect : Type 0) → (effect → (p : ℕ) → p < old.size → p < new.size → new.place p ≡ End → old.place p ≡ End) → OnOk result effect → OnErr result (IsSameDisk old new) → (p : ℕ) → p < old.size → p < new.size → new.place p ≡ End → old.place p ≡ End
ends_by old new (Ok t) effect f done same = f done
ends_by old new (Err e) effect f done same = λ p a b h. same.ends p h

-- a growth by the driver, over what it is lent
pub grow_image : {D St : Type 0} (view : D → View St) (x : FormatAccess D) (d : D) (l : LayerBelow) → l ≡ lent_image view (backing x) → (mode : PreallocateMode) (n : ℕ) (result : Result Unit Error) → (view (driver x)).abilities.is_writable ≡ true
    → OnOk result (IsGrown mode l.tells_bytes l.at n (view (driver x)) (view d)) → (n ≤ (view (driver x)).size → ⊥) → OnErr result (IsSameDisk (view (driver x)) (view d)) → IsKind (view (driver x)) (view d)
    → AreNoLonger ((view (driver x)).limits.longest (Grow mode) n 0) (view (driver x)).stores (view d).stores
    → CountsFaults ((view (driver x)).abilities.is_reliable && l.is_reliable) (view (driver x)).fault_count (view d).fault_count result
    → IfErr result (allowed (record (lending_reasons (view (driver x)) l (Grow mode) n 0) { beyond_disk = ⊥ })) → IsResize view (Grow mode) n (HasGrown view mode n x (with_driver x d)) x (with_driver x d) result
grow_image view x d l h mode n result w grown idle same kind no_longer faults refusals =
    let layer : OnOk result (IsGrown mode (lent_image view (backing x)).tells_bytes (lent_image view (backing x)).at n (view (driver x)) (view d)) = subst (λ (m : LayerBelow). OnOk result (IsGrown mode m.tells_bytes m.at n (view (driver x)) (view d))) h grown in
    resized_image view x d (Grow mode) n _ result w
    (ok_then result (λ g. grown_image view x d mode n g) layer)
    idle same (ends_by (view (driver x)) (view d) result _ (λ g p a b h. g.ends p a h) layer same) kind
    layer (stays_listed (view (driver x)) (view d) result _ (λ g. g.listed) layer same) no_longer
    (subst (λ (m : LayerBelow). CountsFaults ((view (driver x)).abilities.is_reliable && m.is_reliable) (view (driver x)).fault_count (view d).fault_count result) h faults)
    (refused_then result _ _ (grow_weaker view x l h (Grow mode) n) refusals)

-- a cut by the driver
pub shrink_image : {D St : Type 0} (view : D → View St) (x : FormatAccess D) (d : D) (n : ℕ) (result : Result Unit Error) → (view (driver x)).abilities.is_writable ≡ true
    → OnOk result (IsCut n (view (driver x)) (view d)) → ((view (driver x)).size ≤ n → ⊥) → OnErr result (IsSameDisk (view (driver x)) (view d)) → IsKind (view (driver x)) (view d)
    → AreNoLonger ((view (driver x)).limits.longest Shrink n 0) (view (driver x)).stores (view d).stores
    → CountsFaults (view (driver x)).abilities.is_reliable (view (driver x)).fault_count (view d).fault_count result
    → IfErr result (allowed (driver_reasons (view (driver x)) Shrink n 0)) → IsResize view Shrink n (HasShrunk view n x (with_driver x d)) x (with_driver x d) result
shrink_image view x d n result w cut idle same kind no_longer faults refusals =
    resized_image view x d Shrink n _ result w (ok_then result (cut_image view x d n) cut) idle same (ends_by (view (driver x)) (view d) result _ (λ g p a b h. g.ends p b h) cut same) kind
    cut (stays_listed (view (driver x)) (view d) result _ (cut_listed (view (driver x)) (view d) n) cut same) no_longer faults refusals

-- the driver's growth, over what it was lent, is the image's
pub grown_by : {D St : Type 0} (view : D → View St) (its : Calls D St) (x : FormatAccess D) (d : D) (l : LayerBelow) → l ≡ lent_image view (backing x) → (n : ℕ) (mode : PreallocateMode) (result : Result Unit Error)
    → its.grown n mode l (driver x) d result → IsGrownBy view its n mode x (with_driver x d) result
grown_by {D} view its x d l h n mode result p = λ w lt.
    with view x d (λ (y : D). its.grown n mode (lent_image view (backing x)) (driver x) y result) (subst (λ (m : LayerBelow). its.grown n mode m (driver x) d result) h p)

pub cut_by : {D St : Type 0} (view : D → View St) (its : Calls D St) (x : FormatAccess D) (d : D) (n : ℕ) (result : Result Unit Error)
    → its.cut n (driver x) d result → IsCutBy view its n x (with_driver x d) result
cut_by {D} view its x d n result p = λ w lt. with view x d (λ (y : D). its.cut n (driver x) y result) p
