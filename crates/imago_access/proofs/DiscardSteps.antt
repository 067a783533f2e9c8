-- SPDX-License-Identifier: MIT
use Rattle.std.proofs.Common.{◌≡◌, ℕ, ◌+◌, ◌-◌, ◌<◌, ◌≤◌, ◌⊎◌, ⊎_elim, inl, inr, Bool, true, None, refl, sym, ap, ◌∙◌, subst, arith, Result, Ok, Err}
use Rattle.std.proofs.lemmas.Bool.{cases_lt}
use Rattle.std.specs.Prelude.{IsTrue, IfOk, IfErr, OnErr, IsErrOf, IsOk}
use Rattle.imago_storage.specs.declared.error.Error.{Error}
use Rattle.imago_storage.specs.Faults.{CountsFaults}
use Rattle.imago_drivers.specs.Place.{Value, values}
use Rattle.imago_drivers.specs.Reasons.{allowed}
use Rattle.imago_drivers.specs.Causes.{IsSettled}
use Rattle.imago_drivers.specs.View.{View}
use Rattle.imago_drivers.specs.Laws.{AreCauses}
use Rattle.imago_drivers.specs.Changes.{IsChanged, partly}
use Rattle.imago_drivers.specs.Done.{range_reasons}
use Rattle.imago_access.specs.Framed.{StaysFramed}
use Rattle.imago_access.specs.declared.access.FormatAccess.{FormatAccess}
use Rattle.imago_access.specs.declared.discard.DiscardCall.{DiscardCall}
use Rattle.imago_access.specs.declared.discard.DiscardCall.TheVariants as C
use Rattle.imago_access.specs.Chain.{driver, backing, disk_value, lent_image}
use Rattle.imago_access.specs.Lending.{with_driver}
use Rattle.imago_access.specs.Calls.{devices_reliable, FailsTest, Overflows, IsLoose, IsRangeCall, settles}
use Rattle.imago_access.specs.Discarding.{discard_of, loosened, IsLoosened, HasLoosened, HasLoosenedPart, discard_reasons}
use Rattle.imago_access.specs.Zeroing.{IsFree}
use Rattle.imago_access.proofs.Images.{driver_with, backing_with, changed_image, not_failed}
use Rattle.imago_access.proofs.Weaker.{allowed_more, refused_more, and_left}
use Rattle.imago_access.proofs.Written.{framed_twice, same_frame}
use Rattle.imago_access.proofs.Writes.{rose_more}
use Rattle.imago_access.proofs.ZeroLoops.{same_devices}
use Rattle.imago_drivers.specs.Outside.{StaysOutside}
use Rattle.imago_access.specs.Moves.{MovesWithin}
use Rattle.imago_access.proofs.Moved.{moved_none, moved_outside, moved_then}

-- A way for a value to change, by its offset, that may be no change, and that may follow another one.
pub record IsRepeatable (how : ℕ → Value → Value → Type 0) : Type 0 where
  pub same : (p : ℕ) (v w : Value) → w ≡ v → how p v w
  pub twice : (p : ℕ) (u v w : Value) → how p u v → how p v w → how p u w

pub repeatable : (call : DiscardCall) (takes : Bool) (below : ℕ → Value) → IsRepeatable (loosened call takes below)
repeatable C.ToAny takes below = record { same = λ p v w e. tt; twice = λ p u v w a b. tt }
repeatable C.ToBacking takes below = record { same = λ p v w e. inl e; twice = λ p u v w a b. ⊎_elim (λ e. ⊎_elim (λ f. inl (e ∙ f)) (λ g. inr (e ∙ g)) a) (λ g. inr g) b }

module _ (how : ℕ → Value → Value → Type 0) (law : IsRepeatable how) where
  -- each value of the part changed so, or none did
  here : (q m : ℕ) (f g : ℕ → Value) → IsChanged q m (λ k. how (q + k)) f g → (p : ℕ) → how p (f p) (g p)
  here q m f g h p = ⊎_elim
      (λ below. law.same p (f p) (g p) (h.before p below))
      (λ above. ⊎_elim
      (λ inside. let e : q + (p - q) ≡ p = omega arith in rw e at (h.inside (p - q) (omega arith)))
      (λ behind. law.same p (f p) (g p) (h.behind p behind))
      (cases_lt p (q + m)))
      (cases_lt p q)

  -- a part that changed, as a range that did
  pub part_changed : (o n q m : ℕ) (f g : ℕ → Value) → (m ≡ 0) ⊎ ((o ≤ q) × (q + m ≤ o + n)) → IsChanged q m (λ k. how (q + k)) f g → IsChanged o n (λ k. how (o + k)) f g
  part_changed o n q m f g within h = record {
    inside = λ k lt. here q m f g h (o + k);
    before = λ p lt. ⊎_elim (λ none. nothing none p) (λ some. h.before p (omega (arith, some.0))) within;
    behind = λ p ge. ⊎_elim (λ none. nothing none p) (λ some. h.behind p (omega (arith, some.1))) within;
  }
    where
      nothing : m ≡ 0 → (p : ℕ) → g p ≡ f p
      nothing none p = ⊎_elim (λ a. h.before p a) (λ b. h.behind p (omega arith)) (cases_lt p q)

  pub changed_twice : (o n : ℕ) (f g h : ℕ → Value) → IsChanged o n (λ k. how (o + k)) f g → IsChanged o n (λ k. how (o + k)) g h → IsChanged o n (λ k. how (o + k)) f h
  changed_twice o n f g h a b = record {
    inside = λ k lt. law.twice (o + k) (f (o + k)) (g (o + k)) (h (o + k)) (a.inside k lt) (b.inside k lt);
    before = λ p lt. b.before p lt ∙ a.before p lt;
    behind = λ p ge. b.behind p ge ∙ a.behind p ge;
  }

  pub not_partly : (o n : ℕ) (f g : ℕ → Value) → IsChanged o n (partly (λ k. how (o + k))) f g → IsChanged o n (λ k. how (o + k)) f g
  not_partly o n f g h = record { inside = λ k lt. ⊎_elim (λ e. law.same (o + k) (f (o + k)) (g (o + k)) e) (λ c. c) (h.inside k lt); before = h.before; behind = h.behind }

  pub unchanged : (o n : ℕ) (f : ℕ → Value) → IsChanged o n (λ k. how (o + k)) f f
  unchanged o n f = record { inside = λ k lt. law.same (o + k) (f (o + k)) (f (o + k)) refl; before = λ p lt. refl; behind = λ p ge. refl }

-- a part of the driver's discard, as the image sees it
pub part_loosened : {D St : Type 0} (view : D → View St) (x : FormatAccess D) (d : D) (call : DiscardCall) (o n : ℕ) (result : Result (ℕ × ℕ) Error)
    → IfOk result (λ r. (r.1 ≡ 0) ⊎ ((o ≤ r.0) × (r.0 + r.1 ≤ o + n)))
    → ((view (driver x)).limits.whole (discard_of call) o n → IfOk result (λ r. (r.0 ≡ o) × (r.1 ≡ n)))
    → (IsTrue (view (driver x)).abilities.keeps_data → IfOk result (λ r. IsChanged r.0 r.1 (λ k. loosened call (view (driver x)).abilities.takes_backing (lent_image view (backing x)).at (r.0 + k)) (values (lent_image view (backing x)).at (view (driver x)).place) (values (lent_image view (backing x)).at (view d).place)))
    → (IsTrue (view (driver x)).abilities.keeps_data → OnErr result (IsChanged o n (partly (λ k. loosened call (view (driver x)).abilities.takes_backing (lent_image view (backing x)).at (o + k))) (values (lent_image view (backing x)).at (view (driver x)).place) (values (lent_image view (backing x)).at (view d).place)))
    → IfOk result (λ r. IsSettled (λ op. op ≡ discard_of call) (view (driver x)).limits.cause (view d).limits.cause (view (driver x)).limits.copies (view d).limits.copies r.0 r.1)
    → (view d).pending ≡ None → StaysFramed (view (driver x)) (view d)
    → StaysOutside (view (driver x)).abilities.keeps_data (view (driver x)).abilities.block o n
    (view (driver x)).place (view d).place
    → CountsFaults (view (driver x)).abilities.is_reliable (view (driver x)).fault_count (view d).fault_count result
    → IfErr result (allowed (range_reasons (view (driver x)) (discard_of call) o n)) → HasLoosenedPart view call o n x (with_driver x d) result
part_loosened {D} view x d call o n result inside whole done refused settled spent framed outside faults refusals =
    let e : d ≡ driver (with_driver x d) = sym (driver_with x d) in
    record {
      left = record {
        left = λ k. changed_image view x d (λ a b. IsChanged o n (λ i. loosened call (view (driver x)).abilities.takes_backing (lent_image view (backing x)).at (o + i)) a b) (changed result inside (done k) (refused k));
        below = backing_with x d;
        framed = subst (λ (y : D). StaysFramed (view (driver x)) (view y)) e framed;
        spent = subst (λ (y : D). (view y).pending ≡ None) e spent;
        faults = subst (λ (y : D). CountsFaults (devices_reliable view x) (view (driver x)).fault_count (view y).fault_count result) e (record { later = faults.later; reliable = λ t. faults.reliable (and_left _ _ t); device = faults.device });
        refusals = weaker result refusals;
        outside = subst (λ (y : D). MovesWithin (discard_of call) o n (view (driver x)) (view y)) e
            (moved_outside (discard_of call) o n (view (driver x)) (view d) outside);
      };
      inside = inside;
      whole = whole;
      settled = subst (λ (y : D). IfOk result (λ r. IsSettled (λ op. op ≡ discard_of call) (view (driver x)).limits.cause (view y).limits.cause (view (driver x)).limits.copies (view y).limits.copies r.0 r.1)) e settled;
    }
  where
    weaker : (r : Result (ℕ × ℕ) Error) → IfErr r (allowed (range_reasons (view (driver x)) (discard_of call) o n)) → IfErr r (allowed (discard_reasons (view (driver x)) (discard_of call) o n))
    weaker r h = refused_more (range_reasons (view (driver x)) (discard_of call) o n) (discard_reasons (view (driver x)) (discard_of call) o n) r (record {
      read_only = λ k. k;
      beyond_disk = λ k. k;
      range_overflow = λ k. k;
      cause = λ e k. k;
      device = λ k. k;
      memory = λ k free. k free.0;
      foreign_mapping = λ k. k;
    }) h

    changed : (r : Result (ℕ × ℕ) Error) → IfOk r (λ s. (s.1 ≡ 0) ⊎ ((o ≤ s.0) × (s.0 + s.1 ≤ o + n)))
        → IfOk r (λ s. IsChanged s.0 s.1 (λ k. loosened call (view (driver x)).abilities.takes_backing (lent_image view (backing x)).at (s.0 + k)) (values (lent_image view (backing x)).at (view (driver x)).place) (values (lent_image view (backing x)).at (view d).place))
        → OnErr r (IsChanged o n (partly (λ k. loosened call (view (driver x)).abilities.takes_backing (lent_image view (backing x)).at (o + k))) (values (lent_image view (backing x)).at (view (driver x)).place) (values (lent_image view (backing x)).at (view d).place))
        → IsChanged o n (λ k. loosened call (view (driver x)).abilities.takes_backing (lent_image view (backing x)).at (o + k)) (values (lent_image view (backing x)).at (view (driver x)).place) (values (lent_image view (backing x)).at (view d).place)
    changed (Ok s) i c f = part_changed _ (repeatable call _ _) o n s.0 s.1 _ _ i c
    changed (Err z) i c f = not_partly _ (repeatable call _ _) o n _ _ f

-- Parts of a range are discarded, up to that many bytes of it.
pub record IsDiscardingOn {D St : Type 0} (view : D → View St) (call : DiscardCall) (o n : ℕ) (old mid : FormatAccess D) (c : ℕ) : Type 0 where
  pub within : c ≤ n
  pub left : IsTrue (view (driver old)).abilities.keeps_data → IsLoosened view call o n old mid
  pub below : backing mid ≡ backing old
  pub framed : StaysFramed (view (driver old)) (view (driver mid))
  pub spent : (view (driver mid)).pending ≡ None
  pub later : (view (driver old)).fault_count ≤ (view (driver mid)).fault_count
  pub reliable : IsTrue (devices_reliable view old) → (view (driver mid)).fault_count ≡ (view (driver old)).fault_count
  pub settled : IsSettled (λ op. op ≡ discard_of call) (view (driver old)).limits.cause (view (driver mid)).limits.cause (view (driver old)).limits.copies (view (driver mid)).limits.copies o n
  pub once : (view (driver old)).limits.whole (discard_of call) o n → ((c ≡ 0) × (mid ≡ old)) ⊎ (c ≡ n)
  pub outside : MovesWithin (discard_of call) o n (view (driver old)) (view (driver mid))

module _ {D St : Type 0} (view : D → View St) (call : DiscardCall) (o n : ℕ) (old : FormatAccess D) where
  pub nothing_discarded : AreCauses (view (driver old)) → (view (driver old)).pending ≡ None → IsDiscardingOn view call o n old old 0
  nothing_discarded law spent = record {
    within = omega arith;
    left = λ k. unchanged _ (repeatable call _ _) o n _;
    below = refl;
    framed = same_frame _;
    spent = spent;
    later = omega arith;
    reliable = λ t. refl;
    settled = record {
      causes = λ op b m q k e r h i j x c. law.part op b m q k e j x c;
      copied = λ op b m q k p r h i j x c. law.part_copied op b m q k p j x c;
    };
    once = λ free. inl (refl, refl);
    outside = moved_none (discard_of call) o n (view (driver old));
  }

  module _ (mid new : FormatAccess D) (c : ℕ) (sofar : IsDiscardingOn view call o n old mid c) where
    -- the values of both, since the layer below and what the driver takes stay
    then : {T : Type 0} (result : Result T Error) → HasLoosened view call (o + c) (n - c) mid new result → IsTrue (view (driver old)).abilities.keeps_data → IsLoosened view call o n old new
    then result h k =
        let t = ap (λ a. a.takes_backing) sofar.framed.kind.abilities in
        let x = h.left (rw sofar.framed.kind.abilities k) in
        let y = part_changed _ (repeatable call (view (driver mid)).abilities.takes_backing (lent_image view (backing mid)).at) o n (o + c) (n - c) _ _ (inr (omega arith, omega (arith, sofar.within))) x in
        let z : IsChanged o n (λ i. loosened call (view (driver old)).abilities.takes_backing (lent_image view (backing old)).at (o + i)) (disk_value view mid) (disk_value view new) = rw (t, sofar.below) at y in
        changed_twice _ (repeatable call _ _) o n _ _ _ (sofar.left k) z

    same_reliable : IsTrue (devices_reliable view old) → IsTrue (devices_reliable view mid)
    same_reliable t = same_devices view old mid sofar.below sofar.framed ∙ t

    next_moves : MovesWithin (discard_of call) (o + c) (n - c) (view (driver mid))
        (view (driver new))
        → MovesWithin (discard_of call) o n (view (driver old)) (view (driver new))
    next_moves h =
        moved_then (discard_of call) o n (view (driver old)) (view (driver mid)) (view (driver new))
        (o + c) (n - c) sofar.framed.kind (omega arith) (omega (arith, sofar.within))
        sofar.outside h

    pub loosened_next : (s l : ℕ) → HasLoosenedPart view call (o + c) (n - c) mid new (Ok (s, l)) → (l ≡ 0 → ⊥) → c < n → IsDiscardingOn view call o n old new (s - o + l)
    loosened_next s l h some lt = ⊎_elim (λ none. absurd (some none)) (λ part. record {
      within = omega (arith, part.0, part.1);
      left = then _ h.left;
      below = h.left.below ∙ sofar.below;
      framed = framed_twice _ _ _ sofar.framed h.left.framed;
      spent = h.left.spent;
      later = omega (arith, sofar.later, h.left.faults.later);
      reliable = λ t. h.left.faults.reliable (same_reliable t) ∙ sofar.reliable t;
      settled = record {
        causes = λ op a m q k e r i j b x y. sofar.settled.causes op a m a m e r i j (omega arith) (omega arith) (h.settled.causes op a m q k e r (omega (arith, part.0)) (omega (arith, part.1, sofar.within)) b x y);
        copied = λ op a m q k p r i j b x y. sofar.settled.copied op a m a m p r i j (omega arith) (omega arith) (h.settled.copied op a m q k p r (omega (arith, part.0)) (omega (arith, part.1, sofar.within)) b x y);
      };
      once = λ free. ⊎_elim
          (λ z.
          let x : o + c ≡ o = omega (arith, z.0) in
          let y : n - c ≡ n = omega (arith, z.0) in
          let again : (view (driver mid)).limits.whole (discard_of call) (o + c) (n - c) = rw (x, y) (subst (λ (m : FormatAccess D). (view (driver m)).limits.whole (discard_of call) o n) (sym z.1) free) in
          let w = h.whole again in
          inr (omega (arith, w.0, w.1, z.0)))
          (λ z. absurd (omega arith))
          (sofar.once free);
      outside = next_moves h.left.outside;
    }) h.inside

    -- the driver does nothing more
    pub loosened_last : {U : Type 0} (u : U) (s l : ℕ) → HasLoosenedPart view call (o + c) (n - c) mid new (Ok (s, l)) → HasLoosened view call o n old new (Ok u)
    loosened_last u s l h = record {
      left = then _ h.left;
      below = h.left.below ∙ sofar.below;
      framed = framed_twice _ _ _ sofar.framed h.left.framed;
      spent = h.left.spent;
      faults = record { later = omega (arith, sofar.later, h.left.faults.later); reliable = λ t. h.left.faults.reliable (same_reliable t) ∙ sofar.reliable t; device = λ d. let z : ⊥ = cc in absurd z };
      refusals = tt;
      outside = next_moves h.left.outside;
    }

    pub loosened_refused : {U : Type 0} (e : Error) → c < n → HasLoosenedPart view call (o + c) (n - c) mid new (Err e) → HasLoosened {T = U} view call o n old new (Err e)
    loosened_refused {U} e lt h = record {
      left = then _ h.left;
      below = h.left.below ∙ sofar.below;
      framed = framed_twice _ _ _ sofar.framed h.left.framed;
      spent = h.left.spent;
      faults = record {
        later = omega (arith, sofar.later, h.left.faults.later);
        reliable = λ t. h.left.faults.reliable (same_reliable t) ∙ sofar.reliable t;
        device = λ d. rose_more _ _ _ _ sofar.later (omega arith) (h.left.faults.device (device d));
      };
      refusals = allowed_more (discard_reasons (view (driver mid)) (discard_of call) (o + c) (n - c)) (discard_reasons (view (driver old)) (discard_of call) o n) (record {
        read_only = λ k. k;
        beyond_disk = λ k. (k.0, (omega (arith, k.1), omega (arith, k.1)), sofar.framed.ends k.0 k.2);
        range_overflow = λ k. k;
        cause = λ z k. sofar.settled.causes (discard_of call) o n (o + c) (n - c) z refl (omega arith) (omega arith) (omega arith) (omega (arith, sofar.within)) k;
        device = λ k. k;
        memory = λ k free. ⊎_elim
            (λ z.
            let x : o + c ≡ o = omega (arith, z.0) in
            let y : n - c ≡ n = omega (arith, z.0) in
            k (rw (x, y) (subst (λ (m : FormatAccess D). IsFree (view (driver m)) (discard_of call) o n) (sym z.1) free)))
            (λ z. absurd (omega arith))
            (sofar.once free.1);
        foreign_mapping = λ k. k;
      }) e h.left.refusals;
      outside = next_moves h.left.outside;
    }
      where
        device : IsErrOf {T = U} (Err e) Error.Device → IsErrOf {T = ℕ × ℕ} (Err e) Error.Device
        device d = let k : e ≡ Error.Device = cc in ap (λ z. Err z) k

    pub all_discarded : {U : Type 0} (u : U) → HasLoosened view call o n old mid (Ok u)
    all_discarded u = record {
      left = sofar.left;
      below = sofar.below;
      framed = sofar.framed;
      spent = sofar.spent;
      faults = record { later = sofar.later; reliable = sofar.reliable; device = λ d. let z : ⊥ = cc in absurd z };
      refusals = tt;
      outside = sofar.outside;
    }

pub not_loosened : {D St : Type 0} (view : D → View St) (call : DiscardCall) (x : FormatAccess D) (o n : ℕ) → IsLoosened view call o n x x
not_loosened view call x o n = unchanged _ (repeatable call (view (driver x)).abilities.takes_backing (lent_image view (backing x)).at) o n (disk_value view x)

-- what is promised of a discard but for the driver's own calls
abbrev pub IsLoosenedRange : {D St : Type 0} (view : D → View St) (call : DiscardCall) (x new : FormatAccess D) (o n : ℕ) (result : Result (Unit {0}) Error) → Type 0
IsLoosenedRange view call x new o n result = IsRangeCall view (discard_of call) o n (n ≡ 0) (settles (discard_of call)) (discard_reasons (view (driver x)) (discard_of call) o n) ⊥ (λ u. 0)
    (view (driver x)).abilities.keeps_data (λ u. IsLoosened view call o n x new) (IsLoosened view call o n x new) x new result

-- a discard that passed its tests
pub range_call : {D St : Type 0} (view : D → View St) (call : DiscardCall) (x new : FormatAccess D) (o n : ℕ) (result : Result (Unit {0}) Error) → (view (driver x)).abilities.is_writable ≡ true → o + n ≤ (view (driver x)).size
    → (Overflows (discard_of call) o n → ⊥) → (IsLoose (discard_of call)) → (n ≡ 0 → IsOk result × (new ≡ x)) → HasLoosened view call o n x new result → IsLoosenedRange view call x new o n result
range_call view call x new o n result w fits small loose idle h = record {
  tested = λ z g. absurd (not_failed (view (driver x)) (discard_of call) o n w fits small z g);
  idle = λ i passed. idle i;
  done = λ k. done result (h.left k);
  torn = λ k. torn result (h.left k);
  reaches = λ l. absurd (l loose);
  settled = settled result;
  ends = h.framed.ends;
  no_shorter = h.framed.no_shorter;
  same_size = h.framed.size;
  kept = record { below = h.below; kind = h.framed.kind };
  nothing_pending = h.spent;
  faults = record { later = h.faults.later; reliable = h.faults.reliable; device = λ d. inl (h.faults.device d) };
  refusals = refused result h.refusals;
  outside = h.outside;
}
  where
    done : (r : Result (Unit {0}) Error) → IsLoosened view call o n x new → IfOk r (λ u. IsLoosened view call o n x new)
    done (Ok u) c = c
    done (Err e) c = tt

    torn : (r : Result (Unit {0}) Error) → IsLoosened view call o n x new → OnErr r (IsLoosened view call o n x new)
    torn (Ok u) c = tt
    torn (Err e) c = c

    settled : (r : Result (Unit {0}) Error) → IfOk r (λ u. IsSettled (settles (discard_of call)) (view (driver x)).limits.cause (view (driver new)).limits.cause (view (driver x)).limits.copies (view (driver new)).limits.copies o 0)
    settled (Ok u) = record { causes = λ a b m q k e i. absurd (i.1 loose); copied = λ a b m q k p i. absurd (i.1 loose) }
    settled (Err e) = tt

    refused : (r : Result (Unit {0}) Error) → IfErr r (allowed (discard_reasons (view (driver x)) (discard_of call) o n)) → IfErr r (λ e. FailsTest (view (driver x)) (discard_of call) o n e ⊎ allowed (discard_reasons (view (driver x)) (discard_of call) o n) e)
    refused (Ok u) c = tt
    refused (Err e) c = inr c
