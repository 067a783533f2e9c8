-- SPDX-License-Identifier: MIT
use Rattle.std.proofs.Common.{◌≡◌, ℕ, ◌+◌, ◌-◌, ◌<◌, ◌≤◌, ◌⊎◌, ◌&&◌, ⊎_elim, inl, inr, Bool, List, length, take, drop, None, refl, sym, ap, ◌∙◌, arith, Result, Ok, Err, subst, length-take, length-drop, get_or-take, get_or-drop}
use Rattle.std.proofs.lemmas.Bool.{cases_lt}
use Rattle.std.specs.Prelude.{IsTrue, IsErrOf, slice_index}
use Rattle.imago_storage.specs.declared.error.Error.{Error}
use Rattle.imago_storage.specs.Faults.{CountsFaults, RoseOrSaturated}
use Rattle.imago_drivers.specs.Done.{keeps_over}
use Rattle.imago_drivers.specs.Operation.{Operation}
use Rattle.imago_drivers.specs.Place.{Value, Byte, values, shown}
use Rattle.imago_drivers.specs.Reasons.{allowed}
use Rattle.imago_drivers.specs.LayerBelow.{LayerBelow}
use Rattle.imago_drivers.specs.Causes.{Causes, Copies, IsSettled, IsOnRange}
use Rattle.imago_drivers.specs.View.{View}
use Rattle.imago_drivers.specs.Laws.{AreCauses}
use Rattle.imago_drivers.specs.Changes.{Change, IsChanged, into, partly}
use Rattle.imago_drivers.specs.Frame.{IsUnchanged, ReachesNoMore}
use Rattle.imago_access.specs.Framed.{StaysFramed}
use Rattle.imago_access.specs.Writing.{CommitMayTakeMemory, StandsAlone, first_reasons, write_reasons, HasWritten, HasWrittenAll}
use Rattle.imago_access.proofs.Weaker.{IsWeaker, allowed_more, and_left}
use Rattle.imago_access.proofs.Written.{kind_twice, framed_twice, same_frame}
use Rattle.imago_access.specs.Moves.{MovesWithin}
use Rattle.imago_access.proofs.Moved.{moved_none, moved_then}

-- A count of faults that goes on, and rises where a device fails.
pub record GoesOn (is_reliable : Bool) (before now : ℕ) : Type 0 where
  pub later : before ≤ now
  pub reliable : IsTrue is_reliable → now ≡ before

pub goes_on : {T : Type 0} (r : Bool) (a b : ℕ) (result : Result T Error) → CountsFaults r a b result → GoesOn r a b
goes_on r a b result h = record { later = h.later; reliable = h.reliable }

pub goes_on_twice : (r : Bool) (a b c : ℕ) → GoesOn r a b → GoesOn r b c → GoesOn r a c
goes_on_twice r a b c h k = record { later = omega (arith, h.later, k.later); reliable = λ t. k.reliable t ∙ h.reliable t }

-- the driver's own calls go on where those that are lent a layer do
pub goes_on_with : (v w : Bool) (l : Bool) (a b : ℕ) → w ≡ v → GoesOn w a b → GoesOn (v && l) a b
goes_on_with v w l a b e h = record { later = h.later; reliable = λ t. h.reliable (rw e (and_left v l t)) }

pub rose_more : (a b c d : ℕ) → a ≤ b → c ≤ d → RoseOrSaturated b c → RoseOrSaturated a d
rose_more a b c d h k r = ⊎_elim (λ x. inl (omega arith)) (λ x. inr (omega arith)) r

pub counted : {T : Type 0} (r : Bool) (a b : ℕ) (result : Result T Error) → GoesOn r a b → (IsErrOf result Error.Device → RoseOrSaturated a b) → CountsFaults r a b result
counted r a b result h d = record { later = h.later; reliable = h.reliable; device = d }

-- the device that a refused call failed for
pub failed_device : {T : Type 0} (r : Bool) (a b : ℕ) (result : Result T Error) (e : Error) → CountsFaults r a b result → result ≡ Err e → e ≡ Error.Device → RoseOrSaturated a b
failed_device r a b result e h was k = h.device (was ∙ ap (λ x. Err x) k)

-- what leads below at the end did so at the beginning
pub reaches_twice : {St : Type 0} (a b c : View St) → ReachesNoMore a b → ReachesNoMore b c → ReachesNoMore a c
reaches_twice a b c f g = λ p q w h. let x = g p q w h in f p q x.0 x.1

pub of_err : {T : Type 0} (e x : Error) → IsErrOf {T = T} (Err e) x → e ≡ x
of_err e x h = cc

module _ {St : Type 0} (l : LayerBelow) (commit_memory : Type 0) (old new : View St) (o : ℕ) (bytes : List ℕ) where
  -- a refusal with nothing written for it but what may be torn
  pub refused_first : (e : Error) → (IsTrue (keeps_over old l) → IsChanged o (length bytes) (partly (into bytes)) (values l.at old.place) (values l.at new.place))
      → ReachesNoMore old new → StaysFramed old new → MovesWithin Operation.Write o (length bytes) old new → new.pending ≡ None → GoesOn (old.abilities.is_reliable && l.is_reliable) old.fault_count new.fault_count → (e ≡ Error.Device → RoseOrSaturated old.fault_count new.fault_count)
      → allowed (first_reasons old l commit_memory o (length bytes)) e → HasWritten l commit_memory old new o bytes (Err e)
  refused_first e torn reaches framed moved spent goes device reasons = record {
    some = tt;
    done = λ k. tt;
    torn = torn;
    whole = λ k. tt;
    alone = tt;
    settled = tt;
    reaches = reaches;
    framed = framed;
    spent = spent;
    faults = counted _ _ _ _ goes (λ h. device (of_err e Error.Device h));
    refusals = reasons;
    outside = moved;
  }

  pub wrote_first : (n : ℕ) → 0 < n → n ≤ length bytes → (IsTrue (keeps_over old l) → IsChanged o n (into bytes) (values l.at old.place) (values l.at new.place))
      → (old.limits.whole Operation.Write o (length bytes) → n ≡ length bytes) → StandsAlone new.place o n → IsSettled IsOnRange old.limits.cause new.limits.cause old.limits.copies new.limits.copies o n
      → ReachesNoMore old new → StaysFramed old new → MovesWithin Operation.Write o (length bytes) old new → new.pending ≡ None → GoesOn (old.abilities.is_reliable && l.is_reliable) old.fault_count new.fault_count → HasWritten l commit_memory old new o bytes (Ok n)
  wrote_first n some within done whole alone settled reaches framed moved spent goes = record {
    some = (some, within);
    done = done;
    torn = λ k. tt;
    whole = whole;
    alone = alone;
    settled = settled;
    reaches = reaches;
    framed = framed;
    spent = spent;
    faults = counted _ _ _ _ goes (λ h. let z : ⊥ = cc in absurd z);
    refusals = tt;
    outside = moved;
  }

pub unchanged_values : {St : Type 0} (old new : View St) (below : ℕ → Value) (o n : ℕ) (how : Change) → IsUnchanged old new → IsTrue old.abilities.keeps_data → IsChanged o n (partly how) (values below old.place) (values below new.place)
unchanged_values old new below o n how u k =
    let same : (p : ℕ) → values below new.place p ≡ values below old.place p = λ p. ap (shown below) (u.places.same k p) in
    record { inside = λ i h. inl (same (o + i)); before = λ p h. same p; behind = λ p h. same p }

-- The first bytes of a range are written, so many of them.
pub record IsWritingOn {D St : Type 0} (view : D → View St) (l : LayerBelow) (old mid : D) (o : ℕ) (bytes : List ℕ) (count : ℕ) : Type 0 where
  pub within : count ≤ length bytes
  pub done : IsTrue (keeps_over (view old) l) → IsChanged o count (into bytes) (values l.at (view old).place) (values l.at (view mid).place)
  pub settled : IsSettled IsOnRange (view old).limits.cause (view mid).limits.cause (view old).limits.copies (view mid).limits.copies o count
  pub reaches : ReachesNoMore (view old) (view mid)
  pub framed : StaysFramed (view old) (view mid)
  pub alone : StandsAlone (view mid).place o count
  pub spent : (view mid).pending ≡ None
  pub goes : GoesOn ((view old).abilities.is_reliable && l.is_reliable) (view old).fault_count (view mid).fault_count
  pub once : (view old).limits.whole Operation.Write o (length bytes) → ((count ≡ 0) × (mid ≡ old)) ⊎ (count ≡ length bytes)
  pub outside : MovesWithin Operation.Write o (length bytes) (view old) (view mid)

settled_next : (old mid new : Causes) (c d f : Copies) (o m n : ℕ) → IsSettled IsOnRange old mid c d o m → IsSettled IsOnRange mid new d f (o + m) n → IsSettled IsOnRange old new c f o (m + n)
settled_next old mid new c d f o m n s t = record {
  causes = λ op a len q k e r h i j b x. s.causes op a len a len e r h (omega arith) (omega arith) (omega arith) (t.causes op a len q k e r (omega arith) (omega arith) j b x);
  copied = λ op a len q k p r h i j b x. s.copied op a len a len p r h (omega arith) (omega arith) (omega arith) (t.copied op a len q k p r (omega arith) (omega arith) j b x);
}

-- a chunk, and then the next
pub changed_next : (o c n : ℕ) (how : Change) (old mid new : ℕ → Value) → ((k : ℕ) (v v' w : Value) → how k v w → how k v' w) → IsChanged o c how old mid → IsChanged (o + c) n (λ k. how (c + k)) mid new → IsChanged o (c + n) how old new
changed_next o c n how old mid new any a b = record {
  inside = λ k h. ⊎_elim
      (λ below.
      let e : new (o + k) ≡ mid (o + k) = b.before (o + k) (omega arith) in
      subst (λ (v : Value). how k (old (o + k)) v) (sym e) (a.inside k below))
      (λ above.
      let t : c + (k - c) ≡ k = omega arith in
      let u : o + c + (k - c) ≡ o + k = omega arith in
      let x = b.inside (k - c) (omega arith) in
      let y : how k (mid (o + k)) (new (o + k)) = subst (λ (z : ℕ). how k (mid z) (new z)) u (subst (λ (z : ℕ). how z (mid (o + c + (k - c))) (new (o + c + (k - c)))) t x) in
      any k (mid (o + k)) (old (o + k)) (new (o + k)) y)
      (cases_lt k c);
  before = λ p h. b.before p (omega arith) ∙ a.before p h;
  behind = λ p h. b.behind p (omega arith) ∙ a.behind p (omega arith);
}

-- a part done, and then one that is torn
torn_next : (o c n : ℕ) (bytes : List ℕ) (old mid new : ℕ → Value) → IsChanged o c (into bytes) old mid → IsChanged (o + c) n (λ k. partly (into bytes) (c + k)) mid new → IsChanged o (c + n) (partly (into bytes)) old new
torn_next o c n bytes old mid new a b = record {
  inside = λ k h. ⊎_elim
      (λ below.
      let e : new (o + k) ≡ mid (o + k) = b.before (o + k) (omega arith) in
      inr (e ∙ a.inside k below))
      (λ above.
      let t : c + (k - c) ≡ k = omega arith in
      let u : o + c + (k - c) ≡ o + k = omega arith in
      let e : mid (o + k) ≡ old (o + k) = a.behind (o + k) (omega arith) in
      let x = b.inside (k - c) (omega arith) in
      let y : partly (into bytes) k (mid (o + k)) (new (o + k)) = subst (λ (z : ℕ). partly (into bytes) k (mid z) (new z)) u (subst (λ (z : ℕ). partly (into bytes) z (mid (o + c + (k - c))) (new (o + c + (k - c)))) t x) in
      ⊎_elim (λ p. inl (p ∙ e)) (λ p. inr p) y)
      (cases_lt k c);
  before = λ p h. b.before p (omega arith) ∙ a.before p h;
  behind = λ p h. b.behind p (omega arith) ∙ a.behind p (omega arith);
}

-- the rest of a list, as `&source[a..]` is read
rest_length : (a : ℕ) (xs : List ℕ) → length (take (length xs - a) (drop a xs)) ≡ length xs - a
rest_length a xs = simp (length-take, length-drop) (omega arith)

rest_at : (a k : ℕ) (xs : List ℕ) → a + k < length xs → slice_index (take (length xs - a) (drop a xs)) k ≡ slice_index xs (a + k)
rest_at a k xs h = let lt : k < length xs - a = omega arith in get_or-take (length xs - a) (drop a xs) k 0 lt ∙ get_or-drop a xs k 0

into_rest : (o a n : ℕ) (xs : List ℕ) (old new : ℕ → Value) → a + n ≤ length xs → IsChanged (o + a) n (into (take (length xs - a) (drop a xs))) old new → IsChanged (o + a) n (λ k. into xs (a + k)) old new
into_rest o a n xs old new h c = record { inside = λ k lt. c.inside k lt ∙ ap Byte (rest_at a k xs (omega arith)); before = c.before; behind = c.behind }

torn_rest : (o a n : ℕ) (xs : List ℕ) (old new : ℕ → Value) → a + n ≤ length xs → IsChanged (o + a) n (partly (into (take (length xs - a) (drop a xs)))) old new → IsChanged (o + a) n (λ k. partly (into xs) (a + k)) old new
torn_rest o a n xs old new h c = record {
  inside = λ k lt. ⊎_elim (λ e. inl e) (λ e. inr (e ∙ ap Byte (rest_at a k xs (omega arith)))) (c.inside k lt);
  before = c.before;
  behind = c.behind;
}

module _ {D St : Type 0} (view : D → View St) (l : LayerBelow) (old : D) (o : ℕ) (bytes : List ℕ) where
  pub nothing_written : AreCauses (view old) → (view old).pending ≡ None → IsWritingOn view l old old o bytes 0
  nothing_written laws spent = record {
    within = omega arith;
    done = λ k. record { inside = λ i h. absurd (omega arith); before = λ p h. refl; behind = λ p h. refl };
    settled = record {
      causes = λ op a n q m e r h i j k c. laws.part op a n q m e j k c;
      copied = λ op a n q m p r h i j k c. laws.part_copied op a n q m p j k c;
    };
    reaches = λ p q w h. (w, h);
    framed = same_frame _;
    alone = λ p i q w h. absurd (omega (arith, i.0, i.1));
    spent = spent;
    goes = record { later = omega arith; reliable = λ t. refl };
    once = λ h. inl (refl, refl);
    outside = moved_none Operation.Write o (length bytes) (view old);
  }

  module _ (mid new : D) (done : ℕ) (sofar : IsWritingOn view l old mid o bytes done) where
    same_keeps : IsTrue (keeps_over (view old) l) → IsTrue (keeps_over (view mid) l)
    same_keeps k = rw sofar.framed.kind.abilities k

    next_goes : GoesOn ((view mid).abilities.is_reliable && l.is_reliable) (view mid).fault_count (view new).fault_count → GoesOn ((view old).abilities.is_reliable && l.is_reliable) (view old).fault_count (view new).fault_count
    next_goes h = goes_on_twice _ _ _ _ sofar.goes (record { later = h.later; reliable = λ t. h.reliable (rw sofar.framed.kind.abilities t) })

    next_moves : MovesWithin Operation.Write (o + done)
        (length (take (length bytes - done) (drop done bytes))) (view mid) (view new)
        → MovesWithin Operation.Write o (length bytes) (view old) (view new)
    next_moves h =
        let rest = take (length bytes - done) (drop done bytes) in
        let len : length rest ≡ length bytes - done = rest_length done bytes in
        moved_then Operation.Write o (length bytes) (view old) (view mid) (view new) (o + done)
        (length rest) sofar.framed.kind (omega arith) (omega (arith, len, sofar.within))
        sofar.outside h

    pub wrote_next : (n : ℕ) → HasWritten l (CommitMayTakeMemory view mid) (view mid) (view new) (o + done) (take (length bytes - done) (drop done bytes)) (Ok n) → IsWritingOn view l old new o bytes (done + n)
    wrote_next n h =
        let len = rest_length done bytes in
        let fit : done + n ≤ length bytes = omega (arith, h.some.1, sofar.within) in
        record {
          within = fit;
          done = λ k. changed_next o done n (into bytes) _ _ _ (λ i v u w e. e) (sofar.done k) (into_rest o done n bytes _ _ fit (h.done (same_keeps k)));
          settled = settled_next _ _ _ _ _ _ o done n sofar.settled h.settled;
          reaches = reaches_twice (view old) (view mid) (view new) sofar.reaches h.reaches;
          framed = framed_twice (view old) (view mid) (view new) sofar.framed h.framed;
          alone = λ p i q w e. ⊎_elim
              (λ below. let s = h.reaches p q w e in sofar.alone p (i.0, below) q s.0 s.1)
              (λ above. h.alone p (above, omega (arith, i.1)) q w e)
              (cases_lt p (o + done));
          spent = h.spent;
          goes = next_goes (goes_on _ _ _ _ h.faults);
          once = λ free. ⊎_elim
              (λ z.
              let a : o + done ≡ o = omega (arith, z.0) in
              let b : length (take (length bytes - done) (drop done bytes)) ≡ length bytes = omega (arith, z.0) in
              let c : (view mid).limits.whole Operation.Write o (length bytes) = subst (λ (d : D). (view d).limits.whole Operation.Write o (length bytes)) (sym z.1) free in
              let d : n ≡ length (take (length bytes - done) (drop done bytes)) = h.whole (rw (a, b) c) in
              inr (omega (arith, z.0)))
              (λ z. let y : n ≡ 0 = omega arith in inr (omega arith))
              (sofar.once free);
          outside = next_moves h.outside;
        }

    weaker : done < length bytes → IsWeaker (first_reasons (view mid) l (CommitMayTakeMemory view mid) (o + done) (length bytes - done)) (write_reasons (view old) l (CommitMayTakeMemory view old) o (length bytes))
    weaker lt = record {
      read_only = λ h. h;
      beyond_disk = λ h. (h.0, (omega (arith, h.1), omega (arith, h.1)), sofar.framed.ends (h.0) (h.2));
      range_overflow = λ h. h;
      cause = λ e c. ⊎_elim
          (λ a. inl (sofar.settled.causes Operation.Write o (length bytes) (o + done) (length bytes - done) e tt (omega arith) (omega arith) (omega arith) (omega arith) a))
          (λ a. inr (a.0, a.1, a.2, (λ p i. sofar.settled.copied Operation.Write o (length bytes) (o + done) (length bytes - done) p tt (omega arith) (omega arith) (omega arith) (omega arith) (a.3 p i)), a.4))
          c;
      device = λ h. h;
      memory = λ h. ⊎_elim
          (λ taken. inl (λ free. ⊎_elim
          (λ z.
          let a : o + done ≡ o = omega (arith, z.0) in
          let b : length bytes - done ≡ length bytes = omega (arith, z.0) in
          let c : (view mid).limits.no_memory Operation.Write o (length bytes) = subst (λ (d : D). (view d).limits.no_memory Operation.Write o (length bytes)) (sym z.1) free.1 in
          taken (rw (a, b) c))
          (λ z. absurd (omega arith))
          (sofar.once free.0)))
          (λ may. inr (may.0, kind_twice (view old) (view mid) (view may.0) sofar.framed.kind may.1, may.2))
          h;
      foreign_mapping = λ h. h;
    }

    pub refused_next : (e : Error) → done < length bytes → HasWritten l (CommitMayTakeMemory view mid) (view mid) (view new) (o + done) (take (length bytes - done) (drop done bytes)) (Err e) → HasWrittenAll l (CommitMayTakeMemory view old) (view old) (view new) o bytes (Err e)
    refused_next e lt h =
        let len = rest_length done bytes in
        let whole : done + (length bytes - done) ≡ length bytes = omega arith in
        record {
          done = λ k. tt;
          torn = λ k.
              let t : IsChanged (o + done) (length bytes - done) (partly (into (take (length bytes - done) (drop done bytes)))) (values l.at (view mid).place) (values l.at (view new).place) = rw len at (h.torn (same_keeps k)) in
              rw whole at (torn_next o done (length bytes - done) bytes _ _ _ (sofar.done k) (torn_rest o done (length bytes - done) bytes _ _ (omega arith) t));
          alone = tt;
          settled = tt;
          reaches = reaches_twice (view old) (view mid) (view new) sofar.reaches h.reaches;
          framed = framed_twice (view old) (view mid) (view new) sofar.framed h.framed;
          spent = h.spent;
          faults = counted _ _ _ _ (next_goes (goes_on _ _ _ _ h.faults)) (λ x. rose_more (view old).fault_count (view mid).fault_count (view new).fault_count (view new).fault_count sofar.goes.later (omega arith) (h.faults.device (ap (λ y. Err y) (of_err e Error.Device x))));
          refusals = allowed_more _ _ (weaker lt) e (rw len at h.refusals);
          outside = next_moves h.outside;
        }

  pub all_written : (new : D) (done : ℕ) → done ≡ length bytes → IsWritingOn view l old new o bytes done → HasWrittenAll l (CommitMayTakeMemory view old) (view old) (view new) o bytes (Ok tt)
  all_written new done e h = record {
    done = λ k. subst (λ (n : ℕ). IsChanged o n (into bytes) (values l.at (view old).place) (values l.at (view new).place)) e (h.done k);
    torn = λ k. tt;
    alone = subst (λ (n : ℕ). StandsAlone (view new).place o n) e h.alone;
    settled = subst (λ (n : ℕ). IsSettled IsOnRange (view old).limits.cause (view new).limits.cause (view old).limits.copies (view new).limits.copies o n) e h.settled;
    reaches = h.reaches;
    framed = h.framed;
    spent = h.spent;
    faults = counted _ _ _ _ h.goes (λ x. let z : ⊥ = cc in absurd z);
    refusals = tt;
    outside = h.outside;
  }
