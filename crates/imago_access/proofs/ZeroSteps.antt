-- SPDX-License-Identifier: MIT
use Rattle.std.proofs.Common.{◌≡◌, ℕ, ◌+◌, ◌-◌, ◌<◌, ◌≤◌, ◌⊎◌, ⊎_elim, inl, inr, Bool, true, None, sym, ap, ◌∙◌, subst, arith, Result, Ok, Err}
use Rattle.std.proofs.lemmas.Bool.{cases_lt}
use Rattle.std.specs.Prelude.{List, length, slice_index, EachIndex, IfOk, IfErr, OnErr, IsOk}
use Rattle.imago_storage.specs.declared.error.Error.{Error}
use Rattle.imago_storage.specs.Faults.{CountsFaults, RoseOrSaturated}
use Rattle.imago_drivers.specs.Operation.{Operation, Zero}
use Rattle.imago_drivers.specs.Outside.{StaysOutside}
use Rattle.imago_drivers.specs.Place.{Value, Byte, Place, values, shown}
use Rattle.imago_drivers.specs.Reasons.{allowed}
use Rattle.imago_drivers.specs.Causes.{IsSettled, IsOnRange, AddsNone}
use Rattle.imago_drivers.specs.View.{View}
use Rattle.imago_drivers.specs.Laws.{AreCauses}
use Rattle.imago_drivers.specs.Changes.{IsChanged, zeroes, partly, into}
use Rattle.imago_drivers.specs.Frame.{ReachesNoMore}
use Rattle.imago_drivers.specs.LayerBelow.{LayerBelow}
use Rattle.imago_drivers.specs.Done.{HasDone, range_reasons}
use Rattle.imago_access.specs.Framed.{StaysFramed}
use Rattle.imago_access.specs.declared.access.FormatAccess.{FormatAccess}
use Rattle.imago_access.specs.Chain.{driver, backing, disk_value, lent_image}
use Rattle.imago_access.specs.Lending.{with_driver}
use Rattle.imago_access.specs.Calls.{devices_reliable, FailsTest, Overflows, settles}
use Rattle.imago_access.specs.Zeroing.{operation_of, AreZero, IsLaterCount, Carries, HasZeroed, HasZeroedPart, data_reasons, zero_reasons, IsZeroWrite}
use Rattle.imago_access.specs.Writing.{StandsAlone, HasWritten, first_reasons}
use Rattle.imago_access.proofs.Weaker.{refused_more, and_left}
use Rattle.imago_access.specs.declared.mapping.Mapping.TheVariants as M
use Rattle.imago_access.specs.declared.zero.ZeroCall.{ZeroCall}
use Rattle.imago_access.specs.declared.zero.ZeroCall.TheVariants as Z
use Rattle.imago_access.specs.Target.{target}
use Rattle.imago_access.specs.Resolved.{LeadsToZero, IsResolved}
use Rattle.imago_access.proofs.Chains.{lower_deep}
use Rattle.imago_access.proofs.Targets.{target_shows, zero_value}
use Rattle.imago_access.proofs.Images.{driver_with, backing_with, changed_image, not_failed}
use Rattle.imago_access.specs.Moves.{MakesZeroes, MovesWithin}
use Rattle.imago_access.proofs.Moved.{moved_outside, moved_writing, moved_zeroing}

-- a part of a range that is zeroed is a range that is partly zeroed
pub zeroed_part : (o n q m : ℕ) (old new : ℕ → Value) → (m ≡ 0) ⊎ ((o ≤ q) × (q + m ≤ o + n)) → IsChanged q m zeroes old new → IsChanged o n (partly zeroes) old new
zeroed_part o n q m old new within h = record {
  inside = λ k lt. ⊎_elim
      (λ below. inl (h.before (o + k) below))
      (λ above. ⊎_elim
      (λ in_part.
      let e : q + (o + k - q) ≡ o + k = omega arith in
      let z : new (o + k) ≡ Byte 0 = rw e at (h.inside (o + k - q) (omega arith)) in
      inr z)
      (λ behind. inl (h.behind (o + k) behind))
      (cases_lt (o + k) (q + m)))
      (cases_lt (o + k) q);
  before = λ p lt. ⊎_elim (λ none. outside p (⊎_elim (λ a. inl a) (λ b. inr (omega arith)) (cases_lt p q))) (λ some. h.before p (omega (arith, some.0))) within;
  behind = λ p le. ⊎_elim (λ none. outside p (⊎_elim (λ a. inl a) (λ b. inr (omega arith)) (cases_lt p q))) (λ some. h.behind p (omega (arith, some.1))) within;
}
  where
    outside : (p : ℕ) → (p < q) ⊎ (q + m ≤ p) → new p ≡ old p
    outside p s = ⊎_elim (λ a. h.before p a) (λ b. h.behind p b) s

-- a place that shows 0 over whatever is below isn't left to it
zero_alone : (place : ℕ → Place) (o n : ℕ) → ((k : ℕ) → k < n → values (λ (p : ℕ). Byte 1) place (o + k) ≡ Byte 0) → StandsAlone place o n
zero_alone place o n h p i q w e =
    let t : o + (p - o) ≡ p = omega (arith, i.0) in
    let z : values (λ (p : ℕ). Byte 1) place p ≡ Byte 0 = rw t at (h (p - o) (omega (arith, i.0, i.1))) in
    let y : Byte 1 ≡ Byte 0 = sym (ap (shown (λ (p : ℕ). Byte 1)) e) ∙ z in
    cc

-- what stands alone still does, where no place leads below that didn't
pub alone_later : {St : Type 0} (a b : View St) (o n : ℕ) → StandsAlone a.place o n → ReachesNoMore a b → StandsAlone b.place o n
alone_later a b o n h r p i q w e = let x = r p q w e in h p i q x.0 x.1

pub alone_more : (place : ℕ → Place) (o n m : ℕ) → StandsAlone place o n → StandsAlone place (o + n) m → StandsAlone place o (n + m)
alone_more place o n m a b p i = ⊎_elim (λ below. a p (i.0, below)) (λ above. b p (above, omega (arith, i.1))) (cases_lt p (o + n))

-- what adds no cause carries each range
pub none_carried : {St : Type 0} (old new : View St) → AreCauses old → AddsNone old.limits.cause new.limits.cause old.limits.copies new.limits.copies → ReachesNoMore old new → (a m : ℕ) → Carries a m old new
none_carried old new law none reaches a m = record {
  settled = record {
    causes = λ op b n q k e r h i j x c. law.part op b n q k e j x (none.causes op q k e c);
    copied = λ op b n q k p r h i j x c. law.part_copied op b n q k p j x (none.copied op q k p c);
  };
  reaches = reaches;
}

module _ {D St : Type 0} (view : D → View St) (x : FormatAccess D) (d : D) where
  -- a part of the driver's zeroing, as the image sees it
  pub part_zeroed : (op : Operation) (o n : ℕ) (result : Result (ℕ × ℕ) Error) → AreCauses (view (driver x)) → HasDone (λ f k. zeroes) op o n (view (driver x)) (view d) result
      → AddsNone (view (driver x)).limits.cause (view d).limits.cause (view (driver x)).limits.copies (view d).limits.copies → ReachesNoMore (view (driver x)) (view d) → (view d).pending ≡ None
      → StaysFramed (view (driver x)) (view d)
      → StaysOutside (view (driver x)).abilities.keeps_data (view (driver x)).abilities.block o n
      (view (driver x)).place (view d).place
      → CountsFaults (view (driver x)).abilities.is_reliable (view (driver x)).fault_count (view d).fault_count result
      → IfErr result (allowed (range_reasons (view (driver x)) op o n)) → HasZeroedPart view op o n x (with_driver x d) result
  part_zeroed op o n result law done none reaches spent framed outside faults refusals =
      let e : d ≡ driver (with_driver x d) = sym (driver_with x d) in
      record {
        left = record {
          torn = λ k. torn result (done.inside) (done.done (and_left _ _ k) (lent_image view (backing x)).at) (done.refused (and_left _ _ k) (lent_image view (backing x)).at);
          below = backing_with x d;
          framed = subst (λ (y : D). StaysFramed (view (driver x)) (view y)) e framed;
          reaches = subst (λ (y : D). ReachesNoMore (view (driver x)) (view y)) e reaches;
          spent = subst (λ (y : D). (view y).pending ≡ None) e spent;
          count = subst (λ (y : D). IsLaterCount (devices_reliable view x) (view (driver x)).fault_count (view y).fault_count) e (record { later = faults.later; reliable = λ t. faults.reliable (and_left _ _ t) });
          outside = subst (λ (y : D). MovesWithin Zero o n (view (driver x)) (view y)) e
              (moved_outside Zero o n (view (driver x)) (view d) outside);
        };
        inside = done.inside;
        whole = done.whole;
        done = λ k. shown_zero result (done.done (and_left _ _ k) (lent_image view (backing x)).at);
        alone = λ k. own_zero result (done.done (and_left _ _ k) (λ (p : ℕ). Byte 1));
        carries = λ a m. subst (λ (y : D). Carries a m (view (driver x)) (view y)) e (none_carried (view (driver x)) (view d) law none reaches a m);
        faults = subst (λ (y : D). CountsFaults (devices_reliable view x) (view (driver x)).fault_count (view y).fault_count result) e (record { later = faults.later; reliable = λ t. faults.reliable (and_left _ _ t); device = faults.device });
        refusals = refusals;
      }
    where
      torn : (r : Result (ℕ × ℕ) Error) → IfOk r (λ s. (s.1 ≡ 0) ⊎ ((o ≤ s.0) × (s.0 + s.1 ≤ o + n))) → IfOk r (λ s. IsChanged s.0 s.1 zeroes (values (lent_image view (backing x)).at (view (driver x)).place) (values (lent_image view (backing x)).at (view d).place)) → OnErr r (IsChanged o n (partly zeroes) (values (lent_image view (backing x)).at (view (driver x)).place) (values (lent_image view (backing x)).at (view d).place))
          → IsChanged o n (partly zeroes) (disk_value view x) (disk_value view (with_driver x d))
      torn (Ok s) i c f = changed_image view x d (λ a b. IsChanged o n (partly zeroes) a b) (zeroed_part o n s.0 s.1 _ _ i c)
      torn (Err z) i c f = changed_image view x d (λ a b. IsChanged o n (partly zeroes) a b) f

      own_zero : (r : Result (ℕ × ℕ) Error) → IfOk r (λ s. IsChanged s.0 s.1 zeroes (values (λ (p : ℕ). Byte 1) (view (driver x)).place) (values (λ (p : ℕ). Byte 1) (view d).place)) → IfOk r (λ s. StandsAlone (view (driver (with_driver x d))).place s.0 s.1)
      own_zero (Ok s) c = subst (λ (y : D). StandsAlone (view y).place s.0 s.1) (sym (driver_with x d)) (zero_alone (view d).place s.0 s.1 (λ k lt. c.inside k lt))
      own_zero (Err z) c = tt

      shown_zero : (r : Result (ℕ × ℕ) Error) → IfOk r (λ s. IsChanged s.0 s.1 zeroes (values (lent_image view (backing x)).at (view (driver x)).place) (values (lent_image view (backing x)).at (view d).place)) → IfOk r (λ s. IsChanged s.0 s.1 zeroes (disk_value view x) (disk_value view (with_driver x d)))
      shown_zero (Ok s) c = changed_image view x d (λ a b. IsChanged s.0 s.1 zeroes a b) c
      shown_zero (Err z) c = tt

-- what is mapped as zeroes is zero
pub zero_mapped : {D St : Type 0} (view : D → View St) (x : FormatAccess D) (o most n : ℕ) (explicit : Bool) → IsResolved view x o most (M.Zero explicit) n → AreZero (disk_value view x) o n
zero_mapped view x o most n explicit h p i =
    let e : o + (p - o) ≡ p = omega (arith, i.0) in
    let z : disk_value view x (o + (p - o)) ≡ Byte 0 = zero_value explicit (p - o) (target view x (o + (p - o))) _ (target_shows view x (o + (p - o))) (h.leads (p - o) (omega (arith, i.0, i.1))) in
    rw e at z

-- what is mapped as explicit zeroes isn't left to the layer below
pub explicit_alone : {D St : Type 0} (view : D → View St) (x : FormatAccess D) (o most n : ℕ) → IsResolved view x o most (M.Zero true) n → StandsAlone (view (driver x)).place o n
explicit_alone view x o most n h p i q w e =
    let t : o + (p - o) ≡ p = omega (arith, i.0) in
    let l : LeadsToZero true (target view x p) = rw t at (h.leads (p - o) (omega (arith, i.0, i.1))) in
    let deep : 0 < (target view x p).depth = lower_deep view x p q w e in
    ⊎_elim
    (λ top. omega (arith, top.1, deep))
    (λ r. ⊎_elim (λ below. let z = below.3 in cc) (λ past. let z = past.2 in cc) r)
    l

pub zero_more : (at : ℕ → Value) (o n m : ℕ) → AreZero at o n → AreZero at (o + n) m → AreZero at o (n + m)
zero_more at o n m a b p i = ⊎_elim (λ below. a p (i.0, below)) (λ above. b p (above, omega (arith, i.1))) (cases_lt p (o + n))

-- bytes that are all zero
zero_bytes : (bytes : List ℕ) (o n : ℕ) (old new : ℕ → Value) → n ≤ length bytes → EachIndex bytes (λ k. slice_index bytes k ≡ 0) → IsChanged o n (into bytes) old new → IsChanged o n zeroes old new
zero_bytes bytes o n old new le z h = record { inside = λ k lt. h.inside k lt ∙ ap Byte (z k (omega arith)); before = h.before; behind = h.behind }

torn_bytes : (bytes : List ℕ) (o : ℕ) (old new : ℕ → Value) → EachIndex bytes (λ k. slice_index bytes k ≡ 0) → IsChanged o (length bytes) (partly (into bytes)) old new → IsChanged o (length bytes) (partly zeroes) old new
torn_bytes bytes o old new z h = record { inside = λ k lt. ⊎_elim (λ e. inl e) (λ e. inr (e ∙ ap Byte (z k lt))) (h.inside k lt); before = h.before; behind = h.behind }

-- zeroes that a driver writes over what it is lent, as the image sees them
pub piece_written : {D St : Type 0} (view : D → View St) (x : FormatAccess D) (d : D) (o : ℕ) (bytes : List ℕ) (result : Result ℕ Error) (commit_memory : Type 0) (l : LayerBelow) → l ≡ lent_image view (backing x) → EachIndex bytes (λ k. slice_index bytes k ≡ 0)
    → HasWritten l commit_memory (view (driver x)) (view d) o bytes result → HasZeroed view o (length bytes) (λ (n : ℕ). n) (data_reasons view x o (length bytes)) x (with_driver x d) result
piece_written {D} view x d o bytes result commit_memory l same z h =
    let w = subst (λ (m : LayerBelow). HasWritten m commit_memory (view (driver x)) (view d) o bytes result) same h in
    let e : d ≡ driver (with_driver x d) = sym (driver_with x d) in
    record {
      left = record {
        torn = λ k. torn result w.some (w.done k) (w.torn k);
        below = backing_with x d;
        framed = subst (λ (y : D). StaysFramed (view (driver x)) (view y)) e w.framed;
        reaches = subst (λ (y : D). ReachesNoMore (view (driver x)) (view y)) e w.reaches;
        spent = subst (λ (y : D). (view y).pending ≡ None) e w.spent;
        count = subst (λ (y : D). IsLaterCount (devices_reliable view x) (view (driver x)).fault_count (view y).fault_count) e (record { later = w.faults.later; reliable = w.faults.reliable });
        outside = subst (λ (y : D). MovesWithin Zero o (length bytes) (view (driver x)) (view y)) e
            (moved_writing Zero o (length bytes) (view (driver x)) (view d) w.outside);
      };
      done = λ k. done result w.some (w.done k);
      alone = λ k. subst (λ (y : D). IfOk result (λ n. StandsAlone (view y).place o n)) e w.alone;
      carries = carried result w.some w.settled (subst (λ (y : D). ReachesNoMore (view (driver x)) (view y)) e w.reaches);
      device = λ f. inl (subst (λ (y : D). RoseOrSaturated (view (driver x)).fault_count (view y).fault_count) e (w.faults.device f));
      refusals = refused_more (first_reasons (view (driver x)) (lent_image view (backing x)) commit_memory o (length bytes)) (data_reasons view x o (length bytes)) result (record {
        read_only = λ k. k;
        beyond_disk = λ k. k;
        range_overflow = λ k. k;
        cause = λ r k. inl k;
        device = λ k. k;
        memory = λ k. tt;
        foreign_mapping = λ k. k;
      }) w.refusals;
    }
  where
    torn : (r : Result ℕ Error) → IfOk r (λ n. (0 < n) × (n ≤ length bytes)) → IfOk r (λ n. IsChanged o n (into bytes) (values (lent_image view (backing x)).at (view (driver x)).place) (values (lent_image view (backing x)).at (view d).place))
        → OnErr r (IsChanged o (length bytes) (partly (into bytes)) (values (lent_image view (backing x)).at (view (driver x)).place) (values (lent_image view (backing x)).at (view d).place)) → IsChanged o (length bytes) (partly zeroes) (disk_value view x) (disk_value view (with_driver x d))
    torn (Ok n) i c f = changed_image view x d (λ a b. IsChanged o (length bytes) (partly zeroes) a b) (zeroed_part o (length bytes) o n _ _ (inr (omega arith, omega (arith, i.1))) (zero_bytes bytes o n _ _ i.1 z c))
    torn (Err r) i c f = changed_image view x d (λ a b. IsChanged o (length bytes) (partly zeroes) a b) (torn_bytes bytes o _ _ z f)

    done : (r : Result ℕ Error) → IfOk r (λ n. (0 < n) × (n ≤ length bytes)) → IfOk r (λ n. IsChanged o n (into bytes) (values (lent_image view (backing x)).at (view (driver x)).place) (values (lent_image view (backing x)).at (view d).place)) → IfOk r (λ n. IsChanged o n zeroes (disk_value view x) (disk_value view (with_driver x d)))
    done (Ok n) i c = changed_image view x d (λ a b. IsChanged o n zeroes a b) (zero_bytes bytes o n _ _ i.1 z c)
    done (Err r) i c = tt

    carried : (r : Result ℕ Error) → IfOk r (λ n. (0 < n) × (n ≤ length bytes)) → IfOk r (λ n. IsSettled IsOnRange (view (driver x)).limits.cause (view d).limits.cause (view (driver x)).limits.copies (view d).limits.copies o n) → ReachesNoMore (view (driver x)) (view (driver (with_driver x d)))
        → IfOk r (λ n. Carries o (length bytes) (view (driver x)) (view (driver (with_driver x d))))
    carried (Ok n) i s reaches = record {
      settled = subst (λ (y : D). IsSettled IsOnRange (view (driver x)).limits.cause (view y).limits.cause (view (driver x)).limits.copies (view y).limits.copies o (length bytes)) (sym (driver_with x d)) (record {
        causes = λ op a m q k f h j g b c t. s.causes op a m q k f h j (omega (arith, i.1)) b c t;
        copied = λ op a m q k p h j g b c t. s.copied op a m q k p h j (omega (arith, i.1)) b c t;
      });
      reaches = reaches;
    }
    carried (Err r) i s reaches = tt

-- a zero write that passed its tests
pub zero_call : {D St : Type 0} (view : D → View St) (op : Operation) (x new : FormatAccess D) (o n : ℕ) (result : Result (Unit {0}) Error) → (view (driver x)).abilities.is_writable ≡ true → o + n ≤ (view (driver x)).size → (Overflows op o n → ⊥)
    → MakesZeroes op → (n ≡ 0 → IsOk result × (new ≡ x)) → HasZeroed view o n (λ (u : Unit {0}). n) (zero_reasons view x op o n) x new result → IsZeroWrite view op x new o n result
zero_call view op x new o n result w fits small makes idle h = record {
  tested = λ z g. absurd (not_failed (view (driver x)) op o n w fits small z g);
  idle = λ i passed. idle i;
  done = λ k. done result (h.done k) (h.alone k);
  torn = λ k. torn result (h.left.torn k);
  reaches = λ l. h.left.reaches;
  settled = settled result h.carries;
  ends = h.left.framed.ends;
  no_shorter = h.left.framed.no_shorter;
  same_size = h.left.framed.size;
  kept = record { below = h.left.below; kind = h.left.framed.kind };
  nothing_pending = h.left.spent;
  faults = record { later = h.left.count.later; reliable = h.left.count.reliable; device = h.device };
  refusals = refused result h.refusals;
  outside = moved_zeroing op o n (view (driver x)) (view (driver new)) makes h.left.outside;
}
  where
    done : (r : Result (Unit {0}) Error) → IfOk r (λ u. IsChanged o n zeroes (disk_value view x) (disk_value view new)) → IfOk r (λ u. StandsAlone (view (driver new)).place o n)
        → IfOk r (λ u. IsChanged o n zeroes (disk_value view x) (disk_value view new) × StandsAlone (view (driver new)).place o n)
    done (Ok u) c a = (c, a)
    done (Err e) c a = tt

    torn : (r : Result (Unit {0}) Error) → IsChanged o n (partly zeroes) (disk_value view x) (disk_value view new) → OnErr r (IsChanged o n (partly zeroes) (disk_value view x) (disk_value view new))
    torn (Ok u) c = tt
    torn (Err e) c = c

    settled : (r : Result (Unit {0}) Error) → IfOk r (λ u. Carries o n (view (driver x)) (view (driver new))) → IfOk r (λ u. IsSettled (settles op) (view (driver x)).limits.cause (view (driver new)).limits.cause (view (driver x)).limits.copies (view (driver new)).limits.copies o n)
    settled (Ok u) c = record {
      causes = λ a b m q k e i. c.settled.causes a b m q k e i.0;
      copied = λ a b m q k p i. c.settled.copied a b m q k p i.0;
    }
    settled (Err e) c = tt

    refused : (r : Result (Unit {0}) Error) → IfErr r (allowed (zero_reasons view x op o n)) → IfErr r (λ e. FailsTest (view (driver x)) op o n e ⊎ allowed (zero_reasons view x op o n) e)
    refused (Ok u) c = tt
    refused (Err e) c = inr c

pub zeroes_range : (call : ZeroCall) → IsOnRange (operation_of call)
zeroes_range Z.EnsureZero = tt
zeroes_range Z.DiscardToZero = tt
