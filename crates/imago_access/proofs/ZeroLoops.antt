-- SPDX-License-Identifier: MIT
use Rattle.std.proofs.Common.{◌≡◌, ℕ, ◌+◌, ◌-◌, ◌<◌, ◌≤◌, ◌⊎◌, ◌&&◌, ⊎_elim, inl, inr, false, Option, Some, None, refl, sym, ap, ◌∙◌, subst, arith, Result, Ok, Err, Box, Global, max}
use Rattle.std.proofs.lemmas.Bool.{cases_lt}
use Rattle.std.specs.Prelude.{IsTrue, IsErrOf}
use Rattle.imago_storage.specs.declared.error.Error.{Error}
use Rattle.imago_drivers.specs.Operation.{Operation, Map, Write, Zero}
use Rattle.imago_drivers.specs.Place.{Value, Byte}
use Rattle.imago_drivers.specs.Reasons.{Reasons, allowed}
use Rattle.imago_drivers.specs.Causes.{CauseOver, IsOnRange}
use Rattle.imago_drivers.specs.LayerBelow.{LayerBelow}
use Rattle.imago_drivers.specs.View.{View}
use Rattle.imago_drivers.specs.Laws.{AreCauses}
use Rattle.imago_drivers.specs.Changes.{IsChanged, zeroes, partly}
use Rattle.imago_drivers.specs.Done.{range_reasons}
use Rattle.imago_access.specs.Framed.{StaysFramed}
use Rattle.imago_access.specs.declared.access.FormatAccess.{FormatAccess, is-FormatAccess', out-FormatAccess, back-FormatAccess-backing}
use Rattle.imago_access.specs.Chain.{driver, backing, unboxed, disk_value, is_reliable, lent_image, IsReached, chain_cause, cause_below, keeps_data}
use Rattle.imago_access.specs.ChainLaws.{reached_wider}
use Rattle.imago_access.specs.Calls.{devices_reliable}
use Rattle.imago_access.specs.Resolved.{chain_map_reasons}
use Rattle.imago_access.specs.Zeroing.{AreZero, IsPartlyZeroed, Carries, HasZeroed, HasZeroedPart, IsZeroedByDriver, IsFree, data_reasons, zero_reasons}
use Rattle.imago_access.specs.Writing.{StandsAlone}
use Rattle.imago_access.proofs.ZeroSteps.{alone_later, alone_more}
use Rattle.imago_access.proofs.Chains.{reliable_out, cause_here, cause_lower}
use Rattle.imago_access.proofs.Weaker.{IsWeaker, allowed_more}
use Rattle.imago_access.proofs.Written.{framed_twice, same_frame, settled_twice}
use Rattle.imago_access.proofs.Writes.{of_err, changed_next, rose_more}
use Rattle.imago_access.proofs.Moved.{AreGranulesRound, moved_none, moved_then, moved_granules}

-- zeroes over a range, and then over a part of it
torn_twice : (o n q m : ℕ) (f g h : ℕ → Value) → o ≤ q → q + m ≤ o + n → IsChanged o n (partly zeroes) f g → IsChanged q m (partly zeroes) g h → IsChanged o n (partly zeroes) f h
torn_twice o n q m f g h le fits a b = record {
  inside = λ k lt. ⊎_elim (λ e. ⊎_elim (λ s. inl (e ∙ s)) (λ z. inr (e ∙ z)) (a.inside k lt)) (λ z. inr z) (here (o + k));
  before = λ p lt. b.before p (omega arith) ∙ a.before p lt;
  behind = λ p ge. b.behind p (omega arith) ∙ a.behind p ge;
}
  where
    here : (p : ℕ) → (h p ≡ g p) ⊎ (h p ≡ Byte 0)
    here p = ⊎_elim
        (λ below. inl (b.before p below))
        (λ above. ⊎_elim
        (λ inside. let e : q + (p - q) ≡ p = omega arith in rw e at (b.inside (p - q) (omega arith)))
        (λ behind. inl (b.behind p behind))
        (cases_lt p (q + m)))
        (cases_lt p q)

-- a range that is partly zero, and then all of it
zeroed_then : (o n : ℕ) (f g h : ℕ → Value) → IsChanged o n (partly zeroes) f g → IsChanged o n zeroes g h → IsChanged o n zeroes f h
zeroed_then o n f g h a b = record { inside = λ k lt. b.inside k lt; before = λ p lt. b.before p lt ∙ a.before p lt; behind = λ p ge. b.behind p ge ∙ a.behind p ge }

-- a part is zeroed, and then what stands before it
zeroed_before : (o s l : ℕ) (f g h : ℕ → Value) → o ≤ s → IsChanged s l zeroes f g → IsChanged o (s - o) zeroes g h → IsChanged o (s - o + l) zeroes f h
zeroed_before o s l f g h le a b = record {
  inside = λ k lt. ⊎_elim
      (λ gap. b.inside k (omega arith))
      (λ part.
      let e : s + (o + k - s) ≡ o + k = omega arith in
      let z : g (o + k) ≡ Byte 0 = rw e at (a.inside (o + k - s) (omega arith)) in
      b.behind (o + k) (omega arith) ∙ z)
      (cases_lt (o + k) s);
  before = λ p lt. b.before p lt ∙ a.before p (omega arith);
  behind = λ p ge. b.behind p (omega arith) ∙ a.behind p (omega arith);
}

-- whole granules of which only a range isn't zero already
granules_torn : (o n s m : ℕ) (f g : ℕ → Value) → ((p : ℕ) → s ≤ p → p < o → f p ≡ Byte 0) → ((p : ℕ) → o + n ≤ p → p < s + m → f p ≡ Byte 0) → IsChanged s m (partly zeroes) f g → IsChanged o n (partly zeroes) f g
granules_torn o n s m f g head tail a = record {
  inside = λ k lt. here (o + k);
  before = λ p lt. ⊎_elim (λ out. a.before p out) (λ inside. stays p (⊎_elim (λ e. inl e) (λ z. inr (head p inside lt, z)) (here p))) (cases_lt p s);
  behind = λ p ge. ⊎_elim (λ inside. stays p (⊎_elim (λ e. inl e) (λ z. inr (tail p ge inside, z)) (here p))) (λ out. a.behind p out) (cases_lt p (s + m));
}
  where
    here : (p : ℕ) → (g p ≡ f p) ⊎ (g p ≡ Byte 0)
    here p = ⊎_elim
        (λ below. inl (a.before p below))
        (λ above. ⊎_elim
        (λ inside. let e : s + (p - s) ≡ p = omega arith in rw e at (a.inside (p - s) (omega arith)))
        (λ behind. inl (a.behind p behind))
        (cases_lt p (s + m)))
        (cases_lt p s)

    stays : (p : ℕ) → (g p ≡ f p) ⊎ ((f p ≡ Byte 0) × (g p ≡ Byte 0)) → g p ≡ f p
    stays p s = ⊎_elim (λ e. e) (λ z. z.1 ∙ sym z.0) s

module _ {St : Type 0} where
  pub carries_none : (v : View St) → AreCauses v → (o n : ℕ) → Carries o n v v
  carries_none v law o n = record {
    settled = record {
      causes = λ op b m q k e r h i j x c. law.part op b m q k e j x c;
      copied = λ op b m q k p r h i j x c. law.part_copied op b m q k p j x c;
    };
    reaches = λ p q w e. (w, e);
  }

  pub carries_wider : (a b : View St) (o n q m : ℕ) → o ≤ q → q + m ≤ o + n → Carries q m a b → Carries o n a b
  carries_wider a b o n q m le fits c = record {
    settled = record {
      causes = λ op r len s k e h i j x y z. c.settled.causes op r len s k e h (omega arith) (omega arith) x y z;
      copied = λ op r len s k p h i j x y z. c.settled.copied op r len s k p h (omega arith) (omega arith) x y z;
    };
    reaches = c.reaches;
  }

  pub carries_twice : (a b c : View St) (o n : ℕ) → Carries o n a b → Carries o n b c → Carries o n a c
  carries_twice a b c o n x y = record {
    settled = settled_twice a.limits.cause b.limits.cause c.limits.cause a.limits.copies b.limits.copies c.limits.copies o n x.settled y.settled;
    reaches = λ p q w e. let z = y.reaches p q w e in x.reaches p q z.0 z.1;
  }

module _ {D St : Type 0} (view : D → View St) where
  split_below : (b : Option (Box (FormatAccess D) Global)) (op : Operation) (q m : ℕ) (e : Error) → cause_below view (back-FormatAccess-backing D b) op q m e → (y : FormatAccess D) × (unboxed b ≡ Some y) × chain_cause view y op q m e
  split_below None op q m e c = absurd c
  split_below (Some b) op q m e c = (b.value, refl, c)

  -- a cause of a chain is one of the top, or of what is reached below
  pub cause_split : (x : FormatAccess D) (op : Operation) (o n : ℕ) (e : Error) → chain_cause view x op o n e
      → (view (driver x)).limits.cause op o n e ⊎ ((y : FormatAccess D) × (q : ℕ) × (m : ℕ) × (backing x ≡ Some y) × (0 < m) × IsReached (view (driver x)).place o n q m × chain_cause view y op q m e)
  cause_split x op o n e c =
      let k = subst (λ (y : FormatAccess D). chain_cause view y op o n e) (is-FormatAccess' x) c in
      ⊎_elim (λ a. inl a) (λ r. let s = split_below (out-FormatAccess D x).backing op r.0 r.1 e r.4 in inr (s.0, r.0, r.1, s.1, r.2, r.3, s.2)) k

  module _ (old mid : FormatAccess D) (o n q m : ℕ) (le : o ≤ q) (fits : q + m ≤ o + n) (below : backing mid ≡ backing old) (c : Carries o n (view (driver old)) (view (driver mid))) where
    same_lent : lent_image view (backing mid) ≡ lent_image view (backing old)
    same_lent = ap (lent_image view) below

    pub cause_before : (op : Operation) (e : Error) → IsOnRange op → (view (driver mid)).limits.cause op q m e → (view (driver old)).limits.cause op o n e
    cause_before op e on h = c.settled.causes op o n q m e on (omega arith) (omega arith) le fits h

    pub map_cause_before : (e : Error) → chain_cause view mid Map q m e → chain_cause view old Map o n e
    map_cause_before e h = ⊎_elim
        (λ a. cause_here view old Map o n e (cause_before Map e tt a))
        (λ r.
        let was : IsReached (view (driver old)).place q m r.1 r.2 = λ i lt. let x = r.5 i lt in let y = c.reaches (q + x.0) (r.1 + i) x.2 x.3 in (x.0, x.1, y.0, y.1) in
        cause_lower view old r.0 Map o n r.1 r.2 e (sym below ∙ r.3) r.4 (reached_wider (view (driver old)).place o n q m r.1 r.2 le fits was) r.6)
        (cause_split mid Map q m e h)

    over_before : (e : Error) → CauseOver (view (driver mid)).limits.cause (view (driver mid)).limits.copies (lent_image view (backing mid)) Write q m e → CauseOver (view (driver old)).limits.cause (view (driver old)).limits.copies (lent_image view (backing old)) Write o n e
    over_before e h = subst (λ (l : LayerBelow). CauseOver (view (driver old)).limits.cause (view (driver old)).limits.copies l Write o n e) same_lent
        (⊎_elim (λ a. inl (cause_before Write e tt a)) (λ r. inr (r.0, r.1, r.2, (λ p i. c.settled.copied Write o n q m p tt (omega arith) (omega arith) le fits (r.3 p i)), r.4)) h)

    -- what zeroes as data are refused for later, they were before
    pub data_before : StaysFramed (view (driver old)) (view (driver mid)) → IsWeaker (data_reasons view mid q m) (data_reasons view old o n)
    data_before framed = record {
      read_only = λ h. h;
      beyond_disk = λ h. (h.0, (omega (arith, h.1), omega (arith, h.1)), framed.ends h.0 h.2);
      range_overflow = λ h. h;
      cause = λ e h. ⊎_elim (λ a. inl (over_before e a)) (λ a. inr (map_cause_before e a)) h;
      device = λ h. h;
      memory = λ h. h;
      foreign_mapping = λ h. h;
    }

  pub same_devices : (old mid : FormatAccess D) → backing mid ≡ backing old → StaysFramed (view (driver old)) (view (driver mid)) → devices_reliable view mid ≡ devices_reliable view old
  same_devices old mid below framed = ap (λ a. a.is_reliable && (lent_image view (backing mid)).is_reliable) framed.kind.abilities ∙ ap (λ (b : Option (FormatAccess D)). (view (driver old)).abilities.is_reliable && (lent_image view b).is_reliable) below

  unreliable_before : (old mid : FormatAccess D) → backing mid ≡ backing old → StaysFramed (view (driver old)) (view (driver mid)) → is_reliable view mid ≡ false → is_reliable view old ≡ false
  unreliable_before old mid below framed h = reliable_out view old ∙ sym (same_devices old mid below framed) ∙ sym (reliable_out view mid) ∙ h

  pub partly_none : (x : FormatAccess D) (o n : ℕ) → (view (driver x)).pending ≡ None → IsPartlyZeroed view o n x x
  partly_none x o n spent = record {
    torn = λ k. record { inside = λ i lt. inl refl; before = λ p lt. refl; behind = λ p ge. refl };
    below = refl;
    framed = same_frame _;
    reaches = λ p q w e. (w, e);
    spent = spent;
    count = record { later = omega arith; reliable = λ t. refl };
    outside = moved_none Zero o n (view (driver x));
  }

  pub partly_twice : (a b c : FormatAccess D) (o n q m : ℕ) → o ≤ q → q + m ≤ o + n → IsPartlyZeroed view o n a b → IsPartlyZeroed view q m b c → IsPartlyZeroed view o n a c
  partly_twice a b c o n q m le fits x y = record {
    torn = λ k. torn_twice o n q m _ _ _ le fits (x.torn k) (y.torn (rw (x.framed.kind.abilities, x.below) k));
    below = y.below ∙ x.below;
    framed = framed_twice _ _ _ x.framed y.framed;
    reaches = λ p q w e. let z = y.reaches p q w e in x.reaches p q z.0 z.1;
    spent = y.spent;
    count = record { later = omega (arith, x.count.later, y.count.later); reliable = λ t. y.count.reliable (same_devices a b x.below x.framed ∙ t) ∙ x.count.reliable t };
    outside = moved_then Zero o n (view (driver a)) (view (driver b)) (view (driver c)) q m
        x.framed.kind le fits x.outside y.outside;
  }

  pub wider_partly : (a b : FormatAccess D) (o n q m : ℕ) → o ≤ q → q + m ≤ o + n → (view (driver a)).pending ≡ None → IsPartlyZeroed view q m a b → IsPartlyZeroed view o n a b
  wider_partly a b o n q m le fits spent x = partly_twice a a b o n q m le fits (partly_none a o n spent) x

  -- a refusal after what is done
  pub refused_after : {T U : Type 0} (f : T → ℕ) (g : U → ℕ) (old mid new : FormatAccess D) (o n q m : ℕ) (r s : Reasons) (e : Error) → o ≤ q → q + m ≤ o + n → IsPartlyZeroed view o n old mid → IsWeaker r s
      → HasZeroed {T = T} view q m f r mid new (Err e) → HasZeroed {T = U} view o n g s old new (Err e)
  refused_after f g old mid new o n q m r s e le fits x weaker h = record {
    left = partly_twice old mid new o n q m le fits x h.left;
    done = λ k. tt;
    alone = λ k. tt;
    carries = tt;
    device = λ d. ⊎_elim (λ rose. inl (rose_more _ _ _ _ x.count.later (omega arith) rose)) (λ bad. inr (unreliable_before old mid x.below x.framed bad)) (h.device (ap (λ z. Err z) (of_err e Error.Device d)));
    refusals = allowed_more r s weaker e h.refusals;
  }

-- The first bytes of a range are zero, so many of them.
pub record IsZeroingOn {D St : Type 0} (view : D → View St) (o n : ℕ) (old mid : FormatAccess D) (count : ℕ) : Type 0 where
  pub within : count ≤ n
  pub done : IsTrue (keeps_data view old) → IsChanged o count zeroes (disk_value view old) (disk_value view mid)
  pub alone : IsTrue (keeps_data view old) → StandsAlone (view (driver mid)).place o count
  pub left : IsPartlyZeroed view o n old mid
  pub carries : Carries o n (view (driver old)) (view (driver mid))

module _ {D St : Type 0} (view : D → View St) (old : FormatAccess D) (o n : ℕ) where
  pub nothing_zeroed : AreCauses (view (driver old)) → (view (driver old)).pending ≡ None → IsZeroingOn view o n old old 0
  nothing_zeroed law spent = record {
    within = omega arith;
    done = λ k. record { inside = λ i lt. absurd (omega arith); before = λ p lt. refl; behind = λ p ge. refl };
    alone = λ k p i q w e. omega (arith, i.0, i.1);
    left = partly_none view old o n spent;
    carries = carries_none (view (driver old)) law o n;
  }

  module _ (mid new : FormatAccess D) (c : ℕ) (sofar : IsZeroingOn view o n old mid c) where
    pub zeroed_next : (r : Reasons) (k : ℕ) → k ≤ n - c → HasZeroed view (o + c) (n - c) (λ (x : ℕ). x) r mid new (Ok k) → IsZeroingOn view o n old new (c + k)
    zeroed_next r k le h =
        let a : o ≤ o + c = omega arith in
        let b : o + c + (n - c) ≤ o + n = omega (arith, sofar.within) in
        record {
          within = omega (arith, sofar.within);
          done = λ keeps. changed_next o c k zeroes _ _ _ (λ i v u w e. e) (sofar.done keeps) (h.done (rw (sofar.left.framed.kind.abilities, sofar.left.below) keeps));
          alone = λ keeps. alone_more (view (driver new)).place o c k (alone_later (view (driver mid)) (view (driver new)) o c (sofar.alone keeps) h.left.reaches) (h.alone (rw (sofar.left.framed.kind.abilities, sofar.left.below) keeps));
          left = partly_twice view old mid new o n (o + c) (n - c) a b sofar.left h.left;
          carries = carries_twice _ _ _ o n sofar.carries (carries_wider _ _ o n (o + c) (n - c) a b h.carries);
        }

    pub refused_next : {T U : Type 0} (f : T → ℕ) (g : U → ℕ) (e : Error) → HasZeroed {T = T} view (o + c) (n - c) f (data_reasons view mid (o + c) (n - c)) mid new (Err e) → HasZeroed {T = U} view o n g (data_reasons view old o n) old new (Err e)
    refused_next f g e h =
        let a : o ≤ o + c = omega arith in
        let b : o + c + (n - c) ≤ o + n = omega (arith, sofar.within) in
        refused_after view f g old mid new o n (o + c) (n - c) _ _ e a b sofar.left (data_before view old mid o n (o + c) (n - c) a b sofar.left.below sofar.carries sofar.left.framed) h

  pub all_zeroed : {U : Type 0} (u : U) (new : FormatAccess D) (c : ℕ) (r : Reasons) → c ≡ n → IsZeroingOn view o n old new c → HasZeroed view o n (λ (x : U). n) r old new (Ok u)
  all_zeroed u new c r e h = record {
    left = h.left;
    done = λ k. subst (λ (i : ℕ). IsChanged o i zeroes (disk_value view old) (disk_value view new)) e (h.done k);
    alone = λ k. subst (λ (i : ℕ). StandsAlone (view (driver new)).place o i) e (h.alone k);
    carries = h.carries;
    device = λ x. let z : ⊥ = cc in absurd z;
    refusals = tt;
  }

module _ {D St : Type 0} (view : D → View St) where
  -- one more call of the driver
  pub driver_next : (op : Operation) (s e : ℕ) (old mid new : FormatAccess D) (q m : ℕ) (result : Result (ℕ × ℕ) Error) → s ≤ q → q + m ≤ s + (e - s) → IsZeroedByDriver view s (e - s) old mid → HasZeroedPart view op q m mid new result → IsZeroedByDriver view s (e - s) old new
  driver_next op s e old mid new q m result le fits x h = record {
    left = partly_twice view old mid new s (e - s) q m le fits x.left h.left;
    carries = λ a k. carries_twice _ _ _ a k (x.carries a k) (h.carries a k);
  }

  pub driver_none : (x : FormatAccess D) (o n : ℕ) → AreCauses (view (driver x)) → (view (driver x)).pending ≡ None → IsZeroedByDriver view o n x x
  driver_none x o n law spent = record { left = partly_none view x o n spent; carries = λ a k. carries_none (view (driver x)) law a k }

  -- whole granules are zero, where they were already but for the range
  pub granules_done : (g o n s e : ℕ) (old new : FormatAccess D)
      → (view (driver old)).abilities.zero_granularity ≡ Some g → AreGranulesRound g o n s e
      → ((p : ℕ) → s ≤ p → p < o → disk_value view old p ≡ Byte 0) → ((p : ℕ) → o + n ≤ p → p < e → disk_value view old p ≡ Byte 0)
      → IsZeroedByDriver view s (e - s) old new → IsZeroedByDriver view o n old new
  granules_done g o n s e old new is round head tail h = record {
    left = record {
      torn = λ k. ⊎_elim
          (λ some. granules_torn o n s (e - s) _ _ head (λ p ge lt. tail p ge (omega arith)) (h.left.torn k))
          (λ none.
          let z : e - s ≡ 0 = omega arith in
          let t = h.left.torn k in
          let same : (p : ℕ) → disk_value view new p ≡ disk_value view old p = λ p. ⊎_elim (λ a. t.before p a) (λ b. t.behind p (omega arith)) (cases_lt p s) in
          record { inside = λ i lt. inl (same (o + i)); before = λ p lt. same p; behind = λ p ge. same p })
          (cases_lt s e);
      below = h.left.below;
      framed = h.left.framed;
      reaches = h.left.reaches;
      spent = h.left.spent;
      count = h.left.count;
      outside = moved_granules g o n s e round (view (driver old)) (view (driver new)) is
          h.left.outside;
    };
    carries = h.carries;
  }

  module _ (x : FormatAccess D) (o n : ℕ) (law : AreCauses (view (driver x))) (spent : (view (driver x)).pending ≡ None) where
    -- what is zero already
    pub zero_already : (r : Reasons) (k : ℕ) → AreZero (disk_value view x) o k → StandsAlone (view (driver x)).place o k → HasZeroed view o n (λ (i : ℕ). i) r x x (Ok k)
    zero_already r k z a = record {
      left = partly_none view x o n spent;
      done = λ keeps. record { inside = λ i lt. z (o + i) (omega arith, omega arith); before = λ p lt. refl; behind = λ p ge. refl };
      alone = λ keeps. a;
      carries = carries_none (view (driver x)) law o n;
      device = λ d. let z : ⊥ = cc in absurd z;
      refusals = tt;
    }

    -- a refusal that changed nothing
    pub untouched : {T : Type 0} (f : T → ℕ) (r : Reasons) (e : Error) → (e ≡ Error.Device → is_reliable view x ≡ false) → allowed r e → HasZeroed {T = T} view o n f r x x (Err e)
    untouched f r e device why = record {
      left = partly_none view x o n spent;
      done = λ k. tt;
      alone = λ k. tt;
      carries = tt;
      device = λ d. inr (device (err_is d));
      refusals = why;
    }
      where
        err_is : {T : Type 0} → IsErrOf {T = T} (Err e) Error.Device → e ≡ Error.Device
        err_is d = cc

    -- why a mapping of the range is refused, zeroes as data may be
    pub map_weaker : 0 < n → IsWeaker (chain_map_reasons view x o n) (data_reasons view x o n)
    map_weaker some = record {
      read_only = λ h. h;
      beyond_disk = λ h. absurd h;
      range_overflow = λ h. h;
      cause = λ e h. let m : max n 1 ≡ n = omega arith in inr (rw m at h);
      device = λ h. tt;
      memory = λ h. tt;
      foreign_mapping = λ h. h;
    }

    pub mapping_refused : {T : Type 0} (f : T → ℕ) (e : Error) → 0 < n → allowed (chain_map_reasons view x o n) e → HasZeroed {T = T} view o n f (data_reasons view x o n) x x (Err e)
    mapping_refused f e some h = untouched f (data_reasons view x o n) e (λ d. subst (λ (z : Error). allowed (chain_map_reasons view x o n) z) d h) (allowed_more _ _ (map_weaker some) e h)

    -- of a write of the first bytes, more than these may be asked for
    pub piece_done : (r s : Reasons) (new : FormatAccess D) (m k : ℕ) → m ≤ n → HasZeroed view o m (λ (i : ℕ). i) r x new (Ok k) → HasZeroed view o n (λ (i : ℕ). i) s x new (Ok k)
    piece_done r s new m k le h = record {
      left = wider_partly view x new o n o m (omega arith) (omega arith) spent h.left;
      done = h.done;
      alone = h.alone;
      carries = carries_wider _ _ o n o m (omega arith) (omega arith) h.carries;
      device = λ d. let z : ⊥ = cc in absurd z;
      refusals = tt;
    }

    pub piece_refused : {T U : Type 0} (f : T → ℕ) (g : U → ℕ) (new : FormatAccess D) (m : ℕ) (e : Error) → m ≤ n → HasZeroed {T = T} view o m f (data_reasons view x o m) x new (Err e) → HasZeroed {T = U} view o n g (data_reasons view x o n) x new (Err e)
    piece_refused f g new m e le h =
        let a : o ≤ o = omega arith in
        let b : o + m ≤ o + n = omega arith in
        refused_after view f g x x new o n o m _ _ e a b (partly_none view x o n spent) (data_before view x x o n o m a b refl (carries_none (view (driver x)) law o n) (partly_none view x o n spent).framed) h

  -- granules, and then data
  pub filled : (result : Result (Unit {0}) Error) (old mid new : FormatAccess D) (o n : ℕ) → IsZeroedByDriver view o n old mid → HasZeroed view o n (λ (u : Unit {0}). n) (data_reasons view mid o n) mid new result → HasZeroed view o n (λ (u : Unit {0}). n) (data_reasons view old o n) old new result
  filled (Ok u) old mid new o n x h = record {
    left = partly_twice view old mid new o n o n (omega arith) (omega arith) x.left h.left;
    done = λ k. zeroed_then o n _ _ _ (x.left.torn k) (h.done (rw (x.left.framed.kind.abilities, x.left.below) k));
    alone = λ k. h.alone (rw (x.left.framed.kind.abilities, x.left.below) k);
    carries = carries_twice _ _ _ o n (x.carries o n) h.carries;
    device = λ d. let z : ⊥ = cc in absurd z;
    refusals = tt;
  }
  filled (Err e) old mid new o n x h =
      let a : o ≤ o = omega arith in
      let b : o + n ≤ o + n = omega arith in
      refused_after view _ _ old mid new o n o n _ _ e a b x.left (data_before view old mid o n o n a b x.left.below (x.carries o n) x.left.framed) h

  module _ (op : Operation) (old mid new : FormatAccess D) (o n s l : ℕ) (le : o ≤ s) (fits : s + l ≤ o + n) (part : HasZeroedPart view op o n old mid (Ok (s, l))) where
    -- the driver's part, and then what stands before it
    pub part_filled : (r t : Reasons) → HasZeroed view o (s - o) (λ (u : Unit {0}). s - o) r mid new (Ok tt) → HasZeroed view o n (λ (i : ℕ). i) t old new (Ok (s - o + l))
    part_filled r t h = record {
      left = partly_twice view old mid new o n o (s - o) (omega arith) (omega arith) part.left h.left;
      done = λ k. zeroed_before o s l _ _ _ le (part.done k) (h.done (rw (part.left.framed.kind.abilities, part.left.below) k));
      alone = λ k.
          let e : o + (s - o) ≡ s = omega arith in
          let behind : StandsAlone (view (driver new)).place (o + (s - o)) l = rw e (alone_later (view (driver mid)) (view (driver new)) s l (part.alone k) h.left.reaches) in
          alone_more (view (driver new)).place o (s - o) l (h.alone (rw (part.left.framed.kind.abilities, part.left.below) k)) behind;
      carries = carries_twice _ _ _ o n (part.carries o n) (carries_wider _ _ o n o (s - o) (omega arith) (omega arith) h.carries);
      device = λ d. let z : ⊥ = cc in absurd z;
      refusals = tt;
    }

  -- a rest that zeroes as data are refused for; there is one only where the driver's call isn't known to do all
  pub rest_refused : {T U : Type 0} (f : T → ℕ) (g : U → ℕ) (op : Operation) (old mid new : FormatAccess D) (o n q m : ℕ) (e : Error) (part : Result (ℕ × ℕ) Error) → o ≤ q → q + m ≤ o + n → HasZeroedPart view op o n old mid part
      → ((view (driver old)).limits.whole op o n → ⊥) → HasZeroed {T = T} view q m f (data_reasons view mid q m) mid new (Err e) → HasZeroed {T = U} view o n g (zero_reasons view old op o n) old new (Err e)
  rest_refused f g op old mid new o n q m e part le fits x rest h =
      let w = data_before view old mid o n q m le fits x.left.below (x.carries o n) x.left.framed in
      refused_after view f g old mid new o n q m _ _ e le fits x.left (record {
        read_only = w.read_only;
        beyond_disk = w.beyond_disk;
        range_overflow = w.range_overflow;
        cause = λ z c. inr (w.cause z c);
        device = w.device;
        memory = λ c free. rest free.1;
        foreign_mapping = w.foreign_mapping;
      }) h

  -- the rest is all
  pub all_filled : (op : Operation) (old mid new : FormatAccess D) (o n : ℕ) (r t : Reasons) (part : Result (ℕ × ℕ) Error) → HasZeroedPart view op o n old mid part → HasZeroed view o n (λ (u : Unit {0}). n) r mid new (Ok tt) → HasZeroed view o n (λ (i : ℕ). i) t old new (Ok n)
  all_filled op old mid new o n r t part x h = record {
    left = partly_twice view old mid new o n o n (omega arith) (omega arith) x.left h.left;
    done = λ k. zeroed_then o n _ _ _ (x.left.torn k) (h.done (rw (x.left.framed.kind.abilities, x.left.below) k));
    alone = λ k. h.alone (rw (x.left.framed.kind.abilities, x.left.below) k);
    carries = carries_twice _ _ _ o n (x.carries o n) h.carries;
    device = λ d. let z : ⊥ = cc in absurd z;
    refusals = tt;
  }

  -- the driver's call itself is refused
  pub part_refused : {U : Type 0} (g : U → ℕ) (op : Operation) (old new : FormatAccess D) (o n : ℕ) (e : Error) → HasZeroedPart view op o n old new (Err e) → HasZeroed {T = U} view o n g (zero_reasons view old op o n) old new (Err e)
  part_refused {U} g op old new o n e x = record {
    left = x.left;
    done = λ k. tt;
    alone = λ k. tt;
    carries = tt;
    device = λ d. inl (x.faults.device (again d));
    refusals = allowed_more (range_reasons (view (driver old)) op o n) (zero_reasons view old op o n) (record {
      read_only = λ h. h;
      beyond_disk = λ h. h;
      range_overflow = λ h. h;
      cause = λ z h. inl h;
      device = λ h. h;
      memory = λ h free. h free.0;
      foreign_mapping = λ h. h;
    }) e x.refusals;
  }
    where
      again : IsErrOf {T = U} (Err e) Error.Device → IsErrOf {T = ℕ × ℕ} (Err e) Error.Device
      again d = let k : e ≡ Error.Device = cc in ap (λ z. Err z) k

module _ {D St : Type 0} (view : D → View St) (op : Operation) (on : IsOnRange op) (old mid new : FormatAccess D) (o n c : ℕ) (sofar : IsZeroingOn view o n old mid c)
    (once : (view (driver old)).limits.whole op o n → ((c ≡ 0) × (mid ≡ old)) ⊎ (c ≡ n)) where
  -- a part of a zero write is refused, after what is done
  pub range_refused : {T U : Type 0} (f : T → ℕ) (g : U → ℕ) (e : Error) → c < n → HasZeroed {T = T} view (o + c) (n - c) f (zero_reasons view mid op (o + c) (n - c)) mid new (Err e) → HasZeroed {T = U} view o n g (zero_reasons view old op o n) old new (Err e)
  range_refused f g e lt h =
      let a : o ≤ o + c = omega arith in
      let b : o + c + (n - c) ≤ o + n = omega (arith, sofar.within) in
      let w = data_before view old mid o n (o + c) (n - c) a b sofar.left.below sofar.carries sofar.left.framed in
      refused_after view f g old mid new o n (o + c) (n - c) (zero_reasons view mid op (o + c) (n - c)) (zero_reasons view old op o n) e a b sofar.left (record {
        read_only = w.read_only;
        beyond_disk = w.beyond_disk;
        range_overflow = w.range_overflow;
        cause = λ z k. ⊎_elim (λ own. inl (cause_before view old mid o n (o + c) (n - c) a b sofar.left.below sofar.carries op z on own)) (λ d. inr (w.cause z d)) k;
        device = w.device;
        memory = λ k free. ⊎_elim (λ z. k (again z.0 z.1 free)) (λ z. omega arith) (once free.1);
        foreign_mapping = w.foreign_mapping;
      }) h
    where
      again : c ≡ 0 → mid ≡ old → IsFree (view (driver old)) op o n → IsFree (view (driver mid)) op (o + c) (n - c)
      again z same free =
          let x : o + c ≡ o = omega arith in
          let y : n - c ≡ n = omega arith in
          rw (x, y) (subst (λ (m : FormatAccess D). IsFree (view (driver m)) op o n) (sym same) free)

  -- where the driver's call is known to do all, it did
  pub once_next : (k : ℕ) → c < n → ((view (driver mid)).limits.whole op (o + c) (n - c) → k ≡ n - c) → (view (driver old)).limits.whole op o n → ((c + k ≡ 0) × (new ≡ old)) ⊎ (c + k ≡ n)
  once_next k lt whole free = ⊎_elim
      (λ z.
      let x : o + c ≡ o = omega (arith, z.0) in
      let y : n - c ≡ n = omega (arith, z.0) in
      let again : (view (driver mid)).limits.whole op (o + c) (n - c) = rw (x, y) (subst (λ (m : FormatAccess D). (view (driver m)).limits.whole op o n) (sym z.1) free) in
      inr (omega (arith, whole again)))
      (λ z. absurd (omega arith))
      (once free)
