-- SPDX-License-Identifier: MIT
use Rattle.std.proofs.Common.{◌+◌, ◌-◌, nat_eq, arith, ◌<◌, ◌≤◌, ◌≡◌, ℕ, inl, inr, ⊎_elim, Bool, true, false, ◌&&◌, Option, Some, None, refl, sym, ap, ◌∙◌, subst, Box, Global}
use Rattle.std.proofs.lemmas.Bool.{ne_eqb}
use Rattle.imago_storage.specs.declared.error.Error.{Error}
use Rattle.imago_drivers.specs.Operation.{Operation, Read}
use Rattle.imago_drivers.specs.Place.{Value, Place, Lower, End, shown, values}
use Rattle.imago_drivers.specs.View.{View}
use Rattle.imago_access.specs.declared.access.FormatAccess.{FormatAccess, FormatAccess', Held-FormatAccess-backing, out-FormatAccess, is-FormatAccess', back-FormatAccess-backing}
use Rattle.imago_access.specs.Chain.{driver, backing, unboxed, disk_value, is_reliable, tells_bytes, IsReached, chain_cause, cause_below, chain_no_memory, no_memory_below, may_take_memory, may_take_memory_below, lent_image}
use Rattle.imago_access.specs.ChainLaws.{reached_wider}
use Rattle.imago_access.specs.Specials.{special_at, special_below}
use Rattle.imago_access.specs.Target.{Target, target, followed, deeper, target_here}

module _ {D St : Type 0} (view : D → View St) where
  value_back : (inner : D) (b : Option (Box (FormatAccess D) Global)) → disk_value view (FormatAccess' (back-FormatAccess-backing D b) inner) ≡ values (lent_image view (unboxed b)).at (view inner).place
  value_back inner None = refl
  value_back inner (Some b) = refl

  -- an image shows its driver's places over what the driver is lent
  pub value_out : (x : FormatAccess D) → disk_value view x ≡ values (lent_image view (backing x)).at (view (driver x)).place
  value_out x = ap (disk_value view) (is-FormatAccess' x) ∙ value_back (driver x) (out-FormatAccess D x).backing

  pub value_at : (x : FormatAccess D) (p : ℕ) (pl : Place) → (view (driver x)).place p ≡ pl → disk_value view x p ≡ shown (lent_image view (backing x)).at pl
  value_at x p pl h = ap (λ (f : ℕ → Value). f p) (value_out x) ∙ ap (shown (lent_image view (backing x)).at) h

  pub value_lower : (x y : FormatAccess D) (p q : ℕ) (w : Bool) → backing x ≡ Some y → (view (driver x)).place p ≡ Lower q w → disk_value view x p ≡ disk_value view y q
  value_lower x y p q w h k = value_at x p (Lower q w) k ∙ ap (λ (b : Option (FormatAccess D)). (lent_image view b).at q) h

  special_back : (inner : D) (b : Option (Box (FormatAccess D) Global)) → special_at view (FormatAccess' (back-FormatAccess-backing D b) inner) 0 ≡ (view inner).special
  special_back inner b = refl

  -- the top makes up what its driver does
  pub special_here : (x : FormatAccess D) → special_at view x 0 ≡ (view (driver x)).special
  special_here x = ap (λ (y : FormatAccess D). special_at view y 0) (is-FormatAccess' x) ∙ special_back (driver x) (out-FormatAccess D x).backing

  one_deeper : (inner : D) (held : Held-FormatAccess-backing D) (k : ℕ) → special_at view (FormatAccess' held inner) (1 + k) ≡ special_below view held k
  one_deeper inner held k =
      let e : nat_eq (1 + k) 0 ≡ false = ne_eqb (1 + k) 0 (λ h. absurd (omega arith)) in
      let m : 1 + k - 1 ≡ k = omega arith in
      rw (e, m) refl

  special_unboxed : (b : Option (Box (FormatAccess D) Global)) (y : FormatAccess D) (k p : ℕ) → unboxed b ≡ Some y → special_below view (back-FormatAccess-backing D b) k p ≡ special_at view y k p
  special_unboxed None y k p h = let z : ⊥ = cc in absurd z
  special_unboxed (Some b) y k p h =
      let e : b.value ≡ y = cc in
      ap (λ (z : FormatAccess D). special_at view z k p) e

  -- what is one deeper is the layer below's
  pub special_lower : (x y : FormatAccess D) (k p : ℕ) → backing x ≡ Some y → special_at view x (1 + k) p ≡ special_at view y k p
  special_lower x y k p h =
      ap (λ (z : FormatAccess D). special_at view z (1 + k) p) (is-FormatAccess' x)
      ∙ ap (λ (f : ℕ → Value). f p) (one_deeper (driver x) (back-FormatAccess-backing D (out-FormatAccess D x).backing) k)
      ∙ special_unboxed (out-FormatAccess D x).backing y k p h

  reliable_back : (inner : D) (b : Option (Box (FormatAccess D) Global)) → is_reliable view (FormatAccess' (back-FormatAccess-backing D b) inner) ≡ ((view inner).abilities.is_reliable && (lent_image view (unboxed b)).is_reliable)
  reliable_back inner None = refl
  reliable_back inner (Some b) = refl

  pub reliable_out : (x : FormatAccess D) → is_reliable view x ≡ ((view (driver x)).abilities.is_reliable && (lent_image view (backing x)).is_reliable)
  reliable_out x = ap (is_reliable view) (is-FormatAccess' x) ∙ reliable_back (driver x) (out-FormatAccess D x).backing

  pub reliable_here : (x : FormatAccess D) → (view (driver x)).abilities.is_reliable ≡ false → is_reliable view x ≡ false
  reliable_here x h = reliable_out x ∙ ap (λ b. b && (lent_image view (backing x)).is_reliable) h

  and_false : (a b : Bool) → b ≡ false → (a && b) ≡ false
  and_false true b h = h
  and_false false b h = refl

  pub reliable_lower : (x y : FormatAccess D) → backing x ≡ Some y → is_reliable view y ≡ false → is_reliable view x ≡ false
  reliable_lower x y h k = reliable_out x ∙ and_false _ _ (ap (λ (b : Option (FormatAccess D)). (lent_image view b).is_reliable) h ∙ k)

  told_back : (inner : D) (b : Option (Box (FormatAccess D) Global)) → tells_bytes view (FormatAccess' (back-FormatAccess-backing D b) inner) ≡ ((view inner).abilities.tells_bytes && (lent_image view (unboxed b)).tells_bytes)
  told_back inner None = refl
  told_back inner (Some b) = refl

  pub told_out : (x : FormatAccess D) → tells_bytes view x ≡ ((view (driver x)).abilities.tells_bytes && (lent_image view (backing x)).tells_bytes)
  told_out x = ap (tells_bytes view) (is-FormatAccess' x) ∙ told_back (driver x) (out-FormatAccess D x).backing

  and_first : (a b : Bool) → (a && b) ≡ true → a ≡ true
  and_first true b h = refl
  and_first false b h = h

  and_second : (a b : Bool) → (a && b) ≡ true → b ≡ true
  and_second true b h = h
  and_second false b h = let z : ⊥ = cc in absurd z

  -- where an image tells its bytes, its driver does, and the image below
  pub told_here : (x : FormatAccess D) → tells_bytes view x ≡ true → (view (driver x)).abilities.tells_bytes ≡ true
  told_here x h = and_first _ _ (sym (told_out x) ∙ h)

  pub told_lower : (x y : FormatAccess D) → backing x ≡ Some y → tells_bytes view x ≡ true → tells_bytes view y ≡ true
  told_lower x y b h = ap (λ (c : Option (FormatAccess D)). (lent_image view c).tells_bytes) (sym b) ∙ and_second _ _ (sym (told_out x) ∙ h)

  abbrev target_of : Option (FormatAccess D) → ℕ → Target
  target_of None p = target_here End
  target_of (Some x) p = target view x p

  target_back : (inner : D) (b : Option (Box (FormatAccess D) Global)) (p : ℕ) → target view (FormatAccess' (back-FormatAccess-backing D b) inner) p ≡ followed (target_of (unboxed b)) ((view inner).place p)
  target_back inner None p = refl
  target_back inner (Some b) p = refl

  target_out : (x : FormatAccess D) (p : ℕ) → target view x p ≡ followed (target_of (backing x)) ((view (driver x)).place p)
  target_out x p = ap (λ (y : FormatAccess D). target view y p) (is-FormatAccess' x) ∙ target_back (driver x) (out-FormatAccess D x).backing p

  pub target_lower : (x y : FormatAccess D) (p q : ℕ) (w : Bool) → backing x ≡ Some y → (view (driver x)).place p ≡ Lower q w → target view x p ≡ deeper 1 w (target view y q)
  target_lower x y p q w h k = target_out x p ∙ ap (followed (target_of (backing x))) k ∙ ap (λ (b : Option (FormatAccess D)). deeper 1 w (target_of b q)) h

  pub target_nothing : (x : FormatAccess D) (p q : ℕ) (w : Bool) → backing x ≡ None → (view (driver x)).place p ≡ Lower q w → target view x p ≡ deeper 1 w (target_here End)
  target_nothing x p q w h k = target_out x p ∙ ap (followed (target_of (backing x))) k ∙ ap (λ (b : Option (FormatAccess D)). deeper 1 w (target_of b q)) h

  -- a place that is left to the layer below leads down
  pub lower_deep : (x : FormatAccess D) (p q : ℕ) (w : Bool) → (view (driver x)).place p ≡ Lower q w → 0 < (target view x p).depth
  lower_deep x p q w h =
      let e : target view x p ≡ deeper 1 w (target_of (backing x) q) = target_out x p ∙ ap (followed (target_of (backing x))) h in
      let d : (target view x p).depth ≡ 1 + (target_of (backing x) q).depth = ap (λ (t : Target). t.depth) e in
      omega (arith, d)

  -- a place that isn't a reference is where it leads
  pub target_at : (x : FormatAccess D) (p : ℕ) (pl : Place) → (view (driver x)).place p ≡ pl → ((b : ℕ → Target) → followed b pl ≡ target_here pl) → target view x p ≡ target_here pl
  target_at x p pl h k = target_out x p ∙ ap (followed (target_of (backing x))) h ∙ k (target_of (backing x))

  -- a cause at the top
  pub cause_here : (x : FormatAccess D) (op : Operation) (o n : ℕ) (e : Error) → (view (driver x)).limits.cause op o n e → chain_cause view x op o n e
  cause_here x op o n e h = subst (λ (y : FormatAccess D). chain_cause view y op o n e) (sym (is-FormatAccess' x)) (inl h)

  from_below : (b : Option (Box (FormatAccess D) Global)) (y : FormatAccess D) (op : Operation) (q m : ℕ) (e : Error) → unboxed b ≡ Some y → chain_cause view y op q m e → cause_below view (back-FormatAccess-backing D b) op q m e
  from_below None y op q m e h c = let z : ⊥ = cc in absurd z
  from_below (Some b) y op q m e h c =
      let k : b.value ≡ y = cc in
      subst (λ (z : FormatAccess D). chain_cause view z op q m e) (sym k) c

  -- a cause at the layer below, for what is reached there
  pub cause_lower : (x y : FormatAccess D) (op : Operation) (o n q m : ℕ) (e : Error) → backing x ≡ Some y → 0 < m → IsReached (view (driver x)).place o n q m → chain_cause view y op q m e → chain_cause view x op o n e
  cause_lower x y op o n q m e h p r c = subst (λ (z : FormatAccess D). chain_cause view z op o n e) (sym (is-FormatAccess' x)) (inr (q, m, p, r, from_below (out-FormatAccess D x).backing y op q m e h c))

  -- memory that is taken at the top
  pub memory_here : (x : FormatAccess D) (o n : ℕ) → 0 < n → ((view (driver x)).limits.no_memory Read o n → ⊥) → may_take_memory view x o n
  memory_here x o n some h =
      let a : o ≤ o = omega arith in
      let b : o + n ≤ o + n = omega arith in
      subst (λ (y : FormatAccess D). may_take_memory view y o n) (sym (is-FormatAccess' x)) (inl (o, n, some, a, b, h))

  memory_from_below : (b : Option (Box (FormatAccess D) Global)) (y : FormatAccess D) (q m : ℕ) → unboxed b ≡ Some y → may_take_memory view y q m → may_take_memory_below view (back-FormatAccess-backing D b) q m
  memory_from_below None y q m h c = let z : ⊥ = cc in absurd z
  memory_from_below (Some b) y q m h c =
      let k : b.value ≡ y = cc in
      subst (λ (z : FormatAccess D). may_take_memory view z q m) (sym k) c

  -- memory that is taken at the layer below, for what is reached there
  pub memory_lower : (x y : FormatAccess D) (o n q m : ℕ) → backing x ≡ Some y → 0 < m → IsReached (view (driver x)).place o n q m → may_take_memory view y q m → may_take_memory view x o n
  memory_lower x y o n q m h p r c = subst (λ (z : FormatAccess D). may_take_memory view z o n) (sym (is-FormatAccess' x)) (inr (q, m, p, r, memory_from_below (out-FormatAccess D x).backing y q m h c))

  -- what may take memory for a part of a range may for the whole
  pub memory_part : (x : FormatAccess D) (o n q m : ℕ) → o ≤ q → q + m ≤ o + n → may_take_memory view x q m → may_take_memory view x o n
  memory_part (FormatAccess' b inner) o n q m h j c = ⊎_elim
      (λ a. inl (a.0, a.1, a.2, omega (arith, h, a.3), omega (arith, j, a.4), a.5))
      (λ r. inr (r.0, r.1, r.2, reached_wider (view inner).place o n q m r.0 r.1 h j r.3, r.4))
      c

  pub whole_here : (x : FormatAccess D) (o n : ℕ) → chain_no_memory view x o n → (view (driver x)).limits.whole Read o n
  whole_here x o n h = let k = subst (λ (y : FormatAccess D). chain_no_memory view y o n) (is-FormatAccess' x) h in k.0

  pub no_memory_here : (x : FormatAccess D) (o n : ℕ) → chain_no_memory view x o n → (view (driver x)).limits.no_memory Read o n
  no_memory_here x o n h = let k = subst (λ (y : FormatAccess D). chain_no_memory view y o n) (is-FormatAccess' x) h in k.1

  from_no_memory : (b : Option (Box (FormatAccess D) Global)) (y : FormatAccess D) (q n : ℕ) → unboxed b ≡ Some y → no_memory_below view (back-FormatAccess-backing D b) q n → chain_no_memory view y q n
  from_no_memory None y q n h c = let z : ⊥ = cc in absurd z
  from_no_memory (Some b) y q n h c =
      let k : b.value ≡ y = cc in
      subst (λ (z : FormatAccess D). chain_no_memory view z q n) k c

  pub no_memory_lower : (x y : FormatAccess D) (o n q : ℕ) → backing x ≡ Some y → chain_no_memory view x o n → IsReached (view (driver x)).place o n q n → chain_no_memory view y q n
  no_memory_lower x y o n q h c r =
      let k = subst (λ (z : FormatAccess D). chain_no_memory view z o n) (is-FormatAccess' x) c in
      from_no_memory (out-FormatAccess D x).backing y q n h (k.2 q r)
