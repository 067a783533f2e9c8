-- SPDX-License-Identifier: MIT
use Rattle.std.proofs.Common.{◌≡◌, ℕ, ◌+◌, ◌<◌, ◌≤◌, ◌⊎◌, inl, inr, ⊎_elim, Option, Some, None, refl, sym, ap, ◌∙◌, subst, arith, max, Box, Global}
use Rattle.std.proofs.lemmas.Bool.{cases_lt}
use Rattle.imago_storage.specs.Features.{Features}
use Rattle.imago_drivers.specs.View.{View}
use Rattle.imago_access.specs.declared.access.FormatAccess.{FormatAccess, out-FormatAccess, is-FormatAccess', back-FormatAccess-backing}
use Rattle.imago_access.specs.Chain.{driver, backing, unboxed}
use Rattle.imago_access.specs.Alignments.{IsGreatest, HasStorage, has_align, has_align_below}

-- The larger of two numbers is one of them, over what holds of both.
larger : (P : ℕ → Type 0) (n m : ℕ) → P n → P m → P (max n m)
larger P n m p q = elim (cases_lt n m) [
  | inl l ↦ let e : max n m ≡ m = omega arith in rw e q
  | inr l ↦ let e : max n m ≡ n = omega arith in rw e p
]

module _ (of : Features → ℕ) (features : ℕ → Features) where
  pub no_storage : IsGreatest (HasStorage of features 0) 1
  no_storage = record {
    above = λ align (index, h, e). absurd (omega arith);
    positive = omega arith;
    reached = inl refl;
  }

  earlier : (index n : ℕ) → HasStorage of features index n → HasStorage of features (index + 1) n
  earlier index n (i, h, e) = (i, omega arith, e)

  above_next : (index n : ℕ) → ((align : ℕ) → HasStorage of features index align → align ≤ n) → (align : ℕ) → HasStorage of features (index + 1) align → align ≤ max n (of (features index))
  above_next index n h align (i, lt, e) = elim (cases_lt i index) [
    | inl l ↦ let k : align ≤ n = h align (i, l, e) in omega arith
    | inr l ↦ let s : i ≡ index = omega arith in let k : of (features index) ≡ align = ap (λ j. of (features j)) (sym s) ∙ e in omega arith
  ]

  -- one storage more
  pub next_storage : (index n : ℕ) → IsGreatest (HasStorage of features index) n → IsGreatest (HasStorage of features (index + 1)) (max n (of (features index)))
  next_storage index n h = record {
    above = above_next index n h.above;
    positive = let p = h.positive in omega arith;
    reached = elim (cases_lt n (of (features index))) [
      | inl l ↦ let e : max n (of (features index)) ≡ of (features index) = omega arith in inr (index, omega arith, sym e)
      | inr l ↦
          let e : max n (of (features index)) ≡ n = omega arith in
          ⊎_elim (λ one. inl (e ∙ one)) (λ some. inr (subst (HasStorage of features (index + 1)) (sym e) (earlier index n some))) h.reached
    ];
  }

-- The layers down to some one are looked through, and the rest are below it.
pub record IsGreatestSoFar (all rest : ℕ → Type 0) (n : ℕ) : Type 0 where
  pub above : (align : ℕ) → all align → (align ≤ n) ⊎ rest align
  pub within : (align : ℕ) → rest align → all align
  pub positive : 0 < n
  pub reached : (n ≡ 1) ⊎ all n

pub nothing_yet : (all : ℕ → Type 0) → IsGreatestSoFar all all 1
nothing_yet all = record {
  above = λ align h. inr h;
  within = λ align h. h;
  positive = omega arith;
  reached = inl refl;
}

-- what of the rest is here, and what is next
pub record IsSplit (rest here next : ℕ → Type 0) : Type 0 where
  pub splits : (align : ℕ) → rest align → here align ⊎ next align
  pub joins : (align : ℕ) → here align ⊎ next align → rest align

pub looked_further : (all rest here next : ℕ → Type 0) (n m : ℕ) → IsSplit rest here next → IsGreatest here m → IsGreatestSoFar all rest n → IsGreatestSoFar all next (max n m)
looked_further all rest here next n m split new old = record {
  above = λ align h. ⊎_elim
      (λ (k : align ≤ n). inl (omega arith))
      (λ r. ⊎_elim (λ z. let k : align ≤ m = new.above align z in inl (omega arith)) inr (split.splits align r))
      (old.above align h);
  within = λ align h. old.within align (split.joins align (inr h));
  positive = let p = old.positive in omega arith;
  reached = larger (λ k. (k ≡ 1) ⊎ all k) n m old.reached (⊎_elim inl (λ z. inr (old.within m (split.joins m (inl z)))) new.reached);
}

pub looked_through : (all rest : ℕ → Type 0) (n : ℕ) → ((align : ℕ) → rest align → ⊥) → IsGreatestSoFar all rest n → IsGreatest all n
looked_through all rest n none h = record {
  above = λ align a. ⊎_elim (λ k. k) (λ r. absurd (none align r)) (h.above align a);
  positive = h.positive;
  reached = h.reached;
}

module _ {D St : Type 0} (view : D → View St) (of : Features → ℕ) where
  abbrev pub align_here : FormatAccess D → ℕ → Type 0
  align_here x = HasStorage of (view (driver x)).stores.features (view (driver x)).stores.count

  abbrev pub align_lower : Option (FormatAccess D) → ℕ → Type 0
  align_lower None align = ⊥
  align_lower (Some x) align = has_align view of x align

  held : (b : Option (Box (FormatAccess D) Global)) (align : ℕ) → has_align_below view of (back-FormatAccess-backing D b) align → align_lower (unboxed b) align
  held None align h = h
  held (Some b) align h = h

  holds : (b : Option (Box (FormatAccess D) Global)) (align : ℕ) → align_lower (unboxed b) align → has_align_below view of (back-FormatAccess-backing D b) align
  holds None align h = h
  holds (Some b) align h = h

  -- the alignments of an image are those of its driver and of what is below
  pub layers_split : (x : FormatAccess D) → IsSplit (has_align view of x) (align_here x) (align_lower (backing x))
  layers_split x = record {
    splits = λ align h.
        let k = subst (λ (y : FormatAccess D). has_align view of y align) (is-FormatAccess' x) h in
        ⊎_elim inl (λ z. inr (held (out-FormatAccess D x).backing align z)) k;
    joins = λ align h.
        subst (λ (y : FormatAccess D). has_align view of y align) (sym (is-FormatAccess' x)) (⊎_elim inl (λ z. inr (holds (out-FormatAccess D x).backing align z)) h);
  }

  pub layer_done : (all : ℕ → Type 0) (x y : FormatAccess D) (n m : ℕ) → backing x ≡ Some y → IsGreatest (align_here x) m → IsGreatestSoFar all (has_align view of x) n → IsGreatestSoFar all (has_align view of y) (max n m)
  layer_done all x y n m b new old = looked_further all _ _ _ n m (subst (λ (z : Option (FormatAccess D)). IsSplit (has_align view of x) (align_here x) (align_lower z)) b (layers_split x)) new old

  pub last_done : (all : ℕ → Type 0) (x : FormatAccess D) (n m : ℕ) → backing x ≡ None → IsGreatest (align_here x) m → IsGreatestSoFar all (has_align view of x) n → IsGreatest all (max n m)
  last_done all x n m b new old =
      let split = subst (λ (z : Option (FormatAccess D)). IsSplit (has_align view of x) (align_here x) (align_lower z)) b (layers_split x) in
      looked_through all (align_lower None) (max n m) (λ align h. h) (looked_further all _ _ _ n m split new old)
