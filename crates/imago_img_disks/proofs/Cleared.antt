-- What is so of files once an unfinished file is removed.
-- SPDX-License-Identifier: MIT
use Rattle.std.proofs.Common.{◌≡◌, inl, inr, ⊎_elim, Bool, true, false, List, ℕ, Option, Result, Ok, Err, OnOk, OnErr, refl, sym, subst}
use Rattle.std.proofs.lemmas.Bool.{true≢false}
use Rattle.imago_img_files.specs.Files.{Around, IsSoOnceCleared, IsWithoutLeftOver}

module _ (files : Option (List ℕ → List ℕ)) (around : Option Around) (path : List ℕ) (Might : Type 0) where
  -- it is so of files as they are
  pub as_they_are :
      (replace : Bool) (IsSo : Option (List ℕ → List ℕ) → Option Around → Type 0) → IsSo files around
      → IsSoOnceCleared replace files around path Might IsSo
  as_they_are false IsSo so = so
  as_they_are true IsSo so = inl so

  -- it is so of files without that one
  pub without_it :
      (replace : Bool) (IsSo : Option (List ℕ → List ℕ) → Option Around → Type 0)
      (cleared : Option (List ℕ → List ℕ)) (left : Option Around) → replace ≡ true → Might
      → IsWithoutLeftOver files cleared around left path → IsSo cleared left
      → IsSoOnceCleared replace files around path Might IsSo
  without_it false IsSo cleared left may might gone so = absurd (true≢false (sym may))
  without_it true IsSo cleared left may might gone so = inr (might, (cleared, left, gone, so))

  -- the files are as they are, or that one is removed or still there
  pub maybe_without :
      {A E : Type 0} (replace : Bool) (removed : Result A E) (cleared : Option (List ℕ → List ℕ))
      (left : Option Around) → replace ≡ true → Might
      → OnOk removed (IsWithoutLeftOver files cleared around left path)
      → OnErr removed (cleared ≡ files) → OnErr removed (left ≡ around)
      → IsSoOnceCleared replace files around path Might (λ f a. (cleared ≡ f) × (left ≡ a))
  maybe_without replace (Ok _) cleared left may might gone same still =
      without_it replace (λ f a. (cleared ≡ f) × (left ≡ a)) cleared left may might gone (refl, refl)
  maybe_without replace (Err _) cleared left may might gone same still =
      as_they_are replace (λ f a. (cleared ≡ f) × (left ≡ a)) (same, still)

  -- what is so of the files then
  pub so_then :
      (replace : Bool) (IsSo : Option (List ℕ → List ℕ) → Option Around → Type 0)
      (cleared : Option (List ℕ → List ℕ)) (left : Option Around)
      → IsSoOnceCleared replace files around path Might (λ f a. (cleared ≡ f) × (left ≡ a))
      → IsSo cleared left → IsSoOnceCleared replace files around path Might IsSo
  so_then false IsSo cleared left (e, d) so =
      subst (λ (f : Option (List ℕ → List ℕ)). IsSo f around) e (subst (λ (a : Option Around). IsSo cleared a) d so)
  so_then true IsSo cleared left is so = ⊎_elim
      (λ (e, d). inl (subst (λ (f : Option (List ℕ → List ℕ)). IsSo f around) e (subst (λ (a : Option Around). IsSo cleared a) d so)))
      (λ (might, (f, a, gone, same)). inr (might, (f, a, gone, subst (λ (g : Option (List ℕ → List ℕ)). IsSo g a) same.0 (subst (λ (b : Option Around). IsSo cleared b) same.1 so))))
      is

  pub ok_then :
      {A E : Type 0} (r : Result A E) (replace : Bool)
      (IsSo : Option (List ℕ → List ℕ) → Option Around → Type 0)
      (cleared : Option (List ℕ → List ℕ)) (left : Option Around)
      → IsSoOnceCleared replace files around path Might (λ f a. (cleared ≡ f) × (left ≡ a))
      → OnOk r (IsSo cleared left) → OnOk r (IsSoOnceCleared replace files around path Might IsSo)
  ok_then (Ok _) replace IsSo cleared left is so = so_then replace IsSo cleared left is so
  ok_then (Err _) replace IsSo cleared left is so = tt

  pub err_then :
      {A E : Type 0} (r : Result A E) (replace : Bool) (new : Option (List ℕ → List ℕ))
      (after : Option Around) (cleared : Option (List ℕ → List ℕ)) (left : Option Around)
      → IsSoOnceCleared replace files around path Might (λ f a. (cleared ≡ f) × (left ≡ a))
      → OnErr r (new ≡ cleared) → OnErr r (after ≡ left)
      → OnErr r (IsSoOnceCleared replace files around path Might (λ f a. (new ≡ f) × (after ≡ a)))
  err_then (Ok _) replace new after cleared left is same still = tt
  err_then (Err _) replace new after cleared left is same still =
      so_then replace (λ f a. (new ≡ f) × (after ≡ a)) cleared left is (same, still)
