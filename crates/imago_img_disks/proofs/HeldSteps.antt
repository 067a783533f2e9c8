-- What is so of a file that QEMU holds, where something else is done before it is looked at.
-- SPDX-License-Identifier: MIT
use Rattle.std.proofs.Common.{◌≡◌, ℕ, Bool, true, false, List, Option, Some, None, Result, Ok, Err, OnOk, OnErr, refl, sym, subst, ◌∙◌}
use Rattle.imago_img_files.specs.Files.{Around, IfHeld, IsUnheld}

module _ (before mid : Option Around) (old cleared : Option (List ℕ → List ℕ)) (path : List ℕ)
    (kept : IfHeld before path ((cleared ≡ old) × (mid ≡ before))) where
  unheld_by : (a : Around) (held : Bool) → before ≡ Some a → a.held path ≡ held → IsUnheld mid path → held ≡ false
  unheld_by a false e is h = refl
  unheld_by a true e is h =
      let same : mid ≡ before = (subst (λ (b : Option Around). IfHeld b path ((cleared ≡ old) × (mid ≡ before))) e kept is).1 in
      let there : IsUnheld (Some a) path = subst (λ (m : Option Around). IsUnheld m path) (same ∙ e) h in
      sym is ∙ there

  unheld_in : (b : Option Around) → before ≡ b → IsUnheld mid path → IsUnheld b path
  unheld_in None e h = tt
  unheld_in (Some a) e h = unheld_by a (a.held path) e refl h

  -- a file that isn't held then wasn't held before
  pub unheld_first : {A E : Type 0} (r : Result A E) → OnOk r (IsUnheld mid path) → OnOk r (IsUnheld before path)
  unheld_first (Ok x) h = unheld_in before refl h
  unheld_first (Err e) h = tt

  kept_in : (new : Option (List ℕ → List ℕ)) (after : Option Around) (b : Option Around) → before ≡ b
      → new ≡ cleared → after ≡ mid → IfHeld b path ((new ≡ old) × (after ≡ before))
  kept_in new after None e same still = tt
  kept_in new after (Some a) e same still = λ held.
      let is : (cleared ≡ old) × (mid ≡ before) = subst (λ (b : Option Around). IfHeld b path ((cleared ≡ old) × (mid ≡ before))) e kept held in
      (same ∙ is.0, still ∙ is.1)

  -- where nothing is done then, nothing was done before of one that is held
  pub kept_first : {A E : Type 0} (r : Result A E) (new : Option (List ℕ → List ℕ)) (after : Option Around)
      → OnErr r (new ≡ cleared) → OnErr r (after ≡ mid)
      → OnErr r (IfHeld before path ((new ≡ old) × (after ≡ before)))
  kept_first (Ok x) new after same still = tt
  kept_first (Err e) new after same still = kept_in new after before refl same still
