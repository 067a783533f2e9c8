-- What an offset of an image leads to where its driver takes no layer below.
-- SPDX-License-Identifier: MIT
use Rattle.std.proofs.Common.{◌≡◌, ℕ, Bool, false, true, refl, sym, ap, ◌∙◌}
use Rattle.imago_drivers.specs.Place.{Place, Stored, Zeroed, Special, Lower, Refused, End}
use Rattle.imago_drivers.specs.Laws.{IsLawful}
use Rattle.imago_drivers.specs.View.{View}
use Rattle.imago_access.specs.declared.access.FormatAccess.{FormatAccess, out-FormatAccess, is-FormatAccess', back-FormatAccess-backing}
use Rattle.imago_access.specs.Chain.{driver}
use Rattle.imago_access.specs.Target.{Target, target, target_below, target_here, followed}

false_true : false ≡ true → ⊥
false_true e = cc e

own_target : (below : ℕ → Target) (place : Place) → ((q : ℕ) (w : Bool) → place ≡ Lower q w → ⊥) → followed below place ≡ target_here place
own_target below (Lower q w) h = absurd (h q w refl)
own_target below (Stored b s o w) h = refl
own_target below (Zeroed e) h = refl
own_target below (Special b o) h = refl
own_target below (Refused e) h = refl
own_target below End h = refl

module _ {D St : Type 0} (view : D → View St) (lawful : (d : D) → IsLawful (view d)) where
  -- a driver that takes no layer below leads to none
  pub top_target : (x : FormatAccess D) (p : ℕ) → (view (driver x)).abilities.takes_backing ≡ false → target view x p ≡ target_here ((view (driver x)).place p)
  top_target x p alone =
      let below : ℕ → Target = target_below view (back-FormatAccess-backing D (out-FormatAccess D x).backing) in
      ap (λ (y : FormatAccess D). target view y p) (is-FormatAccess' x)
      ∙ own_target below ((view (driver x)).place p) (λ q w e. false_true (sym alone ∙ (lawful (driver x)).lower p q w e))
