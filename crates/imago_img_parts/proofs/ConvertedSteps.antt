-- What a conversion to either format says of the files.
-- SPDX-License-Identifier: MIT
use Rattle.std.proofs.Common.{◌≡◌, ◌||◌, ℕ, inl, not, Bool, List, Option, Result, Ok, Err, OnOk, refl, sym, subst, subst₂}
use Rattle.imago_words.specs.declared.command.Convert.{Convert}
use Rattle.imago_words.specs.declared.settings.NewFormat.{NewFormat}
use Rattle.imago_words.specs.declared.settings.NewFormat.TheVariants as New
use Rattle.imago_words.specs.declared.settings.Settings.{Settings}
use Rattle.imago_qcow2_new.specs.declared.format.Format.{Format}
use Rattle.imago_images.specs.declared.files.FileStatus.{FileStatus}
use Rattle.imago_images.specs.declared.opening.Opening.{Opening}
use Rattle.imago_img_files.specs.Files.{Around, IsSoOnceCleared, IsUnheld}
use Rattle.imago_img_disks.specs.Disks.{IsConverted}
use Rattle.imago_img_disks.specs.declared.new_qcow2.NewQcow2.{NewQcow2}
use Rattle.imago_img_disks.specs.LeftOvers.{IsApart, IsNoSourceAt}
use Rattle.imago_img_disks.specs.NewFiles.{IsNewlyMade, IsQcow2Copy, format_by}
use Rattle.imago_img_parts.specs.Commands.{IsConvertedTo, IsNewlyConverted}

-- what follows from three facts, each of which holds where something is done
all : {A E : Type 0} {P Q S R : Type 0} (r : Result A E) → (P → Q → S → R) → OnOk r P → OnOk r Q → OnOk r S → OnOk r R
all (Ok x) f h k m = f h k m
all (Err e) f h k m = tt

-- What a conversion says of its format.
module _ (how : Opening) (c : Convert) (statuses left_overs : Option (List ℕ → FileStatus))
    (old made : Option (List ℕ → List ℕ)) (before after : Option Around)
    {E : Type 0} (r : Result (Unit {0}) E) where
  abbrev Might : Type 0
  Might = IsApart how old statuses left_overs c.source.now c.target.now

  abbrev Outside : Type 0
  Outside = IsNoSourceAt how old statuses before c.source.now c.target.now

  pub converted_raw : c.target_format ≡ New.Raw
      → OnOk r (IsSoOnceCleared c.force old before c.target.now Might (λ files around. IsConverted how c.force files made around after c.source.now c.target.now))
      → OnOk r (IsUnheld before c.target.now) → OnOk r Outside
      → OnOk r (IsNewlyConverted how c statuses left_overs old made before after 0)
  converted_raw e h unheld apart = all r
      (λ k free outside. inl (
        refl,
        subst (λ (f : NewFormat). IsSoOnceCleared c.force old before c.target.now Might
            (λ files around. IsConvertedTo f how c files made around after)) (sym e) k,
        free,
        outside,
      )) h unheld apart

  pub converted_qcow2 : (settings : Settings) (new : NewQcow2) → new.format ≡ format_by settings
      → new.all ≡ (settings.preallocated || not c.sparse) → c.target_format ≡ New.Qcow2 settings
      → OnOk r (IsSoOnceCleared c.force old before c.target.now Might (λ files around. IsNewlyMade
      (IsQcow2Copy how c.source.now new.format new.all) c.force files made around after c.target.now))
      → OnOk r (IsUnheld before c.target.now) → OnOk r Outside
      → OnOk r (IsNewlyConverted how c statuses left_overs old made before after 0)
  converted_qcow2 settings new is stored e h unheld apart = all r
      (λ k free outside. inl (
        refl,
        subst (λ (f : NewFormat). IsSoOnceCleared c.force old before c.target.now Might
            (λ files around. IsConvertedTo f how c files made around after)) (sym e)
            (subst₂ (λ (f : Format) (b : Bool). IsSoOnceCleared c.force old before c.target.now Might (λ files around. IsNewlyMade
            (IsQcow2Copy how c.source.now f b) c.force files made around after c.target.now)) is stored k),
        free,
        outside,
      )) h unheld apart
