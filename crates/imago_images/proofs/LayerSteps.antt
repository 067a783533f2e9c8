-- What a file is as a layer, where its host tells what files have.
-- SPDX-License-Identifier: MIT
use Rattle.std.proofs.Common.{◌≡◌, ℕ, List, Option, Some, None, Result, Ok, Err, IfOk, IfSome}
use Rattle.std.proofs.Common.{refl, sym, ap, subst, length, OnOk}
use Rattle.std.specs.Prelude.{option_map}
use Rattle.imago_storage.specs.Features.{Features}
use Rattle.imago_drivers.specs.Raw.{raw_place}
use Rattle.imago_drivers.specs.View.{View}
use Rattle.imago_qcow2.specs.Entry.{disk_size, qcow2_place}
use Rattle.imago_vmdk.specs.declared.line.Accepted.{Accepted}
use Rattle.imago_images.specs.declared.format.ImageFormat.{ImageFormat}
use Rattle.imago_images.specs.declared.format.ImageFormat.TheVariants.{Raw, Vmdk, Qcow2}
use Rattle.imago_images.specs.Formats.{SaysFormat}
use Rattle.imago_qcow2.specs.Limit.{HasTablesWithin}
use Rattle.imago_images.specs.HostBytes.{HasBytes}
use Rattle.imago_images.specs.Longest.{HasFewTables}
use Rattle.imago_images.specs.Layers.{IsDriverOf}
use Rattle.imago_images.specs.Images.{IsLayerOf, LeadsTo}
use Rattle.imago_images.specs.declared.opening.OtherFiles.{OtherFiles}

-- what holds of each host that tells what files have
pub told_by :
    {A E : Type 0} (r : Result A E) (known : Option (List ℕ → List ℕ))
    (T : (List ℕ → List ℕ) → Type 0) (P : (List ℕ → List ℕ) → A → Type 0)
    → IfSome known T → ((files : List ℕ → List ℕ) → T files → IfOk r (P files))
    → IfOk r (λ x. IfSome known (λ files. P files x))
told_by (Ok x) None T P h k = tt
told_by (Ok x) (Some files) T P h k = k files h
told_by (Err e) known T P h k = tt

-- what follows from two facts of what was given
pub both_ok :
    {A E : Type 0} (r : Result A E) (P Q R : A → Type 0)
    → IfOk r P → IfOk r Q → ((x : A) → P x → Q x → R x) → IfOk r R
both_ok (Ok x) P Q R p q f = f x p q
both_ok (Err e) P Q R p q f = tt

module _ {D St S L B E : Type 0} (view : D → View St) (features : S → Features)
    (bytes : S → List ℕ) (accepted : Accepted) (others : OtherFiles) (known : Option (List ℕ → List ℕ)) (path : List ℕ)
    (file : S) (r : Result L E) (inner : L → D) (below : L → Option B) (path_in : B → List ℕ)
    (format_in : B → Option ImageFormat)
    (told : IfSome known (λ files. HasBytes features bytes (files path) file)) where
  abbrev pub layer_in : ImageFormat → (List ℕ → List ℕ) → L → Type 0
  layer_in format files l = IsLayerOf view accepted others files path format (inner l) (option_map path_in (below l))

  pub raw_told :
      (format : ImageFormat) → format ≡ Raw → IfOk r (λ l. below l ≡ None)
      → ((xs : List ℕ) → HasBytes features bytes xs file
      → IfOk r (λ l. IsDriverOf view (length xs) (raw_place (length xs) xs) (inner l)))
      → IfOk r (λ l. IfSome known (λ files. layer_in format files l))
  raw_told format is alone driver =
      told_by r known (λ files. HasBytes features bytes (files path) file) (layer_in format) told
      (λ files t. both_ok r (λ l. below l ≡ None)
      (λ l. IsDriverOf view (length (files path)) (raw_place (length (files path)) (files path)) (inner l))
      (layer_in format files) alone (driver (files path) t)
      (λ l none d. subst (λ (f : ImageFormat). layer_in f files l) (sym is)
      (raw_place (length (files path)) (files path), (refl, ap (option_map path_in) none), d)))

  pub qcow2_told :
      (format : ImageFormat) → format ≡ Qcow2
      → ((xs : List ℕ) → HasBytes features bytes xs file
      → IfOk r (λ l. IsDriverOf view (disk_size xs) (qcow2_place xs) (inner l)))
      → ((xs : List ℕ) → HasBytes features bytes xs file
      → IfOk r (λ l. LeadsTo xs path (option_map path_in (below l))))
      → IfOk r (λ l. IfSome known (λ files. layer_in format files l))
  qcow2_told format is driver leads =
      told_by r known (λ files. HasBytes features bytes (files path) file) (layer_in format) told
      (λ files t. both_ok r (λ l. IsDriverOf view (disk_size (files path)) (qcow2_place (files path)) (inner l))
      (λ l. LeadsTo (files path) path (option_map path_in (below l)))
      (layer_in format files) (driver (files path) t) (leads (files path) t)
      (λ l d next. subst (λ (f : ImageFormat). layer_in f files l) (sym is)
      (qcow2_place (files path), (refl, next), d)))

  pub vmdk_told :
      (format : ImageFormat) → format ≡ Vmdk → IfOk r (λ l. below l ≡ None)
      → IfOk r (λ l. IfSome known (λ files. IsLayerOf view accepted others files path Vmdk (inner l) None))
      → IfOk r (λ l. IfSome known (λ files. layer_in format files l))
  vmdk_told format is alone layer =
      both_ok r (λ l. below l ≡ None)
      (λ l. IfSome known (λ files. IsLayerOf view accepted others files path Vmdk (inner l) None))
      (λ l. IfSome known (λ files. layer_in format files l)) alone layer
      (λ l none h.
      subst (λ (f : ImageFormat). IfSome known (λ files. layer_in f files l)) (sym is)
      (subst (λ (o : Option (List ℕ)). IfSome known (λ files. IsLayerOf view accepted others files path Vmdk (inner l) o))
      (sym (ap (option_map path_in) none)) h))

  -- what it says of the format below
  pub qcow2_said :
      ((xs : List ℕ) → HasBytes features bytes xs file
      → IfOk r (λ l. IfSome (below l) (λ b. SaysFormat xs (format_in b))))
      → IfOk r (λ l. IfSome known (λ files. IfSome (below l) (λ b. SaysFormat (files path) (format_in b))))
  qcow2_said said =
      told_by r known (λ files. HasBytes features bytes (files path) file)
      (λ files l. IfSome (below l) (λ b. SaysFormat (files path) (format_in b))) told
      (λ files t. said (files path) t)

  pub alone_said :
      IfOk r (λ l. below l ≡ None)
      → IfOk r (λ l. IfSome known (λ files. IfSome (below l) (λ b. SaysFormat (files path) (format_in b))))
  alone_said alone =
      told_by r known (λ files. HasBytes features bytes (files path) file)
      (λ files l. IfSome (below l) (λ b. SaysFormat (files path) (format_in b))) told
      (λ files t. both_ok r (λ l. below l ≡ None) (λ l. below l ≡ None)
      (λ l. IfSome (below l) (λ b. SaysFormat (files path) (format_in b))) alone alone
      (λ l none same. subst (λ (o : Option B). IfSome o (λ b. SaysFormat (files path) (format_in b))) (sym none) tt))

-- how many bytes the tables of a file have
module _ {A E S : Type 0} (features : S → Features) (bytes : S → List ℕ) (known : Option (List ℕ → List ℕ))
    (path : List ℕ) (file : S) (most : Option ℕ) (format : ImageFormat) where
  pub few_told :
      (r : Result A E) → format ≡ Qcow2 → IfSome known (λ files. HasBytes features bytes (files path) file)
      → ((xs : List ℕ) → HasBytes features bytes xs file → OnOk r (HasTablesWithin most xs))
      → OnOk r (IfSome known (λ files. HasFewTables most format (files path)))
  few_told (Err e) is told few = tt
  few_told (Ok x) is told few = each known told
    where
      each : (k : Option (List ℕ → List ℕ)) → IfSome k (λ files. HasBytes features bytes (files path) file)
          → IfSome k (λ files. HasFewTables most format (files path))
      each None t = tt
      each (Some files) t =
          let here : HasFewTables most Qcow2 (files path) = few (files path) t in
          subst (λ (f : ImageFormat). HasFewTables most f (files path)) (sym is) here

-- other formats have none
module _ (known : Option (List ℕ → List ℕ)) (path : List ℕ) (most : Option ℕ) (format : ImageFormat) where
  none_in : (k : Option (List ℕ → List ℕ)) → ((bytes : List ℕ) → HasFewTables most format bytes)
      → IfSome k (λ files. HasFewTables most format (files path))
  none_in None none = tt
  none_in (Some files) none = none (files path)

  no_tables : {A E : Type 0} (r : Result A E) → ((bytes : List ℕ) → HasFewTables most format bytes)
      → OnOk r (IfSome known (λ files. HasFewTables most format (files path)))
  no_tables (Ok x) none = none_in known none
  no_tables (Err e) none = tt

  none_raw : format ≡ Raw → (bytes : List ℕ) → HasFewTables most format bytes
  none_raw is bytes =
      let here : HasFewTables most Raw bytes = tt in
      subst (λ (f : ImageFormat). HasFewTables most f bytes) (sym is) here

  none_vmdk : format ≡ Vmdk → (bytes : List ℕ) → HasFewTables most format bytes
  none_vmdk is bytes =
      let here : HasFewTables most Vmdk bytes = tt in
      subst (λ (f : ImageFormat). HasFewTables most f bytes) (sym is) here

  pub few_raw : {A E : Type 0} (r : Result A E) → format ≡ Raw → OnOk r (IfSome known (λ files. HasFewTables most format (files path)))
  few_raw r is = no_tables r (none_raw is)

  pub few_vmdk : {A E : Type 0} (r : Result A E) → format ≡ Vmdk → OnOk r (IfSome known (λ files. HasFewTables most format (files path)))
  few_vmdk r is = no_tables r (none_vmdk is)
