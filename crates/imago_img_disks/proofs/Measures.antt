-- What is measured, by the functions that find it.
-- SPDX-License-Identifier: MIT
use Rattle.std.proofs.Common.{◌≡◌, ℕ, Bool, false, List, Option, Some, None, Result, Ok, Err, IfOk, IfSome, IsTrue, refl, sym, ap, subst}
use Rattle.imago_drivers.specs.View.{View}
use Rattle.imago_access.specs.declared.access.FormatAccess.{FormatAccess}
use Rattle.imago_access.specs.Chain.{driver, tells_bytes}
use Rattle.imago_access.specs.Disk.{disk, value_at}
use Rattle.imago_words.specs.declared.command.Measure.{Measure}
use Rattle.imago_words.specs.declared.command.Measured.{Measured}
use Rattle.imago_words.specs.declared.settings.NewFormat.{NewFormat}
use Rattle.imago_words.specs.declared.settings.NewFormat.TheVariants as New
use Rattle.imago_words.specs.declared.settings.Settings.{Settings}
use Rattle.imago_qcow2_new.specs.declared.format.Format.{Format}
use Rattle.imago_qcow2_new.specs.declared.layout.Layout.{Layout}
use Rattle.imago_qcow2_new.specs.Layout.{IsLayoutOf, file_length}
use Rattle.imago_qcow2_new.specs.Space.{StoresData}
use Rattle.imago_images.specs.declared.format.ImageFormat.{ImageFormat}
use Rattle.imago_images.specs.declared.opening.Opening.{Opening}
use Rattle.imago_images.specs.Formats.{IsFormatBy}
use Rattle.imago_images.specs.Images.{IsImageIn}
use Rattle.imago_disk.specs.Shows.{HasSize}
use Rattle.imago_disk.proofs.Shown.{shows_disk}
use Rattle.imago_img_files.specs.Printed.{is_json}
use Rattle.imago_img_disks.specs.Measures.{AreLengths, AreLengthsOf, IsFullLength, IsMeasured, IsStored, StoresDataOf, lengths_text}
use Rattle.imago_img_disks.specs.NewFiles.{format_by}
use Rattle.imago_img_disks.proofs.Disks.{sized}

-- the disk that is asked for
pub lengths_of : {A E : Type 0} (required full : A → ℕ) (r : Result A E) (c : Measure) (known : Option (List ℕ → List ℕ)) (d : Measured)
    → c.disk ≡ d → IfOk r (λ x. IfSome known (λ files. AreLengthsOf c d files (required x) (full x)))
    → IfOk r (λ x. IfSome known (λ files. AreLengthsOf c c.disk files (required x) (full x)))
lengths_of required full r c known d e h =
    subst (λ (m : Measured). IfOk r (λ x. IfSome known (λ files. AreLengthsOf c m files (required x) (full x)))) (sym e) h

-- what is so of an answer anyway is so whatever files have
pub of_any_files : {A E : Type 0} (P : A → Type 0) (r : Result A E) (known : Option (List ℕ → List ℕ))
    → IfOk r P → IfOk r (λ x. IfSome known (λ files. P x))
of_any_files P (Ok x) None h = tt
of_any_files P (Ok x) (Some files) h = h
of_any_files P (Err e) known h = tt

-- lengths are those of files that store what follows too
pub lengths_weaker : (format : NewFormat) (P Q : Layout → Type 0) (size required full : ℕ) → ((l : Layout) → P l → Q l)
    → AreLengths format P size required full → AreLengths format Q size required full
lengths_weaker New.Raw P Q size required full f h = h
lengths_weaker (New.Qcow2 s) P Q size required full f h =
    let (l, is, stored, long) = h.0 in
    ((l, is, (λ some. f l (stored.0 some), stored.1), long), h.1)

-- the lengths of a file of the disk of an opened image
pub lengths_there : {D St A E : Type 0} (view : D → View St) (required full : A → ℕ) (how said : Opening) → how ≡ said
    → (known : Option (List ℕ → List ℕ)) (path : List ℕ) (format : ImageFormat) (x : FormatAccess D) (target : NewFormat) (r : Result A E)
    → IfSome known (λ files. IsFormatBy how.format path (files path) format)
    → IfSome known (λ files. IsImageIn view how files path format x)
    → IfOk r (λ n. AreLengths target (λ l. IsTrue (tells_bytes view x) → StoresData l.clusters (value_at (disk view x)))
    (view (driver x)).size (required n) (full n))
    → IfOk r (λ n. IfSome known (λ files. (size : ℕ) × HasSize said files path size
    × AreLengths target (StoresDataOf said files path) size (required n) (full n)))
lengths_there view required full how said e known path format x target (Err f) by image h = tt
lengths_there view required full how said e None path format x target (Ok n) by image h = tt
lengths_there view required full how said e (Some files) path format x target (Ok n) by image h =
    let size = (view (driver x)).size in
    subst (λ (o : Opening). (size : ℕ) × HasSize o files path size × AreLengths target (StoresDataOf o files path) size (required n) (full n)) e (
      size,
      sized view how (Some files) path format x size refl by image,
      lengths_weaker target _ (StoresDataOf how files path) size (required n) (full n)
          (λ l stored. (disk view x, shows_disk view how files path format x by image, stored image.2.0)) h,
    )

-- what was found is what is told
pub measured : (c : Measure) (known : Option (List ℕ → List ℕ)) (json : Bool) (required full : ℕ) → json ≡ is_json c.output
    → IfSome known (λ files. AreLengthsOf c c.disk files required full)
    → IfSome known (λ files. IsMeasured c files (lengths_text json required full))
measured c None json required full e h = tt
measured c (Some files) json required full e h = (required, full, h, ap (λ (b : Bool). lengths_text b required full) e)

-- the lengths of a qcow2 file by its layout
pub qcow2_lengths : (format : NewFormat) (settings : Settings) (IsSo : Layout → Type 0) (shape : Format) (l : Layout) (size told required full : ℕ)
    → format ≡ New.Qcow2 settings → shape ≡ format_by settings → told ≡ size → IsLayoutOf shape size l → IsStored settings IsSo l
    → required ≡ file_length l → IsFullLength settings told full → AreLengths format IsSo size required full
qcow2_lengths format settings IsSo shape l size told required full e same sized is stored long all =
    subst (λ (f : NewFormat). AreLengths f IsSo size required full) (sym e)
    ((l, subst (λ (f : Format). IsLayoutOf f size l) same is, stored, long), subst (λ (n : ℕ). IsFullLength settings n full) sized all)
