-- Raw images that get another size, by the files that there are.
-- SPDX-License-Identifier: MIT
use Rattle.std.proofs.Common.{◌≡◌, ℕ, List, Option, Some, None, length, option_map, IfSome, ap, subst, ◌∙◌}
use Rattle.std.specs.Int.{next_multiple_of}
use Rattle.imago_words.specs.declared.command.Resize.{Resize}
use Rattle.imago_images.specs.declared.format.ImageFormat.TheVariants.{Raw}
use Rattle.imago_images.specs.Formats.{IsFormatBy}
use Rattle.imago_img_files.specs.Files.{IsResized}
use Rattle.imago_img_files.specs.Openings.{image_format}
use Rattle.imago_img_disks.specs.Resized.{IsImageResized, IsNewSize, IsSizeAsked, raw_size}

module _ (r : Resize) where
  -- what is found of a file says which size its image gets
  pub size_for : (known : Option (List ℕ → List ℕ)) (count now size : ℕ)
      → IfSome known (λ files. count ≡ length (files r.file.now))
      → IfSome known (λ files. IsFormatBy (option_map image_format r.format) r.file.now (files r.file.now) Raw)
      → now ≡ next_multiple_of count 512 → IsSizeAsked r now size
      → IfSome known (λ files. IsNewSize r files size)
  size_for None count now size counted raw rounded asked = tt
  size_for (Some files) count now size counted raw rounded asked =
      (raw, subst (λ (n : ℕ). IsSizeAsked r n size) (rounded ∙ ap raw_size counted) asked)

  -- a file that has that length is an image of that size
  pub image_resized : (known new : Option (List ℕ → List ℕ)) (size : ℕ)
      → IfSome known (λ files. IsNewSize r files size) → IsResized known new r.file.now size
      → IsImageResized r known new
  image_resized None new size asked cut = tt
  image_resized (Some files) new size asked cut = (size, asked, cut)
