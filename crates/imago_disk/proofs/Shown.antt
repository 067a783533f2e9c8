-- What an opened image shows, by its layers.
-- SPDX-License-Identifier: MIT
use Rattle.std.proofs.Common.{◌≡◌, ℕ, List, Option, Some, None, length, IfSome, sym, ◌∙◌}
use Rattle.std.proofs.lemmas.List.FromFn.{length-map-range_with_len}
use Rattle.imago_drivers.specs.View.{View}
use Rattle.imago_access.specs.declared.access.FormatAccess.{FormatAccess}
use Rattle.imago_access.specs.Chain.{driver, disk_value}
use Rattle.imago_access.specs.Disk.{disk}
use Rattle.imago_access.proofs.DiskLists.{same_listed}
use Rattle.imago_images.specs.declared.format.ImageFormat.{ImageFormat}
use Rattle.imago_images.specs.declared.opening.Opening.{Opening}
use Rattle.imago_images.specs.Formats.{IsFormatBy}
use Rattle.imago_images.specs.Images.{IsImageIn}
use Rattle.imago_images.specs.Layers.{layers_value}
use Rattle.imago_disk.specs.Shows.{ShowsDisk}

module _ {D St : Type 0} (view : D → View St) where
  -- an opened image shows its disk
  pub shows_disk :
      (how : Opening) (files : List ℕ → List ℕ) (path : List ℕ) (format : ImageFormat)
      (x : FormatAccess D) → IsFormatBy how.format path (files path) format
      → IsImageIn view how files path format x → ShowsDisk how files path (disk view x)
  shows_disk how files path format x by (layers, are, shown) = (
    format,
    layers,
    by,
    are,
    same_listed (layers_value layers) (disk_value view x) _ _ shown.1 shown.2,
  )

  -- the same, where it is told what files have
  pub shows_told :
      (how : Opening) (known : Option (List ℕ → List ℕ)) (path : List ℕ) (format : ImageFormat)
      (x : FormatAccess D) → IfSome known (λ files. IsFormatBy how.format path (files path) format)
      → IfSome known (λ files. IsImageIn view how files path format x)
      → IfSome known (λ files. ShowsDisk how files path (disk view x))
  shows_told how None path format x by image = tt
  shows_told how (Some files) path format x by image = shows_disk how files path format x by image

  -- the length of a disk
  pub disk_length : (x : FormatAccess D) (size : ℕ) → size ≡ (view (driver x)).size
      → size ≡ length (disk view x)
  disk_length x size e =
      e ∙ sym (length-map-range_with_len (disk_value view x) 0 (view (driver x)).size)
