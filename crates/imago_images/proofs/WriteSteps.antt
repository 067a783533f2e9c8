-- A raw image that is opened for writing.
-- SPDX-License-Identifier: MIT
use Rattle.std.proofs.Common.{◌≡◌, ℕ, List, [], ◌∷◌, Option, Some, None, IfSome, length, refl, subst}
use Rattle.imago_storage.specs.Features.{Features}
use Rattle.imago_drivers.specs.Raw.{raw_place}
use Rattle.imago_drivers.specs.View.{View}
use Rattle.imago_access.specs.declared.access.FormatAccess.{FormatAccess}
use Rattle.imago_access.specs.Chain.{driver}
use Rattle.imago_qcow2.specs.Limit.{IsWithin}
use Rattle.imago_images.specs.declared.format.ImageFormat.TheVariants.{Raw}
use Rattle.imago_images.specs.declared.opening.Opening.{Opening}
use Rattle.imago_images.specs.HostBytes.{HasBytes}
use Rattle.imago_images.specs.Layers.{ShowsLayers}
use Rattle.imago_images.specs.Images.{IsImageIn}

-- the image of a raw file is that of the file which its storage tells
pub raw_written :
    {D St S : Type 0} (view : D → View St) (features : S → Features) (bytes : S → List ℕ) (s : S)
    (x : FormatAccess D) (known : Option (List ℕ → List ℕ)) (path : List ℕ) (shown : Option (List ℕ))
    → IfSome known (λ files. shown ≡ Some (files path))
    → ((held : List ℕ) → shown ≡ Some held → HasBytes features bytes held s)
    → ((held : List ℕ) → HasBytes features bytes held s
    → ShowsLayers view x (length held) (raw_place (length held) held ∷ []))
    → (how : Opening) → IsWithin how.longest (view (driver x)).size
    → IfSome known (λ files. IsImageIn view how files path Raw x)
raw_written view features bytes s x None path shown held told shows how within = tt
raw_written view features bytes s x (Some files) path shown held told shows how within =
    let has : List ℕ = files path in
    let all = shows has (told has held) in
    let short : IsWithin how.longest (length has) = subst (λ (n : ℕ). IsWithin how.longest n) all.1 within in (
      raw_place (length has) has ∷ [],
      (None, (refl, refl), (short, tt, tt), refl),
      all,
    )
