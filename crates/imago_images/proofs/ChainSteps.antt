-- What an image over layers is, where its host tells what files have.
-- SPDX-License-Identifier: MIT
use Rattle.std.proofs.Common.{◌≡◌, ℕ, ◌+◌, ◌≤◌, ◌++◌, false, arith, List, [], ◌∷◌, Option, Some, None, IfSome, length, inl, inr, refl, subst}
use Rattle.imago_drivers.specs.Place.{Place}
use Rattle.imago_drivers.specs.View.{View}
use Rattle.imago_access.specs.declared.access.FormatAccess.{FormatAccess}
use Rattle.imago_vmdk.specs.declared.line.Accepted.{Accepted}
use Rattle.imago_images.specs.declared.format.ImageFormat.{ImageFormat}
use Rattle.imago_images.specs.Formats.{SaysFormat, IsFormatBy}
use Rattle.imago_images.specs.Layers.{size_by}
use Rattle.imago_images.specs.Gate.{IsLetThrough, IsInside}
use Rattle.imago_images.specs.Longest.{IsNoLonger, HasShortL1, HasFewTables, IsLimited}
use Rattle.imago_images.specs.Layers.{IsDriverOf, ShowsLayers}
use Rattle.imago_images.specs.Images.{IsLayerOf, AreLayers, IsImageIn, LeadsTo}
use Rattle.imago_images.specs.Way.{is_among}
use Rattle.imago_images.specs.declared.failure.OpenError.{OpenError}
use Rattle.imago_images.specs.declared.files.FileStatus.{FileStatus}
use Rattle.imago_images.specs.declared.format.ImageFormat.TheVariants.{Raw, Vmdk, Qcow2}
use Rattle.imago_images.specs.Refusals.{IsRefused, IsTooDeep}
use Rattle.imago_images.specs.Chains.{HasIdentity, GoesDown, IsLayerRefused, IsNextRefused, IsChainRefused, IsKept, IsWayDown, IsEndingWay}
use Rattle.imago_images.specs.declared.opening.OtherFiles.{OtherFiles}
use Rattle.imago_images.specs.declared.opening.Opening.{Opening}

one_more : (down : List (List ℕ)) (next : List ℕ) (less most : ℕ) → less + 1 ≤ most → length down ≤ less → length (next ∷ down) ≤ most
one_more down next less most n h = grind (arith, n, h)

-- the first of layers is within the limits
pub first_limited :
    (how : Opening) (files : List ℕ → List ℕ) (path : List ℕ) (format : ImageFormat) (layers : List (ℕ → Place))
    → AreLayers how files path format layers → IsLimited how format (files path)
first_limited how files path format [] h = absurd h
first_limited how files path format (place ∷ below) (next, layer, limited, goes) = limited

-- a file is within each of the limits
pub limits_told :
    (known : Option (List ℕ → List ℕ)) (how : Opening) (path : List ℕ) (format : ImageFormat)
    → IfSome known (λ files. IsNoLonger how.longest how.accepted format (files path))
    → IfSome known (λ files. HasShortL1 format (files path))
    → IfSome known (λ files. HasFewTables how.tables format (files path))
    → IfSome known (λ files. IsLimited how format (files path))
limits_told None how path format short l1 few = tt
limits_told (Some files) how path format short l1 few = (short, l1, few)

module _ {D St : Type 0} (view : D → View St) (how : Opening) where
  -- a file that is let through, and within the limits
  pub kept_told :
      (known : Option (List ℕ → List ℕ)) (reals : Option (List ℕ → List ℕ)) (path next : List ℕ)
      (lower : ImageFormat) (y : FormatAccess D)
      → IsLetThrough how.other_files path next → IsInside reals how.other_files path next
      → IfSome known (λ files. IsImageIn view how files next lower y)
      → IfSome known (λ files. IsKept files reals how path next lower)
  kept_told None reals path next lower y through inside image = tt
  kept_told (Some files) reals path next lower y through inside image =
      (through, inside, first_limited how files next lower image.0 image.1)

  pub alone_image :
      (known : Option (List ℕ → List ℕ)) (path : List ℕ) (format : ImageFormat) (inner : D)
      (x : FormatAccess D)
      → ((size : ℕ) (place : ℕ → Place) → IsDriverOf view size place inner
      → ShowsLayers view x size (place ∷ []))
      → IfSome known (λ files. IsLayerOf view how.accepted how.other_files files path format inner None)
      → IfSome known (λ files. IsLimited how format (files path))
      → IfSome known (λ files. IsImageIn view how files path format x)
  alone_image None path format inner x shows h l = tt
  alone_image (Some files) path format inner x shows h l =
      (h.0 ∷ [], (None, h.1, l, refl), shows (size_by how.accepted format (files path)) h.0 h.2)

  pub over_image :
      (known : Option (List ℕ → List ℕ)) (path next : List ℕ) (format lower : ImageFormat)
      (inner : D) (x y : FormatAccess D) (said : Option ImageFormat)
      → ((size rest : ℕ) (place : ℕ → Place) (layers : List (ℕ → Place))
      → IsDriverOf view size place inner → ShowsLayers view y rest layers
      → ShowsLayers view x size (place ∷ layers))
      → IfSome known (λ files. IsLayerOf view how.accepted how.other_files files path format inner (Some next))
      → IfSome known (λ files. IsLimited how format (files path))
      → IfSome known (λ files. SaysFormat (files path) said)
      → IfSome known (λ files. IsFormatBy said next (files next) lower)
      → IsLetThrough how.other_files path next
      → IfSome known (λ files. IsImageIn view how files next lower y)
      → IfSome known (λ files. IsImageIn view how files path format x)
  over_image None path next format lower inner x y said shows h l s f t k = tt
  over_image (Some files) path next format lower inner x y said shows h l s f t k = (
    h.0 ∷ k.0,
    (Some next, h.1, l, (t, (lower, (said, s, f), k.1))),
    shows (size_by how.accepted format (files path)) (size_by how.accepted lower (files next)) h.0 k.0 h.2 k.2,
  )

module _ {D St : Type 0} (view : D → View St) (accepted : Accepted) (others : OtherFiles) where
  -- a layer with a file below it goes down to that
  goes_down :
      (files : List ℕ → List ℕ) (path next : List ℕ) (format : ImageFormat) (inner : D)
      → IsLayerOf view accepted others files path format inner (Some next) → GoesDown files path format next
  goes_down files path next Raw inner h = let none : ⊥ = cc h.1.1 in absurd none
  goes_down files path next Qcow2 inner h = (refl, h.1.1)
  goes_down files path next Vmdk inner h = let none : ⊥ = cc h.1.5 in absurd none

  module _ (how : Opening) (statuses : Option (List ℕ → FileStatus)) (reals : Option (List ℕ → List ℕ)) (above : List (ℕ × ℕ))
      (path : List ℕ) (format : ImageFormat) (e : OpenError) where
    -- what is shown of a chain that isn't opened from here on
    abbrev pub IsChainOut : (List ℕ → List ℕ) → Type 0
    IsChainOut files = (down : List (List ℕ)) × IsChainRefused files statuses reals others how above path format down e

    pub layer_out :
        (known : Option (List ℕ → List ℕ))
        → IfSome known (λ files. IsLayerRefused files statuses reals others how path format e)
        → IfSome known IsChainOut
    layer_out None h = tt
    layer_out (Some files) h = ([], inl h)

    pub too_deep_out :
        (known : Option (List ℕ → List ℕ)) (next : List ℕ) (inner : D)
        → IfSome known (λ files. IsLayerOf view accepted others files path format inner (Some next))
        → length above ≡ 200 → IsRefused path IsTooDeep e → IfSome known IsChainOut
    too_deep_out None next inner h n r = tt
    too_deep_out (Some files) next inner h n r =
        ([], inr (next, goes_down files path next format inner h, inl (n, r)))

    pub next_out :
        (known : Option (List ℕ → List ℕ)) (next : List ℕ) (said : Option ImageFormat) (inner : D)
        → IfSome known (λ files. IsLayerOf view accepted others files path format inner (Some next))
        → IfSome known (λ files. SaysFormat (files path) said)
        → IfSome known (λ files. SaysFormat (files path) said
        → IsNextRefused files statuses reals others how above path next e)
        → IfSome known IsChainOut
    next_out None next said inner h s r = tt
    next_out (Some files) next said inner h s r =
        ([], inr (next, goes_down files path next format inner h, inr (r s)))

    pub below_out :
        (known : Option (List ℕ → List ℕ)) (next : List ℕ) (said : Option ImageFormat) (lower : ImageFormat)
        (inner : D) (file : ℕ × ℕ) (now : List (ℕ × ℕ))
        → IfSome known (λ files. IsLayerOf view accepted others files path format inner (Some next))
        → IfSome known (λ files. SaysFormat (files path) said)
        → IfSome known (λ files. IsFormatBy said next (files next) lower)
        → IsLetThrough others path next → HasIdentity statuses next file → now ≡ above ++ file ∷ []
        → IfSome known (λ files. (down : List (List ℕ))
        × IsChainRefused files statuses reals others how now next lower down e)
        → IfSome known IsChainOut
    below_out None next said lower inner file now h s f t i is r = tt
    below_out (Some files) next said lower inner file now h s f t i is r = (
      next ∷ r.0,
      (
        goes_down files path next format inner h,
        t,
        (
          lower,
          (said, s, f),
          (
            file,
            i,
            subst (λ (xs : List (ℕ × ℕ)). IsChainRefused files statuses reals others how xs next lower r.0 e) is r.1,
          ),
        ),
      ),
    )

  -- a layer with no file below it is the end of the way
  ends_here :
      (files : List ℕ → List ℕ) (path : List ℕ) (format : ImageFormat) (inner : D)
      → IsLayerOf view accepted others files path format inner None
      → format ≡ Qcow2 → LeadsTo (files path) path None
  ends_here files path Raw inner h is = let none : ⊥ = cc is in absurd none
  ends_here files path Qcow2 inner h is = h.1.1
  ends_here files path Vmdk inner h is = let none : ⊥ = cc is in absurd none

  module _ (statuses : Option (List ℕ → FileStatus)) (reals : Option (List ℕ → List ℕ)) (how : Opening)
      (above : List (ℕ × ℕ)) (path : List ℕ) (format : ImageFormat) where
    pub last_ends :
        (known : Option (List ℕ → List ℕ)) (inner : D) (most : ℕ)
        → IfSome known (λ files. IsLayerOf view accepted others files path format inner None)
        → IfSome known (λ files. IsEndingWay files statuses reals how above path format most)
    last_ends None inner most h = tt
    last_ends (Some files) inner most h = ([], ends_here files path format inner h, omega arith)

    pub next_ends :
        (known : Option (List ℕ → List ℕ)) (next : List ℕ) (said : Option ImageFormat) (lower : ImageFormat)
        (inner : D) (file : ℕ × ℕ) (now : List (ℕ × ℕ)) (less most : ℕ)
        → IfSome known (λ files. IsLayerOf view accepted others files path format inner (Some next))
        → IfSome known (λ files. SaysFormat (files path) said)
        → IfSome known (λ files. IsFormatBy said next (files next) lower)
        → IfSome known (λ files. IsKept files reals how path next lower)
        → HasIdentity statuses next file → is_among above file ≡ false → now ≡ above ++ file ∷ []
        → less + 1 ≤ most
        → IfSome known (λ files. IsEndingWay files statuses reals how now next lower less)
        → IfSome known (λ files. IsEndingWay files statuses reals how above path format most)
    next_ends None next said lower inner file now less most h s f k i a is n r = tt
    next_ends (Some files) next said lower inner file now less most h s f k i a is n r = (
      next ∷ r.0,
      (
        goes_down files path next format inner h,
        (
          lower,
          (said, s, f),
          k,
          (
            file,
            i,
            a,
            subst (λ (xs : List (ℕ × ℕ)). IsWayDown files statuses reals how xs next lower r.0) is r.1,
          ),
        ),
      ),
      one_more r.0 next less most n r.2,
    )
