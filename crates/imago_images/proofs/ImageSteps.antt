-- Why an image, or the file below one, isn't opened, where its host tells what files have.
-- SPDX-License-Identifier: MIT
use Rattle.std.proofs.Common.{◌≡◌, ℕ, Bool, List, [], ◌∷◌, Option, Some, None, Result, Err, IfErr, IfSome}
use Rattle.std.proofs.Common.{sym, ap, subst, inl, inr, ◌∙◌}
use Rattle.imago_storage.specs.Features.{Features}
use Rattle.imago_images.specs.declared.failure.OpenError.{OpenError}
use Rattle.imago_images.specs.declared.files.FileStatus.{FileStatus}
use Rattle.imago_images.specs.declared.format.ImageFormat.{ImageFormat}
use Rattle.imago_images.specs.declared.format.ImageFormat.TheVariants as Format
use Rattle.imago_images.specs.declared.opening.OtherFiles.{OtherFiles}
use Rattle.imago_images.specs.Formats.{SaysFormat, IsFormatBy}
use Rattle.imago_images.specs.Images.{IsImageIn}
use Rattle.imago_images.proofs.ChainSteps.{first_limited}
use Rattle.imago_access.specs.declared.access.FormatAccess.{FormatAccess}
use Rattle.imago_access.specs.Chain.{driver}
use Rattle.imago_drivers.specs.View.{View}
use Rattle.imago_images.specs.HostBytes.{HasBytes}
use Rattle.imago_images.specs.Alone.{IsOfAnother, IsOfOneFormat}
use Rattle.imago_images.specs.Longest.{IsOverLimit, IsTooLarge}
use Rattle.imago_images.specs.declared.opening.Opening.{Opening}
use Rattle.imago_images.specs.Way.{identity}
use Rattle.imago_images.specs.Refusals.{IsRefused, IsUnknown}
use Rattle.imago_images.specs.Chains.{HasIdentity, IsLayerRefused, IsNextRefused, IsChainRefused, IsOpeningRefused, IsImageRefused, IsEndingWay, HasEnd}
use Rattle.imago_images.proofs.RefusalSteps.{where_held, weaker}

-- what holds of a refusal
pub refused_with :
    {T : Type 0} (r : Result T OpenError) (e : OpenError) (P : OpenError → Type 0) → r ≡ Err e → P e → IfErr r P
refused_with {T} r e P is h = subst (λ (x : Result T OpenError). IfErr x P) (sym is) h

pub identity_told :
    (statuses : Option (List ℕ → FileStatus)) (path : List ℕ) (status : FileStatus)
    → IfSome statuses (λ status_of. status ≡ status_of path) → HasIdentity statuses path (identity status)
identity_told None path status h = tt
identity_told (Some status_of) path status h = ap identity h

-- a way from the image's own file leads to its end
pub has_end :
    {D St : Type 0} (view : D → View St) (x : FormatAccess D) (known : Option (List ℕ → List ℕ)) (statuses : Option (List ℕ → FileStatus)) (reals : Option (List ℕ → List ℕ))
    (how : Opening) (path : List ℕ) (format : ImageFormat) (file : ℕ × ℕ) (now : List (ℕ × ℕ))
    → HasIdentity statuses path file → now ≡ file ∷ []
    → IfSome known (λ files. IsImageIn view how files path format x)
    → IfSome known (λ files. IsEndingWay files statuses reals how now path format 199)
    → IfSome known (λ files. HasEnd files statuses reals how path format)
has_end view x None statuses reals how path format file now has is image h = tt
has_end view x (Some files) statuses reals how path format file now has is image h = (
  first_limited how files path format image.0 image.1,
  (file, has, subst (λ (xs : List (ℕ × ℕ)). IsEndingWay files statuses reals how xs path format 199) is h),
)

module _ {S : Type 0} (features : S → Features) (bytes : S → List ℕ)
    (known : Option (List ℕ → List ℕ)) (statuses : Option (List ℕ → FileStatus))
    (reals : Option (List ℕ → List ℕ)) (others : OtherFiles) (path : List ℕ)
    (said : Option ImageFormat) (s : S) (shown : Option (List ℕ)) (e : OpenError)
    (told : (held : List ℕ) → shown ≡ Some held → HasBytes features bytes held s) where
  -- the format of the file below isn't told
  pub next_unknown :
      (how : Opening) (asked : Option (List ℕ → List ℕ)) (above : List (ℕ × ℕ)) (next from named : List ℕ)
      → asked ≡ known → from ≡ next → named ≡ next
      → IfSome asked (λ files. shown ≡ Some (files from))
      → ((held : List ℕ) → HasBytes features bytes held s → IsRefused named (IsUnknown said named held) e)
      → IfSome known (λ files. SaysFormat (files path) said
      → IsNextRefused files statuses reals others how above path next e)
  next_unknown how asked above next from named same is called held refused =
      where_held known (λ files. shown ≡ Some (files from))
      (λ files. SaysFormat (files path) said → IsNextRefused files statuses reals others how above path next e)
      (subst (λ (k : Option (List ℕ → List ℕ)). IfSome k (λ files. shown ≡ Some (files from))) same held)
      (λ files h says. inr (inr (inl (
        said,
        says,
        subst (λ (p : List ℕ). IsRefused p (IsUnknown said p (files next)) e) called
            (subst (λ (p : List ℕ). IsRefused named (IsUnknown said named (files p)) e) is
            (refused (files from) (told (files from) h))),
      ))))

  -- the file below is too large
  pub next_long :
      (how : Opening) (asked : Option (List ℕ → List ℕ)) (above : List (ℕ × ℕ)) (next from told_by named : List ℕ)
      (lower : ImageFormat)
      → asked ≡ known → from ≡ next → told_by ≡ next → named ≡ next
      → IfSome asked (λ files. shown ≡ Some (files from))
      → ((held : List ℕ) → HasBytes features bytes held s → IsFormatBy said told_by held lower)
      → ((held : List ℕ) → HasBytes features bytes held s
      → IsRefused named (IsTooLarge how.longest how.accepted lower held) e)
      → IfSome known (λ files. SaysFormat (files path) said
      → IsNextRefused files statuses reals others how above path next e)
  next_long how asked above next from told_by named lower same is spelled called held by refused =
      where_held known (λ files. shown ≡ Some (files from))
      (λ files. SaysFormat (files path) said → IsNextRefused files statuses reals others how above path next e)
      (subst (λ (k : Option (List ℕ → List ℕ)). IfSome k (λ files. shown ≡ Some (files from))) same held)
      (λ files h says. inr (inr (inr (
        lower,
        (
          said,
          says,
          subst (λ (p : List ℕ). IsFormatBy said p (files next) lower) spelled
              (subst (λ (p : List ℕ). IsFormatBy said told_by (files p) lower) is
              (by (files from) (told (files from) h))),
        ),
        subst (λ (p : List ℕ). IsRefused p (IsTooLarge how.longest how.accepted lower (files next)) e) called
            (subst (λ (p : List ℕ). IsRefused named (IsTooLarge how.longest how.accepted lower (files p)) e) is
            (refused (files from) (told (files from) h))),
      ))))

  -- what is told of its bytes
  pub next_within :
      (P : List ℕ → Type 0) (asked : Option (List ℕ → List ℕ)) (next from : List ℕ)
      → asked ≡ known → from ≡ next
      → IfSome asked (λ files. shown ≡ Some (files from))
      → ((held : List ℕ) → HasBytes features bytes held s → P held)
      → IfSome known (λ files. P (files next))
  next_within P asked next from same is held within =
      where_held known (λ files. shown ≡ Some (files from)) (λ files. P (files next))
      (subst (λ (k : Option (List ℕ → List ℕ)). IfSome k (λ files. shown ≡ Some (files from))) same held)
      (λ files h. subst (λ (p : List ℕ). P (files p)) is (within (files from) (told (files from) h)))

  -- the format of the image's own file isn't told
  pub image_unknown :
      (writable : Bool) (how : Opening) → IfSome known (λ files. shown ≡ Some (files path))
      → ((held : List ℕ) → HasBytes features bytes held s → IsRefused path (IsUnknown said path held) e)
      → IfSome known (λ files. IsImageRefused writable files statuses reals others how said path e)
  image_unknown writable how held refused =
      where_held known (λ files. shown ≡ Some (files path))
      (λ files. IsImageRefused writable files statuses reals others how said path e) held
      (λ files h. inr (inl (refused (files path) (told (files path) h))))

  -- the image's own file is of another format too
  pub image_another :
      (writable : Bool) (how : Opening) → IfSome known (λ files. shown ≡ Some (files path))
      → ((held : List ℕ) → HasBytes features bytes held s → IsRefused path (IsOfAnother others said held) e)
      → IfSome known (λ files. IsImageRefused writable files statuses reals others how said path e)
  image_another writable how held refused =
      where_held known (λ files. shown ≡ Some (files path))
      (λ files. IsImageRefused writable files statuses reals others how said path e) held
      (λ files h. inr (inr (inr (inl (refused (files path) (told (files path) h))))))

  -- it is too large
  pub image_long :
      (writable : Bool) (how : Opening) (format : ImageFormat) → IfSome known (λ files. shown ≡ Some (files path))
      → ((held : List ℕ) → HasBytes features bytes held s → IsFormatBy said path held format)
      → ((held : List ℕ) → HasBytes features bytes held s
      → IsRefused path (IsTooLarge how.longest how.accepted format held) e)
      → IfSome known (λ files. IsImageRefused writable files statuses reals others how said path e)
  image_long writable how format held by refused =
      where_held known (λ files. shown ≡ Some (files path))
      (λ files. IsImageRefused writable files statuses reals others how said path e) held
      (λ files h. inr (inr (inr (inr (
        format,
        by (files path) (told (files path) h),
        refused (files path) (told (files path) h),
      )))))

  -- what is told of its bytes
  pub image_within :
      (P : List ℕ → Type 0) → IfSome known (λ files. shown ≡ Some (files path))
      → ((held : List ℕ) → HasBytes features bytes held s → P held)
      → IfSome known (λ files. P (files path))
  image_within P held within =
      where_held known (λ files. shown ≡ Some (files path)) (λ files. P (files path)) held
      (λ files h. within (files path) (told (files path) h))

  -- its format is told
  pub image_format :
      (format : ImageFormat) → IfSome known (λ files. shown ≡ Some (files path))
      → ((held : List ℕ) → HasBytes features bytes held s → IsFormatBy said path held format)
      → IfSome known (λ files. IsFormatBy said path (files path) format)
  image_format format held by =
      where_held known (λ files. shown ≡ Some (files path))
      (λ files. IsFormatBy said path (files path) format) held
      (λ files h. by (files path) (told (files path) h))

  -- it is of one format
  pub image_one :
      IfSome known (λ files. shown ≡ Some (files path))
      → ((held : List ℕ) → HasBytes features bytes held s → IsOfOneFormat others said held)
      → IfSome known (λ files. IsOfOneFormat others said (files path))
  image_one held one =
      where_held known (λ files. shown ≡ Some (files path))
      (λ files. IsOfOneFormat others said (files path)) held
      (λ files h. one (files path) (told (files path) h))

-- the file of an image isn't opened, for writing or with those below it
pub image_out :
    (known : Option (List ℕ → List ℕ)) (statuses : Option (List ℕ → FileStatus))
    (reals : Option (List ℕ → List ℕ)) (others : OtherFiles) (path : List ℕ) (said : Option ImageFormat)
    (e : OpenError) (writable : Bool) (how : Opening) (format : ImageFormat) (file : ℕ × ℕ) (now : List (ℕ × ℕ))
    → IfSome known (λ files. IsFormatBy said path (files path) format)
    → HasIdentity statuses path file → now ≡ file ∷ []
    → IfSome known (λ files. IsOpeningRefused writable files statuses reals others how now path format e)
    → IfSome known (λ files. IsImageRefused writable files statuses reals others how said path e)
image_out None statuses reals others path said e writable how format file now by has is out = tt
image_out (Some files) statuses reals others path said e writable how format file now by has is out = inr (inr (inl (
  format,
  by,
  (
    file,
    has,
    subst (λ (xs : List (ℕ × ℕ)). IsOpeningRefused writable files statuses reals others how xs path format e) is out,
  ),
)))

-- the disk of an image that was opened is too long
pub image_over :
    {D St : Type 0} (view : D → View St) (x : FormatAccess D) (known : Option (List ℕ → List ℕ))
    (statuses : Option (List ℕ → FileStatus)) (reals : Option (List ℕ → List ℕ)) (others : OtherFiles)
    (path : List ℕ) (said : Option ImageFormat) (e : OpenError) (writable : Bool) (how : Opening)
    (format : ImageFormat) (size : ℕ) → size ≡ (view (driver x)).size
    → IfSome known (λ files. IsFormatBy said path (files path) format)
    → IfSome known (λ files. IsImageIn view how files path format x)
    → IsRefused path (IsOverLimit how.longest size) e
    → IfSome known (λ files. IsImageRefused writable files statuses reals others how said path e)
image_over view x None statuses reals others path said e writable how format size is by image out = tt
image_over view x (Some files) statuses reals others path said e writable how format size is by image out =
    inr (inr (inr (inr (
      format,
      by,
      weaker path (IsOverLimit how.longest size) (IsTooLarge how.longest how.accepted format (files path))
          (λ r o. inl (inl (subst (λ (n : ℕ). IsOverLimit how.longest n r) (is ∙ image.2.1) o))) e out,
    ))))

-- a layer isn't opened where memory is refused
layer_memory :
    (files : List ℕ → List ℕ) (statuses : Option (List ℕ → FileStatus)) (reals : Option (List ℕ → List ℕ))
    (others : OtherFiles) (how : Opening) (path : List ℕ) (format : ImageFormat)
    → IsLayerRefused files statuses reals others how path format OpenError.Memory
layer_memory files statuses reals others how path Format.Raw = tt
layer_memory files statuses reals others how path Format.Qcow2 = tt
layer_memory files statuses reals others how path Format.Vmdk = inl tt

-- nor is a chain that begins with it
pub chain_memory :
    (known : Option (List ℕ → List ℕ)) (statuses : Option (List ℕ → FileStatus))
    (reals : Option (List ℕ → List ℕ)) (others : OtherFiles) (how : Opening) (above : List (ℕ × ℕ)) (path : List ℕ)
    (format : ImageFormat) (e : OpenError) → e ≡ OpenError.Memory
    → IfSome known (λ files. (down : List (List ℕ))
    × IsChainRefused files statuses reals others how above path format down e)
chain_memory None statuses reals others how above path format e is = tt
chain_memory (Some files) statuses reals others how above path format e is = (
  [],
  subst (λ (x : OpenError). IsChainRefused files statuses reals others how above path format [] x) (sym is)
      (inl (layer_memory files statuses reals others how path format)),
)
