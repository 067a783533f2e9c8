-- Why a descriptor's image isn't opened, as its driver answers.
-- SPDX-License-Identifier: MIT
use Rattle.std.proofs.Common.{◌≡◌, ℕ, ◌⊎◌, Bool, true, false, List, [], ◌∷◌, Option, Some, None, Result, Ok, Err, IfSome, IfErr}
use Rattle.std.proofs.Common.{refl, sym, subst, length, inl, inr}
use Rattle.imago_storage.specs.declared.error.Error.{Error}
use Rattle.imago_storage.specs.Features.{Features, MayRunOut}
use Rattle.imago_storage.specs.Padding.{Wraps}
use Rattle.imago_drivers.specs.Opening.{Opening}
use Rattle.imago_drivers.specs.Builder.{OpenSettings, HandedIn, unset}
use Rattle.imago_vmdk.specs.declared.line.Accepted.{Accepted}
use Rattle.imago_vmdk.specs.declared.line.Extent.{Extent}
use Rattle.imago_vmdk.specs.declared.vmdk.Vmdk.{Vmdk}
use Rattle.imago_vmdk.specs.Opened.{Resolution, AreRefused}
use Rattle.imago_vmdk.specs.Reading.{reading_of, told_reading, is_length}
use Rattle.imago_vmdk.specs.VmdkBuilder.{IsVmdkOpening, IsVmdkImageOf, IsVmdkRefusal}
use Rattle.imago_file.specs.Names.{path_beside}
use Rattle.imago_images.specs.declared.failure.OpenError.{OpenError}
use Rattle.imago_images.specs.declared.failure.Reason.{Reason}
use Rattle.imago_images.specs.declared.files.FileStatus.{FileStatus}
use Rattle.imago_images.specs.declared.format.ImageFormat.TheVariants as Of
use Rattle.imago_images.specs.declared.gate.Named.TheVariants.{Extents}
use Rattle.imago_images.specs.declared.opening.Opening.{Opening as How}
use Rattle.imago_images.specs.declared.opening.OtherFiles.{OtherFiles}
use Rattle.imago_images.specs.HostBytes.{HasBytes}
use Rattle.imago_images.specs.Extents.{HasFlat}
use Rattle.imago_images.specs.Chains.{IsNamedRefused, IsLayerRefused}
use Rattle.imago_images.specs.Refusals.{IsRefused, IsBySystem, IsBySystemOr, IsByVmdk, IsUndescribed, HasExtentIn}
use Rattle.imago_images.specs.Gate.{folder_asked}
use Rattle.imago_images.proofs.RefusalSteps.{ext_reasons, by_cause, weaker}

-- where extents are refused, one of them is a FLAT one
flat_refused :
    {Gate S : Type 0} (opened : Opening Gate S) (resolved : Resolution (List ℕ)) (direct : Bool) (f : Features)
    (path : List ℕ) (extents : List (Extent (List ℕ))) (before after : Gate) (e : Error)
    → AreRefused opened resolved direct f extents before after e → (other : List ℕ) × HasFlat extents path other
flat_refused opened resolved direct f path [] before after e none = absurd none
flat_refused opened resolved direct f path (Extent.Zero sectors ∷ extents) before after e (inl none) = absurd none
flat_refused opened resolved direct f path (Extent.Zero sectors ∷ extents) before after e (inr (between, own, first, rest)) =
    let more = flat_refused opened resolved direct f path extents between after e rest in (more.0, inr more.1)
flat_refused opened resolved direct f path (Extent.NoAccess sectors ∷ extents) before after e (inl none) = absurd none
flat_refused opened resolved direct f path (Extent.NoAccess sectors ∷ extents) before after e (inr (between, own, first, rest)) =
    let more = flat_refused opened resolved direct f path extents between after e rest in (more.0, inr more.1)
flat_refused opened resolved direct f path (Extent.Flat sectors name offset writable vmfs ∷ extents) before after e refused =
    (path_beside path name, inl refl)

module _ {S Gate : Type 0} (bytes : S → List ℕ) (features : S → Features)
    (resolved : S → Resolution (List ℕ)) (opened : Opening Gate S) (held path : List ℕ) (s : S) (accepted : Accepted) where
  refusal_is :
      (direct : Bool) (before after : Gate) (e : Error) → HasBytes features bytes held s
      → IsVmdkRefusal bytes features resolved opened direct accepted before after s e → IsByVmdk accepted held path e
  refusal_is direct before after e told (inl (same, read)) =
      inr (inl (subst (λ (xs : List ℕ). reading_of accepted xs ≡ Err e) told.1
      (told_reading accepted (features s).tells_bytes (bytes s) (Err e) read told.0)))
  refusal_is direct before after e told (inr (inl (same, reasons))) =
      inl (ext_reasons
      (λ x. (x ≡ Error.WrapAround) × (is_length (length (bytes s)) ≡ true) × Wraps (features s) 0 (length (bytes s)))
      (λ x h. h.0)
      ((features s).is_reliable ≡ false)
      ((is_length (length (bytes s)) ≡ true) ⊎ MayRunOut (features s).other_memory 0 0) e reasons)
  refusal_is direct before after e told (inr (inr (extents, size, read, refused))) =
      let flat = flat_refused opened (resolved s) direct (features s) path extents before after e refused in
      inr (inr (
        flat.0,
        (
          extents,
          size,
          subst (λ (xs : List ℕ). reading_of accepted xs ≡ Ok (extents, size)) told.1
              (told_reading accepted (features s).tells_bytes (bytes s) (Ok (extents, size)) read told.0),
          flat.1,
        ),
      ))

  -- why the image of a descriptor that was handed in isn't opened
  pub vmdk_fault :
      {g : _} {h : _} (gate : Gate) (settings : OpenSettings S) (set : Accepted) (r : Result (Vmdk S g h) Error) (e : Error)
      → r ≡ Err e → settings ≡ unset (HandedIn s) → set ≡ accepted
      → IsVmdkOpening bytes features resolved opened gate settings set r
      → HasBytes features bytes held s → IsByVmdk accepted held path e
  vmdk_fault {g} {h} gate settings set r e is own same opening told =
      let here : IsVmdkOpening bytes features resolved opened gate (unset (HandedIn s)) accepted r =
      subst (λ (a : Accepted). IsVmdkOpening bytes features resolved opened gate (unset (HandedIn s)) a r) same
      (subst (λ (o : OpenSettings S). IsVmdkOpening bytes features resolved opened gate o set r) own opening) in
      let found = here.1.1 refl in
      let image : IsVmdkImageOf bytes features resolved opened false accepted found.0 here.0 (Ok s) r =
      subst (λ (o : Result S Error). IsVmdkImageOf bytes features resolved opened false accepted found.0 here.0 o r) found.2.0 found.3 in
      let refused : IsVmdkRefusal bytes features resolved opened false accepted found.0 here.0 s e =
      subst (λ (q : Result (Vmdk S g h) Error). IsVmdkImageOf bytes features resolved opened false accepted found.0 here.0 (Ok s) q) is image in
      refusal_is false found.0 here.0 e told refused

module _ (known : Option (List ℕ → List ℕ)) (statuses : Option (List ℕ → FileStatus))
    (reals : Option (List ℕ → List ℕ)) (others : OtherFiles) (how : How) (path : List ℕ) (e : OpenError) where
  -- what is shown of a descriptor whose image isn't opened
  abbrev pub IsVmdkOut : (List ℕ → List ℕ) → Type 0
  IsVmdkOut files = IsLayerRefused files statuses reals others how path Of.Vmdk e

  -- the path of the folder isn't told
  pub folder_out : IsRefused (folder_asked path) IsBySystem e → IfSome known IsVmdkOut
  folder_out h = told known
    where
      told : (k : Option (List ℕ → List ℕ)) → IfSome k IsVmdkOut
      told None = tt
      told (Some files) = inr (inl h)

  -- the file of an extent isn't handed out
  abbrev pub IsExtentOut : (List ℕ → List ℕ) → Type 0
  IsExtentOut files = (other : List ℕ) × HasExtentIn how.accepted (files path) path other
      × IsNamedRefused Extents statuses reals others path other e

  pub extent_found :
      (other named : List ℕ) → named ≡ other
      → IfSome known (λ files. HasExtentIn how.accepted (files path) path named)
      → IsNamedRefused Extents statuses reals others path other e → IfSome known IsExtentOut
  extent_found other named is has h = told known has
    where
      told : (k : Option (List ℕ → List ℕ))
          → IfSome k (λ files. HasExtentIn how.accepted (files path) path named) → IfSome k IsExtentOut
      told None x = tt
      told (Some files) x =
          (other, subst (λ (p : List ℕ). HasExtentIn how.accepted (files path) path p) is x, h)

  pub extent_out :
      (cause : Error) → IfSome known IsExtentOut
      → IfSome known (λ files. IsByVmdk how.accepted (files path) path cause → IsVmdkOut files)
  extent_out cause h = told known h
    where
      told : (k : Option (List ℕ → List ℕ)) → IfSome k IsExtentOut
          → IfSome k (λ files. IsByVmdk how.accepted (files path) path cause → IsVmdkOut files)
      told None x = tt
      told (Some files) x = λ by. inr (inr x)

  -- the answer is the driver's, or the host's
  pub driver_out :
      (cause : Error) (reason : Reason) → IsBySystemOr cause reason
      → IsRefused path (λ told. told ≡ reason) e
      → IfSome known (λ files. IsByVmdk how.accepted (files path) path cause → IsVmdkOut files)
  driver_out cause reason by h = told known
    where
      told : (k : Option (List ℕ → List ℕ))
          → IfSome k (λ files. IsByVmdk how.accepted (files path) path cause → IsVmdkOut files)
      told None = tt
      told (Some files) = λ why. inl (by_cause path (IsUndescribed how.accepted (files path) path) cause (λ answer. tt) why e
          (weaker path (λ told. told ≡ reason) (IsBySystemOr cause)
          (λ r is. subst (λ (x : Reason). IsBySystemOr cause x) (sym is) by) e h))

  -- why the driver refuses it is told by what the host tells
  pub described_out :
      (cause : Error) → IfSome known (λ files. IsByVmdk how.accepted (files path) path cause)
      → IfSome known (λ files. IsByVmdk how.accepted (files path) path cause → IsVmdkOut files)
      → IfSome known IsVmdkOut
  described_out cause by h = told known by h
    where
      told : (k : Option (List ℕ → List ℕ)) → IfSome k (λ files. IsByVmdk how.accepted (files path) path cause)
          → IfSome k (λ files. IsByVmdk how.accepted (files path) path cause → IsVmdkOut files)
          → IfSome k IsVmdkOut
      told None x y = tt
      told (Some files) x y = y x

-- the same of a result, as a layer of a format that is VMDK
pub vmdk_layer_out :
    {T : Type 0} (known : Option (List ℕ → List ℕ)) (statuses : Option (List ℕ → FileStatus))
    (reals : Option (List ℕ → List ℕ)) (others : OtherFiles) (how : How) (path : List ℕ) (r : Result T OpenError)
    (format : _) → format ≡ Of.Vmdk
    → IfErr r (λ e. IfSome known (λ files. IsLayerRefused files statuses reals others how path Of.Vmdk e))
    → IfErr r (λ e. IfSome known (λ files. IsLayerRefused files statuses reals others how path format e))
vmdk_layer_out known statuses reals others how path r format is h =
    subst (λ f. IfErr r (λ e. IfSome known (λ files. IsLayerRefused files statuses reals others how path f e))) (sym is) h

-- an extent that a descriptor has as it was read
pub extent_read :
    {V : Type 0} (view : V → List (Extent (List ℕ)) × ℕ) (known : Option (List ℕ → List ℕ)) (accepted : Accepted)
    (path other text : List ℕ) (v : V) → HasFlat (view v).0 path other
    → IfSome known (λ files. text ≡ files path)
    → reading_of accepted text ≡ Ok (view v)
    → IfSome known (λ files. HasExtentIn accepted (files path) path other)
extent_read view None accepted path other text v has is reads = tt
extent_read view (Some files) accepted path other text v has is reads = (
  (view v).0,
  (view v).1,
  subst (λ (xs : List ℕ). reading_of accepted xs ≡ Ok ((view v).0, (view v).1)) is reads,
  has,
)
