-- A VMDK image that was opened over the files of a host is the layer of its descriptor's file.
-- SPDX-License-Identifier: MIT
use Rattle.std.proofs.Common.{◌≡◌, ℕ, List, [], ◌∷◌, Option, None, Ok, IfSome, IsTrue, sym, ◌∙◌, subst, map}
use Rattle.std.specs.Prelude.{slice_index_or}
use Rattle.std.specs.List.{sum_by}
use Rattle.std.specs.Borrow.{MutBor}
use Rattle.imago_storage.specs.Features.{Features}
use Rattle.imago_drivers.specs.Builder.{OpenSettings, HandedIn, unset}
use Rattle.imago_vmdk.specs.declared.line.Accepted.{Accepted}
use Rattle.imago_vmdk.specs.declared.vmdk.Vmdk.{Vmdk}
use Rattle.imago_vmdk.specs.Reading.{reading_of, size_of}
use Rattle.imago_vmdk.specs.Image.{descriptor_in, extents_in, accepted_in}
use Rattle.imago_vmdk.specs.Disk.{described_place}
use Rattle.imago_vmdk.specs.VmdkBuilder.{IsVmdkOpening}
use Rattle.imago_any_driver.specs.AnyDriver.{view_over, vmdk_in}
use Rattle.imago_any_driver.specs.declared.any.AnyDriver.TheVariants as Any
use Rattle.imago_file.specs.Names.{path_beside}
use Rattle.imago_images.specs.declared.format.ImageFormat.TheVariants as Of
use Rattle.imago_images.specs.declared.gate.FolderGate.{FolderGate}
use Rattle.imago_images.specs.HostBytes.{HasBytes}
use Rattle.imago_images.specs.Images.{IsLayerOf}
use Rattle.imago_images.specs.declared.opening.OtherFiles.{OtherFiles}
use Rattle.imago_images.proofs.PartSteps.{told_one, where_told, IsGateOf, IsLookedBy, looked}
use Rattle.imago_images.proofs.ExtentSteps.{image_told, vmdk_is}

module _ {H File S : Type 0} {g : _} {h : _} {i : _} {j : _} (contents : H → Option (List ℕ → List ℕ))
    (features : S → Features) (faults : S → ℕ) (bytes : S → List ℕ)
    (resolved : S → List ℕ → List ℕ → Type 0) (host : H)
    (path : List ℕ) (accepted : Accepted) (others : OtherFiles) (file : S) where
  pub vmdk_opened :
      (gate : MutBor (FolderGate H File g h)) (settings : OpenSettings S)
      (set : Accepted) (v : Vmdk S i j)
      → IfSome (contents host) (λ files. HasBytes features bytes (files path) file)
      → ((relative name : List ℕ) → resolved file relative name → name ≡ path_beside path relative)
      → settings ≡ unset (HandedIn file) → set ≡ accepted
      → IsVmdkOpening bytes features resolved (IsLookedBy contents features bytes) gate settings set (Ok v)
      → IsGateOf host path others gate
      → (IsTrue (features (descriptor_in v)).tells_bytes
      → reading_of (accepted_in v) (bytes (descriptor_in v)) ≡ Ok (extents_in v, v.size))
      → v.size ≡ sum_by size_of v.extents.items
      → (IsTrue (features (descriptor_in v)).tells_bytes → (p : ℕ)
      → (vmdk_in features bytes v).place p
      ≡ described_place (accepted_in v)
      (λ n. slice_index_or (bytes v.descriptor ∷ map bytes v.storages.items) n []) p)
      → IfSome (contents host) (λ files. IsLayerOf (view_over features faults bytes)
      accepted others files path Of.Vmdk (Any.Vmdk v) None)
  vmdk_opened gate settings set v told beside is same opening good read sized places =
      where_told (contents host) (λ files. IsLayerOf (view_over features faults bytes)
      accepted others files path Of.Vmdk (Any.Vmdk v) None)
      (λ files known.
      let own : HasBytes features bytes (files path) file =
      told_one (contents host) files (λ fs. HasBytes features bytes (fs path) file) known told in
      let image = image_told bytes features (IsLookedBy contents features bytes) files others path
      (IsGateOf host path others) (looked contents features bytes host path others files known)
      resolved settings file set gate v beside is good opening in
      let first : HasBytes features bytes (files path) (descriptor_in v) =
      subst (λ (s : S). HasBytes features bytes (files path) s) (sym image.0) own in
      vmdk_is features faults bytes accepted others files path v
      (image.2 ∙ same) first.0 first.1 image.3.0 image.3.1 image.3.2 (read first.0) sized (places first.0))
