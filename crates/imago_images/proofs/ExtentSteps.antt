-- The files of a VMDK image's extents, as a gate handed them out.
-- SPDX-License-Identifier: MIT
use Rattle.std.proofs.Common.{◌≡◌, ℕ, ◌&&◌, ◌++◌, Bool, true, false, List, [], ◌∷◌, None, Result, Ok}
use Rattle.std.proofs.Common.{IsTrue, refl, sym, ap, ◌∙◌, subst, map}
use Rattle.std.specs.Prelude.{slice_index_or}
use Rattle.std.specs.List.{sum_by}
use Rattle.imago_storage.specs.declared.error.Error.{Error}
use Rattle.imago_storage.specs.Features.{Features}
use Rattle.imago_drivers.specs.Opening.{Opening}
use Rattle.imago_drivers.specs.Builder.{OpenSettings, HandedIn, unset}
use Rattle.imago_vmdk.specs.declared.line.Accepted.{Accepted}
use Rattle.imago_vmdk.specs.declared.line.Extent.{Extent}
use Rattle.imago_vmdk.specs.declared.vmdk.Vmdk.{Vmdk}
use Rattle.imago_vmdk.specs.Reading.{reading_of, size_of}
use Rattle.imago_vmdk.specs.Image.{descriptor_in, extents_in, is_opened, storages_of_extents, accepted_in}
use Rattle.imago_vmdk.specs.Opened.{AreOpened, extent_options}
use Rattle.imago_vmdk.specs.Vmdk.{all_tell}
use Rattle.imago_vmdk.specs.Disk.{described_place}
use Rattle.imago_vmdk.specs.VmdkBuilder.{IsVmdkOpening, IsVmdkImageOf}
use Rattle.imago_any_driver.specs.AnyDriver.{view_over, vmdk_in}
use Rattle.imago_any_driver.specs.declared.any.AnyDriver.TheVariants as Any
use Rattle.imago_file.specs.Names.{path_beside}
use Rattle.imago_images.specs.declared.format.ImageFormat.TheVariants as Of
use Rattle.imago_images.specs.Extents.{size_read}
use Rattle.imago_images.specs.Gate.{IsLetThrough, AreLetThrough}
use Rattle.imago_images.specs.Images.{extent_paths, bytes_in, IsLayerOf}
use Rattle.imago_images.specs.declared.opening.OtherFiles.{OtherFiles}

both : (a b : Bool) → a ≡ true → b ≡ true → (a && b) ≡ true
both a b h k = ap (λ (z : Bool). z && b) h ∙ k

module _ {S Gate : Type 0} (bytes : S → List ℕ) (features : S → Features) (opened : Opening Gate S)
    (files : List ℕ → List ℕ) (others : OtherFiles) (path : List ℕ) (IsGood : Gate → Type 0)
    (step : (direct : Bool) (name : List ℕ) (before after : Gate) (s : S) → IsGood before
    → opened (extent_options direct name) before after (Ok s)
    → IsGood after × IsTrue (features s).tells_bytes × (bytes s ≡ files name) × IsLetThrough others path name) where
  -- the storages of extents are the files of the paths that their names stand for
  abbrev pub AreFiles : List (Extent (List ℕ)) → List S → Type 0
  AreFiles extents storages =
      (all_tell (map features storages) ≡ true)
      × (map bytes storages ≡ map files (extent_paths path extents))
      × AreLetThrough others path (extent_paths path extents)

  pub storages_told :
      (resolved : List ℕ → List ℕ → Type 0)
      → ((relative name : List ℕ) → resolved relative name → name ≡ path_beside path relative)
      → (direct : Bool) (extents : List (Extent (List ℕ))) (before after : Gate) (storages : List S)
      → IsGood before → AreOpened opened resolved direct extents before after storages
      → AreFiles extents storages
  storages_told resolved beside direct [] before after storages good none =
      (ap (λ (ss : List S). all_tell (map features ss)) none.0, ap (map bytes) none.0, tt)
  storages_told resolved beside direct (Extent.Zero sectors ∷ extents) before after storages good
      (between, own, left, first, rest, all) =
      let more = storages_told resolved beside direct extents between after left
      (subst IsGood (sym first.1) good) rest in
      let is : storages ≡ left = all ∙ ap (λ (o : List S). o ++ left) first.0 in (
        ap (λ (ss : List S). all_tell (map features ss)) is ∙ more.0,
        ap (map bytes) is ∙ more.1,
        more.2,
      )
  storages_told resolved beside direct (Extent.NoAccess sectors ∷ extents) before after storages good
      (between, own, left, first, rest, all) =
      let more = storages_told resolved beside direct extents between after left
      (subst IsGood (sym first.1) good) rest in
      let is : storages ≡ left = all ∙ ap (λ (o : List S). o ++ left) first.0 in (
        ap (λ (ss : List S). all_tell (map features ss)) is ∙ more.0,
        ap (map bytes) is ∙ more.1,
        more.2,
      )
  storages_told resolved beside direct (Extent.Flat sectors name offset writable vmfs ∷ extents) before after storages good
      (between, own, left, first, rest, all) =
      let opening = first.1 in
      let at : List ℕ = opening.0 in
      let s : S = opening.1 in
      let named : at ≡ path_beside path name = beside name at opening.2 in
      let stepped = step direct at before between s good opening.3 in
      let more = storages_told resolved beside direct extents between after left stepped.0 rest in
      let is : storages ≡ s ∷ left = all ∙ ap (λ (o : List S). o ++ left) opening.4 in (
        ap (λ (ss : List S). all_tell (map features ss)) is ∙ both _ _ stepped.1 more.0,
        ap (map bytes) is ∙ ap (λ (x : List ℕ). x ∷ map bytes left) (stepped.2 ∙ ap files named)
            ∙ ap (λ (xs : List (List ℕ)). files (path_beside path name) ∷ xs) more.1,
        (subst (λ (n : List ℕ). IsLetThrough others path n) named stepped.3, more.2),
      )

  -- the same of an image whose descriptor was handed in
  pub image_told :
      {g : _} {h : _} (resolved : S → List ℕ → List ℕ → Type 0) (settings : OpenSettings S) (s : S)
      (accepted : Accepted) (gate : Gate) (v : Vmdk S g h)
      → ((relative name : List ℕ) → resolved s relative name → name ≡ path_beside path relative)
      → settings ≡ unset (HandedIn s) → IsGood gate
      → IsVmdkOpening bytes features resolved opened gate settings accepted (Ok v)
      → (descriptor_in v ≡ s) × (is_opened v ≡ true) × (accepted_in v ≡ accepted)
      × AreFiles (extents_in v) (storages_of_extents v)
  image_told resolved settings s accepted gate v beside is good opening =
      let here : IsVmdkOpening bytes features resolved opened gate (unset (HandedIn s)) accepted (Ok v) =
      subst (λ (o : OpenSettings S). IsVmdkOpening bytes features resolved opened gate o accepted (Ok v)) is opening in
      let found = here.1.1 refl in
      let image : IsVmdkImageOf bytes features resolved opened false accepted found.0 here.0 (Ok s) (Ok v) =
      subst (λ (o : Result S Error). IsVmdkImageOf bytes features resolved opened false accepted found.0 here.0 o (Ok v)) found.2.0 found.3 in (
        image.0,
        image.1,
        image.2,
        storages_told (resolved s) beside false (extents_in v) found.0 here.0 (storages_of_extents v)
            (subst IsGood (sym found.2.1) good) image.4,
      )

-- a driver over these storages is the layer of the descriptor's file
pub vmdk_is :
    {S : Type 0} {g : _} {h : _} (features : S → Features) (faults : S → ℕ) (bytes : S → List ℕ)
    (accepted : Accepted) (others : OtherFiles) (files : List ℕ → List ℕ) (path : List ℕ) (v : Vmdk S g h)
    → accepted_in v ≡ accepted
    → (features (descriptor_in v)).tells_bytes ≡ true → bytes (descriptor_in v) ≡ files path
    → all_tell (map features (storages_of_extents v)) ≡ true
    → map bytes (storages_of_extents v) ≡ map files (extent_paths path (extents_in v))
    → AreLetThrough others path (extent_paths path (extents_in v))
    → reading_of (accepted_in v) (bytes (descriptor_in v)) ≡ Ok (extents_in v, v.size)
    → v.size ≡ sum_by size_of v.extents.items
    → ((p : ℕ) → (vmdk_in features bytes v).place p
    ≡ described_place (accepted_in v) (λ i. slice_index_or (bytes v.descriptor ∷ map bytes v.storages.items) i []) p)
    → IsLayerOf (view_over features faults bytes) accepted others files path Of.Vmdk (Any.Vmdk v) None
vmdk_is {S} {g} {h} features faults bytes accepted others files path v same tells own all named through read sized places =
    let reading : reading_of accepted (files path) ≡ Ok (extents_in v, v.size) =
    subst (λ (xs : List ℕ). reading_of accepted xs ≡ Ok (extents_in v, v.size)) own
    (subst (λ (a : Accepted). reading_of a (bytes (descriptor_in v)) ≡ Ok (extents_in v, v.size)) same read) in
    let held : List (List ℕ) = bytes v.descriptor ∷ map bytes v.storages.items in
    let lists : held ≡ map files (path ∷ extent_paths path (extents_in v)) =
    ap (λ (x : List ℕ). x ∷ map bytes v.storages.items) own
    ∙ ap (λ (xs : List (List ℕ)). files path ∷ xs) named in (
      described_place accepted (bytes_in files (path ∷ extent_paths path (extents_in v))),
      (extents_in v, v.size, reading, through, refl, refl),
      (
        sym sized ∙ sym (ap size_read reading),
        both _ _ tells all,
        λ p. places p
            ∙ ap (λ (a : Accepted). described_place a (λ i. slice_index_or held i []) p) same
            ∙ ap (λ (xs : List (List ℕ)). described_place accepted (λ i. slice_index_or xs i []) p) lists,
      ),
    )
