-- The storages of an image have the paths of its files as their names.
-- SPDX-License-Identifier: MIT
use Rattle.std.proofs.Common.{◌≡◌, ℕ, ◌+◌, ◌<◌, ◌++◌, Bool, true, false, List, [], ◌∷◌, Option, Some, None, Result, Ok, Err, IfOk, IfSome, IsTrue, refl, sym, ap, ◌∙◌, subst, map, length, arith, Box, Global}
use Rattle.std.proofs.lemmas.List.{get_or-map, length-map}
use Rattle.std.specs.Prelude.{slice_index_or}
use Rattle.std.specs.Borrow.{MutBor}
use Rattle.std.specs.String.{string_bytes}
use Rattle.imago_storage.specs.declared.error.Error.{Error}
use Rattle.imago_storage.specs.Features.{Features}
use Rattle.imago_storage.specs.Mem.{null_features}
use Rattle.imago_drivers.specs.Opening.{Opening}
use Rattle.imago_drivers.specs.Builder.{OpenSettings, HandedIn, unset}
use Rattle.imago_drivers.specs.View.{Stores, View}
use Rattle.imago_access.specs.declared.access.FormatAccess.{FormatAccess, FormatAccess', out-FormatAccess, is-FormatAccess', back-FormatAccess-backing}
use Rattle.imago_access.specs.Chain.{driver, backing, unboxed}
use Rattle.imago_vmdk.specs.declared.line.Accepted.{Accepted}
use Rattle.imago_vmdk.specs.declared.line.Extent.{Extent}
use Rattle.imago_vmdk.specs.declared.vmdk.Vmdk.{Vmdk}
use Rattle.imago_vmdk.specs.Line.{extent_with}
use Rattle.imago_vmdk.specs.Reading.{reading_of}
use Rattle.imago_vmdk.specs.Image.{descriptor_in, extents_in, is_opened, storages_of_extents, accepted_in}
use Rattle.imago_vmdk.specs.Opened.{AreOpened, extent_options}
use Rattle.imago_vmdk.specs.Vmdk.{storages_in, vmdk_count}
use Rattle.imago_vmdk.specs.VmdkBuilder.{IsVmdkOpening, IsVmdkImageOf}
use Rattle.imago_any_driver.specs.AnyDriver.{vmdk_in}
use Rattle.imago_file.specs.Names.{path_beside}
use Rattle.imago_images.specs.declared.format.ImageFormat.{ImageFormat}
use Rattle.imago_images.specs.declared.format.ImageFormat.TheVariants.{Raw, Vmdk as OfVmdk, Qcow2}
use Rattle.imago_images.specs.declared.gate.FolderGate.{FolderGate}
use Rattle.imago_images.specs.declared.opening.OtherFiles.{OtherFiles}
use Rattle.imago_images.specs.Extents.{flat_names}
use Rattle.imago_images.specs.Formats.{SaysFormat, IsFormatBy}
use Rattle.imago_images.specs.HostBytes.{HasBytes}
use Rattle.imago_images.specs.Images.{IsLayer, IsLayerOf, extent_paths}
use Rattle.imago_images.specs.ImageFiles.{AreImageFiles, AreNamed, HasFiles, HasStorages, NamesNext, extents_read, layer_paths}
use Rattle.imago_images.proofs.PartSteps.{IsLookedBy, where_told, told_one}

one_name : (a b : List ℕ) → Some a ≡ Some b → a ≡ b
one_name a b h = cc h

-- what a list of features has as names, each by its place
named_at :
    (fs : List Features) (paths : List (List ℕ)) (none : Features)
    → map (λ (f : Features). f.filename) fs ≡ map Some paths
    → (i : ℕ) → i < length paths
    → (slice_index_or fs i none).filename ≡ Some (slice_index_or paths i [])
named_at fs paths none same i less =
    let long : length fs ≡ length paths =
    sym (length-map fs (λ (f : Features). f.filename))
    ∙ ap (λ (os : List (Option (List ℕ))). length os) same ∙ length-map paths Some in
    sym (get_or-map (λ (f : Features). f.filename) fs i none None (subst (λ (n : ℕ). i < n) (sym long) less))
    ∙ ap (λ (os : List (Option (List ℕ))). slice_index_or os i None) same
    ∙ get_or-map Some paths i [] None less

-- the only path of one
pub only : (path : List ℕ) (i : ℕ) → i < 1 → path ≡ slice_index_or (path ∷ []) i []
only path i less =
    let first : i ≡ 0 = omega arith in
    sym (ap (λ (n : ℕ). slice_index_or (path ∷ []) n []) first)

one_more : (n : ℕ) (path : List ℕ) (paths : List (List ℕ)) → n ≡ length paths → 1 + n ≡ length (path ∷ paths)
one_more n path paths h = grind (arith, h)

-- as many storages as FLAT extents
counted :
    {A : Type 0} (text : A → List ℕ) (extents : List (Extent A))
    → storages_in extents ≡ length (flat_names (map (extent_with text) extents))
counted text [] = refl
counted text (Extent.Zero sectors ∷ extents) = grind (arith, counted text extents)
counted text (Extent.NoAccess sectors ∷ extents) = grind (arith, counted text extents)
counted text (Extent.Flat sectors name offset writable vmfs ∷ extents) =
    grind (arith, counted text extents)

module _ {S Gate : Type 0} (bytes : S → List ℕ) (features : S → Features) (opened : Opening Gate S)
    (path : List ℕ)
    (step : (direct : Bool) (name : List ℕ) (before after : Gate) (s : S)
    → opened (extent_options direct name) before after (Ok s) → (features s).filename ≡ Some name) where
  -- the storages of extents have the paths as names that the extents' names stand for
  names_told :
      (resolved : List ℕ → List ℕ → Type 0)
      → ((relative name : List ℕ) → resolved relative name → name ≡ path_beside path relative)
      → (direct : Bool) (extents : List (Extent (List ℕ))) (before after : Gate) (storages : List S)
      → AreOpened opened resolved direct extents before after storages
      → map (λ (f : Features). f.filename) (map features storages) ≡ map Some (extent_paths path extents)
  names_told resolved beside direct [] before after storages none =
      ap (λ (ss : List S). map (λ (f : Features). f.filename) (map features ss)) none.0
  names_told resolved beside direct (Extent.Zero sectors ∷ extents) before after storages
      (between, own, left, first, rest, all) =
      let more = names_told resolved beside direct extents between after left rest in
      let is : storages ≡ left = all ∙ ap (λ (o : List S). o ++ left) first.0 in
      ap (λ (ss : List S). map (λ (f : Features). f.filename) (map features ss)) is ∙ more
  names_told resolved beside direct (Extent.NoAccess sectors ∷ extents) before after storages
      (between, own, left, first, rest, all) =
      let more = names_told resolved beside direct extents between after left rest in
      let is : storages ≡ left = all ∙ ap (λ (o : List S). o ++ left) first.0 in
      ap (λ (ss : List S). map (λ (f : Features). f.filename) (map features ss)) is ∙ more
  names_told resolved beside direct (Extent.Flat sectors name offset writable vmfs ∷ extents) before after storages
      (between, own, left, first, rest, all) =
      let opening = first.1 in
      let at : List ℕ = opening.0 in
      let s : S = opening.1 in
      let is_at : at ≡ path_beside path name = beside name at opening.2 in
      let has : (features s).filename ≡ Some (path_beside path name) =
      step direct at before between s opening.3 ∙ ap Some is_at in
      let more = names_told resolved beside direct extents between after left rest in
      let is : storages ≡ s ∷ left = all ∙ ap (λ (o : List S). o ++ left) opening.4 in
      ap (λ (ss : List S). map (λ (f : Features). f.filename) (map features ss)) is
      ∙ ap (λ (o : Option (List ℕ)). o ∷ map (λ (f : Features). f.filename) (map features left)) has
      ∙ ap (λ (os : List (Option (List ℕ))). Some (path_beside path name) ∷ os) more

  -- the same of an image whose descriptor was handed in
  pub image_named :
      {g : _} {h : _} (resolved : S → List ℕ → List ℕ → Type 0) (settings : OpenSettings S) (s : S)
      (accepted : Accepted) (gate : Gate) (v : Vmdk S g h)
      → ((relative name : List ℕ) → resolved s relative name → name ≡ path_beside path relative)
      → settings ≡ unset (HandedIn s)
      → IsVmdkOpening bytes features resolved opened gate settings accepted (Ok v)
      → (descriptor_in v ≡ s) × (is_opened v ≡ true) × (accepted_in v ≡ accepted)
      × (map (λ (f : Features). f.filename) (map features (storages_of_extents v))
      ≡ map Some (extent_paths path (extents_in v)))
  image_named resolved settings s accepted gate v beside is opening =
      let here : IsVmdkOpening bytes features resolved opened gate (unset (HandedIn s)) accepted (Ok v) =
      subst (λ (o : OpenSettings S). IsVmdkOpening bytes features resolved opened gate o accepted (Ok v)) is opening in
      let found = here.1.1 refl in
      let image : IsVmdkImageOf bytes features resolved opened false accepted found.0 here.0 (Ok s) (Ok v) =
      subst (λ (o : Result S Error). IsVmdkImageOf bytes features resolved opened false accepted found.0 here.0 o (Ok v)) found.2.0 found.3 in (
        image.0,
        image.1,
        image.2,
        names_told (resolved s) beside false (extents_in v) found.0 here.0 (storages_of_extents v) image.4,
      )

module _ {H File S : Type 0} {g : _} {h : _} (contents : H → Option (List ℕ → List ℕ)) (features : S → Features)
    (bytes : S → List ℕ) where
  -- a storage that a gate hands out has the name that was asked for
  looked_named :
      (direct : Bool) (name : List ℕ) (before after : MutBor (FolderGate H File g h)) (s : S)
      → IsLookedBy contents features bytes (extent_options direct name) before after (Ok s)
      → (features s).filename ≡ Some name
  looked_named direct name before after s (same, image, allowed, at) =
      at.4 ∙ ap Some (sym (one_name name at.0 at.1))

  -- the storages of a VMDK image over the files of a host
  pub vmdk_named :
      {i : _} {j : _} (resolved : S → List ℕ → List ℕ → Type 0) (host : H) (path : List ℕ)
      (accepted : Accepted) (file : S) (gate : MutBor (FolderGate H File g h)) (settings : OpenSettings S)
      (set : Accepted) (v : Vmdk S i j)
      → IfSome (contents host) (λ files. HasBytes features bytes (files path) file)
      → (features file).filename ≡ Some path
      → ((relative name : List ℕ) → resolved file relative name → name ≡ path_beside path relative)
      → settings ≡ unset (HandedIn file) → set ≡ accepted
      → IsVmdkOpening bytes features resolved (IsLookedBy contents features bytes) gate settings set (Ok v)
      → (IsTrue (features (descriptor_in v)).tells_bytes
      → reading_of (accepted_in v) (bytes (descriptor_in v)) ≡ Ok (extents_in v, v.size))
      → IfSome (contents host)
      (λ files. AreNamed (vmdk_in features bytes v).stores (layer_paths accepted OfVmdk path (files path)))
  vmdk_named resolved host path accepted file gate settings set v told name beside is same opening read =
      where_told (contents host)
      (λ files. AreNamed (vmdk_in features bytes v).stores (layer_paths accepted OfVmdk path (files path)))
      (λ files known.
      let own : HasBytes features bytes (files path) file =
      told_one (contents host) files (λ fs. HasBytes features bytes (fs path) file) known told in
      let image = image_named bytes features (IsLookedBy contents features bytes) path
      looked_named resolved settings file set gate v beside is opening in
      let first : HasBytes features bytes (files path) (descriptor_in v) =
      subst (λ (s : S). HasBytes features bytes (files path) s) (sym image.0) own in
      let reading : reading_of accepted (files path) ≡ Ok (extents_in v, v.size) =
      subst (λ (xs : List ℕ). reading_of accepted xs ≡ Ok (extents_in v, v.size)) first.1
      (subst (λ (a : Accepted). reading_of a (bytes (descriptor_in v)) ≡ Ok (extents_in v, v.size))
      (image.2 ∙ same) (read first.0)) in
      let paths : List (List ℕ) = path ∷ extent_paths path (extents_in v) in
      let are : layer_paths accepted OfVmdk path (files path) ≡ paths =
      ap (λ (r : Result (List (Extent (List ℕ)) × ℕ) Error). path ∷ extent_paths path (extents_read r)) reading in
      let names : map (λ (f : Features). f.filename) (features v.descriptor ∷ map features v.storages.items)
      ≡ map Some paths =
      ap (λ (o : Option (List ℕ)). o ∷ map (λ (f : Features). f.filename) (map features v.storages.items))
      (ap (λ (s : S). (features s).filename) image.0 ∙ name)
      ∙ ap (λ (os : List (Option (List ℕ))). Some path ∷ os) image.3 in
      let count : vmdk_count v.opened v.extents.items ≡ length paths =
      ap (λ (b : Bool). vmdk_count b v.extents.items) image.1
      ∙ one_more (storages_in v.extents.items) path (extent_paths path (extents_in v))
      (counted string_bytes v.extents.items
      ∙ sym (length-map (flat_names (extents_in v)) (path_beside path))) in
      subst (λ (ps : List (List ℕ)). AreNamed (vmdk_in features bytes v).stores ps) (sym are)
      (count, λ i less. named_at (features v.descriptor ∷ map features v.storages.items) paths null_features names i less))

module _ {L E : Type 0} (r : Result L E) (stores : L → Stores) (accepted : Accepted)
    (known : Option (List ℕ → List ℕ)) (path : List ℕ) (format : ImageFormat) where
  abbrev Is : ImageFormat → L → Type 0
  Is f l = IfSome known (λ files. AreNamed (stores l) (layer_paths accepted f path (files path)))

  -- the storages of a layer, by its format
  pub named_as : (is : ImageFormat) → format ≡ is → IfOk r (Is is) → IfOk r (Is format)
  named_as is same h = subst (λ (f : ImageFormat). IfOk r (Is f)) (sym same) h

  all_known :
      (l : L) (known_ : Option (List ℕ → List ℕ)) → AreNamed (stores l) (path ∷ [])
      → IfSome known_ (λ files. AreNamed (stores l) (path ∷ []))
  all_known l None h = tt
  all_known l (Some files) h = h

  pub raw_named : format ≡ Raw → IfOk r (λ l. AreNamed (stores l) (path ∷ [])) → IfOk r (Is format)
  raw_named same h = named_as Raw same (each r h)
    where
      each : (q : Result L E) → IfOk q (λ l. AreNamed (stores l) (path ∷ [])) → IfOk q (Is Raw)
      each (Ok l) h = all_known l known h
      each (Err e) h = tt

  pub qcow2_named : format ≡ Qcow2 → IfOk r (λ l. AreNamed (stores l) (path ∷ [])) → IfOk r (Is format)
  qcow2_named same h = named_as Qcow2 same (each r h)
    where
      each : (q : Result L E) → IfOk q (λ l. AreNamed (stores l) (path ∷ [])) → IfOk q (Is Qcow2)
      each (Ok l) h = all_known l known h
      each (Err e) h = tt

module _ {D St : Type 0} (view : D → View St) where
  abbrev BelowHas : Option (FormatAccess D) → List (List (List ℕ)) → Type 0
  BelowHas None rest = rest ≡ []
  BelowHas (Some x) rest = HasStorages view x rest

  storages_back :
      (inner : D) (b : Option (Box (FormatAccess D) Global)) (paths : List (List ℕ)) (rest : List (List (List ℕ)))
      → AreNamed (view inner).stores paths → BelowHas (unboxed b) rest
      → HasStorages view (FormatAccess' (back-FormatAccess-backing D b) inner) (paths ∷ rest)
  storages_back inner None paths rest own below = (own, below)
  storages_back inner (Some b) paths rest own below = (own, below)

  storages_out :
      (x : FormatAccess D) (inner : D) (b : Option (FormatAccess D)) (paths : List (List ℕ))
      (rest : List (List (List ℕ))) → driver x ≡ inner → backing x ≡ b
      → AreNamed (view inner).stores paths → BelowHas b rest → HasStorages view x (paths ∷ rest)
  storages_out x inner b paths rest is under own below =
      subst (λ (y : FormatAccess D). HasStorages view y (paths ∷ rest)) (sym (is-FormatAccess' x))
      (storages_back (driver x) (out-FormatAccess D x).backing paths rest
      (subst (λ (d : D). AreNamed (view d).stores paths) (sym is) own)
      (subst (λ (o : Option (FormatAccess D)). BelowHas o rest) (sym under) below))

  pub alone_storages :
      (x : FormatAccess D) (inner : D) (paths : List (List ℕ)) → driver x ≡ inner → backing x ≡ None
      → AreNamed (view inner).stores paths → HasStorages view x (paths ∷ [])
  alone_storages x inner paths is under own = storages_out x inner None paths [] is under own refl

  pub over_storages :
      (x below : FormatAccess D) (inner : D) (paths : List (List ℕ)) (rest : List (List (List ℕ)))
      → driver x ≡ inner → backing x ≡ Some below → AreNamed (view inner).stores paths
      → HasStorages view below rest → HasStorages view x (paths ∷ rest)
  over_storages x below inner paths rest is under own has =
      storages_out x inner (Some below) paths rest is under own has

  -- which file a layer names as the next one
  names_next :
      (accepted : Accepted) (others : OtherFiles) (files : List ℕ → List ℕ) (path : List ℕ)
      (format : ImageFormat) (inner : D) (next : Option (List ℕ))
      → IsLayerOf view accepted others files path format inner next
      → NamesNext format path (files path) next
  names_next accepted others files path Raw inner next h = h.1.1
  names_next accepted others files path Qcow2 inner next h = h.1.1
  names_next accepted others files path OfVmdk inner next h = h.1.5

  module _ (accepted : Accepted) (others : OtherFiles) (known : Option (List ℕ → List ℕ)) (path : List ℕ)
      (format : ImageFormat) (inner : D) (x : FormatAccess D) where
    pub alone_files :
        ((paths : List (List ℕ)) → AreNamed (view inner).stores paths → HasStorages view x (paths ∷ []))
        → IfSome known (λ files. IsLayerOf view accepted others files path format inner None)
        → IfSome known (λ files. AreNamed (view inner).stores (layer_paths accepted format path (files path)))
        → IfSome known (λ files. HasFiles view accepted files path format x)
    alone_files stores layer own =
        where_told known (λ files. HasFiles view accepted files path format x)
        (λ files is.
        let layer_is = told_one known files (λ fs. IsLayerOf view accepted others fs path format inner None) is layer in
        let own_is = told_one known files
        (λ fs. AreNamed (view inner).stores (layer_paths accepted format path (fs path))) is own in (
          layer_paths accepted format path (files path) ∷ [],
          (refl, (None, names_next accepted others files path format inner None layer_is, refl)),
          stores (layer_paths accepted format path (files path)) own_is,
        ))

    pub over_files :
        (next : List ℕ) (lower : ImageFormat) (below : FormatAccess D) (said : Option ImageFormat)
        → ((paths : List (List ℕ)) (rest : List (List (List ℕ))) → AreNamed (view inner).stores paths
        → HasStorages view below rest → HasStorages view x (paths ∷ rest))
        → IfSome known (λ files. IsLayerOf view accepted others files path format inner (Some next))
        → IfSome known (λ files. AreNamed (view inner).stores (layer_paths accepted format path (files path)))
        → IfSome known (λ files. SaysFormat (files path) said)
        → IfSome known (λ files. IsFormatBy said next (files next) lower)
        → IfSome known (λ files. HasFiles view accepted files next lower below)
        → IfSome known (λ files. HasFiles view accepted files path format x)
    over_files next lower below said stores layer own says by under =
        where_told known (λ files. HasFiles view accepted files path format x)
        (λ files is.
        let layer_is = told_one known files (λ fs. IsLayerOf view accepted others fs path format inner (Some next)) is layer in
        let own_is = told_one known files
        (λ fs. AreNamed (view inner).stores (layer_paths accepted format path (fs path))) is own in
        let says_is = told_one known files (λ fs. SaysFormat (fs path) said) is says in
        let by_is = told_one known files (λ fs. IsFormatBy said next (fs next) lower) is by in
        let under_is = told_one known files (λ fs. HasFiles view accepted fs next lower below) is under in (
          layer_paths accepted format path (files path) ∷ under_is.0,
          (
            refl,
            (
              Some next,
              names_next accepted others files path format inner (Some next) layer_is,
              (lower, (said, says_is, by_is), under_is.1),
            ),
          ),
          stores (layer_paths accepted format path (files path)) under_is.0 own_is under_is.2,
        ))
