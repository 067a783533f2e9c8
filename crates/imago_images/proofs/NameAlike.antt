-- A file under two paths of one folder, or a raw one under any: the image is the same.
-- SPDX-License-Identifier: MIT
use Rattle.std.proofs.Common.{◌≡◌, ℕ, true, List, [], ◌∷◌, map, Option, Some, None, Ok, refl, ap, ◌∙◌, subst, length, slice_index_or}
use Rattle.std.specs.Path.{path_join}
use Rattle.imago_drivers.specs.Place.{Place}
use Rattle.imago_drivers.specs.Raw.{raw_place}
use Rattle.imago_vmdk.specs.declared.line.Accepted.{Accepted}
use Rattle.imago_vmdk.specs.Reading.{reading_of}
use Rattle.imago_vmdk.specs.Disk.{described_place}
use Rattle.imago_qcow2.specs.Entry.{qcow2_place}
use Rattle.imago_file.specs.Names.{lies_below, path_beside}
use Rattle.imago_images.specs.declared.format.ImageFormat.{ImageFormat}
use Rattle.imago_images.specs.declared.format.ImageFormat.TheVariants.{Raw, Vmdk, Qcow2}
use Rattle.imago_images.specs.declared.opening.Opening.{Opening}
use Rattle.imago_images.specs.declared.opening.OtherFiles.{OtherFiles}
use Rattle.imago_images.specs.declared.opening.OtherFiles.TheVariants as Others
use Rattle.imago_images.specs.Extents.{flat_names}
use Rattle.imago_images.specs.Formats.{IsFormatBelow}
use Rattle.imago_images.specs.Gate.{folder_path, IsLetThrough, AreLetThrough}
use Rattle.imago_images.specs.Longest.{IsNoLonger, HasFewTables, IsLimited}
use Rattle.imago_images.specs.Images.{LeadsTo, extent_paths, IsLayer, GoesOn, AreLayers}

module _ (files : List ℕ → List ℕ) (one other : List ℕ) (same : files one ≡ files other) where
  -- a raw file has the same layers under both
  pub raw_alike :
      (how : Opening) (layers : List (ℕ → Place))
      → AreLayers how files one Raw layers → AreLayers how files other Raw layers
  raw_alike how [] are = are
  raw_alike how (place ∷ below) (next, (here, none), limited, goes) =
      let alone : below ≡ [] = subst (λ (n : Option (List ℕ)). GoesOn n below (λ p. IsLetThrough how.other_files one p
      × ((lower : ImageFormat) × IsFormatBelow (files one) p (files p) lower × AreLayers how files p lower below))) none goes in (
        None,
        (subst (λ (b : List ℕ). place ≡ raw_place (length b) b) same here, refl),
        subst (λ (b : List ℕ). IsLimited how Raw b) same limited,
        alone,
      )

  module _ (folder : folder_path one ≡ folder_path other) where
    beside : (name : List ℕ) → path_beside one name ≡ path_beside other name
    beside name = ap (λ (f : List ℕ). path_join f name) folder

    all_beside : (names : List (List ℕ)) → map (path_beside one) names ≡ map (path_beside other) names
    all_beside [] = refl
    all_beside (name ∷ names) =
        ap (λ (p : List ℕ). p ∷ map (path_beside one) names) (beside name)
        ∙ ap (λ (ps : List (List ℕ)). path_beside other name ∷ ps) (all_beside names)

    let_through : (others : OtherFiles) (path : List ℕ) → IsLetThrough others one path → IsLetThrough others other path
    let_through Others.None path h = h
    let_through Others.InFolder path h = subst (λ (f : List ℕ). lies_below f path ≡ true) folder h
    let_through Others.Any path h = h

    all_let_through : (others : OtherFiles) (paths : List (List ℕ)) → AreLetThrough others one paths → AreLetThrough others other paths
    all_let_through others [] h = h
    all_let_through others (path ∷ paths) (h, rest) = (let_through others path h, all_let_through others paths rest)

    leads : (next : Option (List ℕ)) → LeadsTo (files one) one next → LeadsTo (files other) other next
    leads None h = subst (λ (b : List ℕ). LeadsTo b one None) same h
    leads (Some next) h =
        let (name, file, says, named, is) = subst (λ (b : List ℕ). LeadsTo b one (Some next)) same h in
        (name, file, says, named, is ∙ beside file)

    layer_alike :
        (accepted : Accepted) (others : OtherFiles) (format : ImageFormat) (place : ℕ → Place) (next : Option (List ℕ))
        → IsLayer accepted others files one format place next → IsLayer accepted others files other format place next
    layer_alike accepted others Raw place next (here, none) =
        (subst (λ (b : List ℕ). place ≡ raw_place (length b) b) same here, none)
    layer_alike accepted others Qcow2 place next (here, leading) =
        (subst (λ (b : List ℕ). place ≡ qcow2_place b) same here, leads next leading)
    layer_alike accepted others Vmdk place next (extents, size, read, through, here, none) =
        let paths : extent_paths one extents ≡ extent_paths other extents = all_beside (flat_names extents) in
        let held : map files (one ∷ extent_paths one extents) ≡ map files (other ∷ extent_paths other extents) =
        ap (λ (b : List ℕ). b ∷ map files (extent_paths one extents)) same
        ∙ ap (λ (ps : List (List ℕ)). files other ∷ map files ps) paths in (
          extents,
          size,
          subst (λ (b : List ℕ). reading_of accepted b ≡ Ok (extents, size)) same read,
          all_let_through others (extent_paths other extents)
              (subst (λ (ps : List (List ℕ)). AreLetThrough others one ps) paths through),
          subst (λ (bs : List (List ℕ)). place ≡ described_place accepted (λ i. slice_index_or bs i [])) held here,
          none,
        )

    -- any file has the same layers under both
    pub image_alike :
        (how : Opening) (format : ImageFormat) (layers : List (ℕ → Place))
        → AreLayers how files one format layers → AreLayers how files other format layers
    image_alike how format [] are = are
    image_alike how format (place ∷ below) (next, here, limited, goes) = (
      next,
      layer_alike how.accepted how.other_files format place next here,
      subst (λ (b : List ℕ). IsLimited how format b) same limited,
      on next goes,
    )
      where
        on : (n : Option (List ℕ))
            → GoesOn n below (λ p. IsLetThrough how.other_files one p
            × ((lower : ImageFormat) × IsFormatBelow (files one) p (files p) lower × AreLayers how files p lower below))
            → GoesOn n below (λ p. IsLetThrough how.other_files other p
            × ((lower : ImageFormat) × IsFormatBelow (files other) p (files p) lower × AreLayers how files p lower below))
        on None goes = goes
        on (Some p) (through, (lower, by, are)) =
            (let_through how.other_files p through, (lower, subst (λ (b : List ℕ). IsFormatBelow b p (files p) lower) same by, are))

-- a file is within the same limits
limited_said :
    (how other : Opening) → other.accepted ≡ how.accepted → other.longest ≡ how.longest → other.tables ≡ how.tables
    → (format : ImageFormat) (bytes : List ℕ) → IsLimited other format bytes → IsLimited how format bytes
limited_said how other a l t format bytes limited = (
  subst (λ (k : Accepted). IsNoLonger how.longest k format bytes) a
      (subst (λ (m : Option ℕ). IsNoLonger m other.accepted format bytes) l limited.0),
  limited.1,
  subst (λ (m : Option ℕ). HasFewTables m format bytes) t limited.2,
)

layer_said :
    (how other : Opening) → other.accepted ≡ how.accepted → other.other_files ≡ how.other_files
    → (files : List ℕ → List ℕ) (path : List ℕ) (format : ImageFormat) (place : ℕ → Place) (next : Option (List ℕ))
    → IsLayer other.accepted other.other_files files path format place next
    → IsLayer how.accepted how.other_files files path format place next
layer_said how other a o files path format place next layer =
    subst (λ (f : OtherFiles). IsLayer how.accepted f files path format place next) o
    (subst (λ (k : Accepted). IsLayer k other.other_files files path format place next) a layer)

-- layers are so by what is opened and what is allowed, whatever is said of the top one's format
pub layers_said :
    (how other : Opening) → other.accepted ≡ how.accepted → other.other_files ≡ how.other_files
    → other.longest ≡ how.longest → other.tables ≡ how.tables
    → (files : List ℕ → List ℕ) (path : List ℕ) (format : ImageFormat) (layers : List (ℕ → Place))
    → AreLayers other files path format layers → AreLayers how files path format layers
layers_said how other a o l t files path format [] are = are
layers_said how other a o l t files path format (place ∷ below) (None, layer, limited, last) = (
  None,
  layer_said how other a o files path format place None layer,
  limited_said how other a l t format (files path) limited,
  last,
)
layers_said how other a o l t files path format (place ∷ below) (Some next, layer, limited, (through, (lower, by, are))) = (
  Some next,
  layer_said how other a o files path format place (Some next) layer,
  limited_said how other a l t format (files path) limited,
  (
    subst (λ (f : OtherFiles). IsLetThrough f path next) o through,
    (lower, by, layers_said how other a o l t files next lower below are),
  ),
)
