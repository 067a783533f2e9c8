-- An image with which no other files are opened is the one that its file's bytes describe.
-- SPDX-License-Identifier: MIT
use Rattle.std.proofs.Common.{◌≡◌, ℕ, List, [], ◌∷◌, Option, Some, None, IfSome, refl, subst, ◌∙◌, ap}
use Rattle.imago_drivers.specs.Place.{Place}
use Rattle.imago_drivers.specs.View.{View}
use Rattle.imago_access.specs.declared.access.FormatAccess.{FormatAccess}
use Rattle.imago_vmdk.specs.declared.line.Accepted.{Accepted}
use Rattle.imago_vmdk.specs.Disk.{described_place}
use Rattle.imago_images.specs.declared.format.ImageFormat.{ImageFormat}
use Rattle.imago_images.specs.declared.format.ImageFormat.TheVariants.{Raw, Vmdk, Qcow2}
use Rattle.imago_images.specs.declared.opening.Opening.{Opening}
use Rattle.imago_images.specs.declared.opening.OtherFiles.{OtherFiles}
use Rattle.imago_images.specs.declared.opening.OtherFiles.TheVariants as Others
use Rattle.imago_images.specs.Alone.{IsImageOf, AreLayersOf}
use Rattle.imago_images.specs.Gate.{IsLetThrough, AreLetThrough}
use Rattle.imago_images.specs.Images.{IsLayer, AreLayers, IsImageIn, bytes_in, extent_paths}

-- none of these paths is let through, so there are none
same_bytes :
    (files : List ℕ → List ℕ) (path : List ℕ) (paths : List (List ℕ))
    → AreLetThrough Others.None path paths
    → bytes_in files (path ∷ paths) ≡ bytes_in (λ _. files path) (path ∷ paths)
same_bytes files path [] through = refl
same_bytes files path (other ∷ paths) (through, rest) = absurd through

same_layer :
    (accepted : Accepted) (files : List ℕ → List ℕ) (path : List ℕ) (format : ImageFormat)
    (place : ℕ → Place) (next : Option (List ℕ))
    → IsLayer accepted Others.None files path format place next
    → IsLayer accepted Others.None (λ _. files path) path format place next
same_layer accepted files path Raw place next h = h
same_layer accepted files path Qcow2 place next h = h
same_layer accepted files path Vmdk place next (extents, size, read, through, is, last) = (
  extents,
  size,
  read,
  through,
  is ∙ ap (described_place accepted) (same_bytes files path (extent_paths path extents) through),
  last,
)

same_layers :
    (how : Opening) (files : List ℕ → List ℕ) (path : List ℕ) (format : ImageFormat)
    (layers : List (ℕ → Place)) → how.other_files ≡ Others.None
    → AreLayers how files path format layers
    → AreLayersOf how (files path) path format layers
same_layers how files path format [] none h = absurd h
same_layers how files path format (place ∷ below) none (None, layer, limited, last) = (
  None,
  same_layer how.accepted files path format place None
      (subst (λ (o : OtherFiles). IsLayer how.accepted o files path format place None) none layer),
  limited,
  last,
)
same_layers how files path format (place ∷ below) none (Some next, layer, limited, (through, rest)) =
    absurd (subst (λ (o : OtherFiles). IsLetThrough o path next) none through)

pub image_alone :
    {D St : Type 0} (view : D → View St) (how : Opening) (files : List ℕ → List ℕ) (path : List ℕ)
    (format : ImageFormat) (x : FormatAccess D)
    → how.other_files ≡ Others.None → IsImageIn view how files path format x
    → IsImageOf view how (files path) path format x
image_alone view how files path format x none h =
    (h.0, same_layers how files path format h.0 none h.1, h.2)

-- the same where a host tells what its files hold
pub image_alone_told :
    {D St : Type 0} (view : D → View St) (how : Opening) (known : Option (List ℕ → List ℕ))
    (path : List ℕ) (format : ImageFormat) (x : FormatAccess D)
    → how.other_files ≡ Others.None
    → IfSome known (λ files. IsImageIn view how files path format x)
    → IfSome known (λ files. IsImageOf view how (files path) path format x)
image_alone_told view how None path format x none h = tt
image_alone_told view how (Some files) path format x none h =
    image_alone view how files path format x none h
