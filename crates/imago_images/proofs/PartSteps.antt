-- What is in a layer that was opened, and what a gate handed out.
-- SPDX-License-Identifier: MIT
use Rattle.std.proofs.Common.{◌≡◌, ℕ, Bool, List, Option, Some, None, Ok, IfOk, IfSome, IsTrue, refl, sym, ap, ◌∙◌, subst}
use Rattle.std.specs.Prelude.{option_map}
use Rattle.std.specs.Borrow.{MutBor}
use Rattle.std.specs.String.{string_bytes}
use Rattle.imago_storage.specs.Features.{Features}
use Rattle.imago_drivers.specs.Opening.{Opening}
use Rattle.imago_vmdk.specs.Opened.{extent_options}
use Rattle.imago_any_driver.specs.declared.any.AnyDriver.{AnyDriver}
use Rattle.imago_file.specs.Names.{path_beside}
use Rattle.imago_images.specs.declared.format.ImageFormat.{ImageFormat}
use Rattle.imago_images.specs.declared.gate.FolderGate.{FolderGate}
use Rattle.imago_images.specs.declared.layer.Below.{Below}
use Rattle.imago_images.specs.declared.layer.Layer.{Layer}
use Rattle.imago_images.specs.HostBytes.{HasBytes}
use Rattle.imago_images.specs.Gate.{IsLooked, IsLetThrough}
use Rattle.imago_images.specs.declared.opening.OtherFiles.{OtherFiles}

abbrev pub driver_in : {S : Type 0} {g : _} {h : _} → Layer S g h → AnyDriver S g h
driver_in l = l.driver

abbrev pub below_in : {S : Type 0} {g : _} {h : _} → Layer S g h → Option Below
below_in l = l.below

abbrev pub path_in : Below → List ℕ
path_in b = string_bytes b.path

abbrev pub format_in : Below → Option ImageFormat
format_in b = b.format

-- what is shown of each host that tells what files have
pub where_told :
    (known : Option (List ℕ → List ℕ)) (P : (List ℕ → List ℕ) → Type 0)
    → ((files : List ℕ → List ℕ) → known ≡ Some files → P files) → IfSome known P
where_told None P k = tt
where_told (Some files) P k = k files refl

-- what a host tells
pub told_one :
    (known : Option (List ℕ → List ℕ)) (files : List ℕ → List ℕ) (P : (List ℕ → List ℕ) → Type 0)
    → known ≡ Some files → IfSome known P → P files
told_one known files P is h = subst (λ (o : Option (List ℕ → List ℕ)). IfSome o P) is h

named : (a b : List ℕ) → Some a ≡ Some b → a ≡ b
named a b h = cc h

-- a name that stands for a file beside that of a storage's own name
pub beside_named :
    {A : Type 0} (text : A → List ℕ) (own : Option A) (filename : Option (List ℕ)) (path relative name : List ℕ)
    → filename ≡ Some path → filename ≡ option_map text own
    → IfSome own (λ file. name ≡ path_beside (text file) relative) → name ≡ path_beside path relative
beside_named text None filename path relative name is of beside =
    let none : ⊥ = cc (is, of) in absurd none
beside_named text (Some file) filename path relative name is of beside =
    let here : text file ≡ path = named (text file) path (sym of ∙ is) in
    beside ∙ ap (λ (p : List ℕ). path_beside p relative) here

-- the gate of the image of that path
abbrev pub IsGateOf :
    {H File : Type 0} {g : _} {h : _} → H → List ℕ → OtherFiles → MutBor (FolderGate H File g h) → Type 0
IsGateOf host path others m = (m.now.door.host.now ≡ host) × (m.now.door.image.now ≡ path) × (m.now.door.others ≡ others)

module _ {H File S : Type 0} {g : _} {h : _} (contents : H → Option (List ℕ → List ℕ)) (features : S → Features)
    (bytes : S → List ℕ) where
  -- what it answers
  abbrev pub IsLookedBy : Opening (MutBor (FolderGate H File g h)) S
  IsLookedBy o a b r = (b.now.door.host.now ≡ a.now.door.host.now) × (b.now.door.image.now ≡ a.now.door.image.now)
      × (b.now.door.others ≡ a.now.door.others)
      × IfOk r (IsLooked features bytes (contents a.now.door.host.now) a.now.door.others a.now.door.image.now o.filename)

  -- a storage that it hands out is that of the file of its path
  pub looked :
      (host : H) (path : List ℕ) (others : OtherFiles)
      (files : List ℕ → List ℕ) → contents host ≡ Some files
      → (direct : Bool) (name : List ℕ) (before after : MutBor (FolderGate H File g h)) (s : S)
      → IsGateOf host path others before → IsLookedBy (extent_options direct name) before after (Ok s)
      → IsGateOf host path others after × IsTrue (features s).tells_bytes
      × (bytes s ≡ files name) × IsLetThrough others path name
  looked host path others files is direct name before after s good (same, image, allowed, at) =
      let known : contents before.now.door.host.now ≡ Some files = ap contents good.0 ∙ is in
      let here : name ≡ at.0 = named name at.0 at.1 in
      let told : HasBytes features bytes (files at.0) s =
      told_one (contents before.now.door.host.now) files (λ fs. HasBytes features bytes (fs at.0) s) known at.3 in (
        (same ∙ good.0, image ∙ good.1, allowed ∙ good.2),
        told.0,
        told.1 ∙ ap files (sym here),
        subst (λ (p : List ℕ). IsLetThrough others path p) (sym here)
            (subst (λ (i : List ℕ). IsLetThrough others i at.0) good.1
            (subst (λ (a : OtherFiles). IsLetThrough a before.now.door.image.now at.0) good.2 at.2)),
      )

-- a storage that is another one has its bytes
pub told_same :
    {S : Type 0} (features : S → Features) (bytes : S → List ℕ) (held : List ℕ) (s file : S)
    → s ≡ file → HasBytes features bytes held file → HasBytes features bytes held s
told_same {S} features bytes held s file is told = subst (λ (x : S). HasBytes features bytes held x) (sym is) told
