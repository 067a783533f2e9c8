-- What a gate keeps of the first files that it looked at, so that it needn't look at them again.
-- SPDX-License-Identifier: MIT
use Rattle.std.specs.Prelude.{◌≡◌, ◌⊎◌, ℕ, List, ◌++◌, Option, Some, None, IfSome, IsSome}
use Rattle.std.specs.Prelude.{String, length}
use Rattle.std.specs.BTreeMap.{BTreeMap, get_by_text}
use Rattle.std.specs.Coded.{×_prop, Π_prop, →_prop, Unit-prop}
use Rattle.std.specs.Global.{Global}
use Rattle.std.specs.Option.{ForSome}
use Rattle.std.specs.Path.{PathStartsWith, path_components}
use Rattle.std.proofs.Common.{sym, ◌∙◌}
use Rattle.std.proofs.Math.Nat.{ℕ_set}
use Rattle.std.proofs.Props.{props}
use Rattle.std.proofs.lemmas.List.{append_cancel_left}
use Rattle.imago_images.specs.declared.files.FileStatus.{FileStatus}
use Rattle.imago_images.specs.declared.opening.OtherFiles.{OtherFiles}
use Rattle.imago_images.specs.declared.opening.OtherFiles.TheVariants as Others
use Rattle.imago_images.specs.FolderParts.{IsBounded}
use Rattle.imago_images.specs.Gate.{IsLetThrough, IsInside, folder_asked}
use mathlib.Core.HLevel.{Σ_prop_path}

-- A path that an image leads to is let through, and where those bounds are of the image's folder,
-- no link leads it out.
abbrev pub IsPassed :
    Option (List ℕ → List ℕ) → OtherFiles → List ℕ → Option (List ℕ) → List ℕ → Type 0
IsPassed reals others image bounds path = IsLetThrough others image path
    × ((others ≡ Others.InFolder → IsSome bounds) → IsBounded reals image bounds
    → IsInside reals others image path)

-- The file of a path is that, and has so many bytes, where the host tells what its files are, and
-- what they hold.
abbrev pub IsStatusOf :
    Option (List ℕ → List ℕ) → Option (List ℕ → FileStatus) → List ℕ → FileStatus → Type 0
IsStatusOf known statuses path status = IfSome statuses (λ status_of. status ≡ status_of path)
    × IfSome known (λ files. status.length ≡ length (files path))

-- a path was let through, and its file is that
abbrev pub IsLookedAt :
    Option (List ℕ → List ℕ) → Option (List ℕ → FileStatus) → Option (List ℕ → List ℕ)
    → OtherFiles → List ℕ → Option (List ℕ) → List ℕ → FileStatus → Type 0
IsLookedAt known statuses reals others image bounds path status =
    IsPassed reals others image bounds path × IsStatusOf known statuses path status

-- each path of which something is kept was let through, and its file is what is kept of it
abbrev pub AreLookedAt :
    Option (List ℕ → List ℕ) → Option (List ℕ → FileStatus) → Option (List ℕ → List ℕ)
    → OtherFiles → List ℕ → Option (List ℕ) → BTreeMap (String Global) FileStatus → Type 0
AreLookedAt known statuses reals others image bounds looked = (path : List ℕ)
    → ForSome (get_by_text looked path) (IsLookedAt known statuses reals others image bounds path)

-- what is kept is what was kept, and of that path the status
abbrev pub KeepsBeside :
    BTreeMap (String Global) FileStatus → BTreeMap (String Global) FileStatus → List ℕ
    → FileStatus → Type 0
KeepsBeside old new path status = (other : List ℕ) → ForSome (get_by_text new other)
    (λ found. (get_by_text old other ≡ Some found) ⊎ ((other ≡ path) × (found ≡ status)))

begins-prop : (path base : List ℕ) → IsProp (PathStartsWith path base)
begins-prop path base = λ s t.
    let same : (rest : List (List ℕ)) → IsProp (path_components path ≡ path_components base ++ rest) =
    λ rest. Prim.hlevel props in
    Σ_prop_path same (append_cancel_left (path_components base) s.0 t.0 (sym s.1 ∙ t.1))

through-prop : (others : OtherFiles) (image path : List ℕ) → IsProp (IsLetThrough others image path)
through-prop Others.None image path = λ a. absurd a
through-prop Others.InFolder image path = Prim.hlevel props
through-prop Others.Any image path = Unit-prop

inside-prop :
    (reals : Option (List ℕ → List ℕ)) (others : OtherFiles) (image path : List ℕ)
    → IsProp (IsInside reals others image path)
inside-prop reals Others.None image path = λ a. absurd a
inside-prop None Others.InFolder image path = Unit-prop
inside-prop (Some real) Others.InFolder image path =
    begins-prop (real path) (real (folder_asked image))
inside-prop reals Others.Any image path = Unit-prop

status-prop :
    (statuses : Option (List ℕ → FileStatus)) (path : List ℕ) (status : FileStatus)
    → IsProp (IfSome statuses (λ status_of. status ≡ status_of path))
status-prop None path status = Unit-prop
status-prop (Some status_of) path status = Prim.hlevel props

length-prop :
    (known : Option (List ℕ → List ℕ)) (path : List ℕ) (status : FileStatus)
    → IsProp (IfSome known (λ files. status.length ≡ length (files path)))
length-prop None path status = Unit-prop
length-prop (Some files) path status = ℕ_set status.length (length (files path))

pub AreLookedAt-prop :
    (known : Option (List ℕ → List ℕ)) (statuses : Option (List ℕ → FileStatus))
    (reals : Option (List ℕ → List ℕ)) (others : OtherFiles) (image : List ℕ)
    (bounds : Option (List ℕ)) (looked : BTreeMap (String Global) FileStatus)
    → IsProp (AreLookedAt known statuses reals others image bounds looked)
AreLookedAt-prop known statuses reals others image bounds looked =
    Π_prop (λ path. Π_prop (λ status. →_prop (×_prop
    (×_prop (through-prop others image path)
    (→_prop (→_prop (inside-prop reals others image path))))
    (×_prop (status-prop statuses path status) (length-prop known path status)))))
