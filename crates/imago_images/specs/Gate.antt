-- Which of the files that an image names its gate lets through, and what it hands out for them.
-- SPDX-License-Identifier: MIT
use Rattle.std.specs.Prelude.{◌≡◌, ℕ, true, List, [], ◌∷◌, Option, Some, unwrap_or}
use Rattle.std.specs.Prelude.{IfSome, codes}
use Rattle.std.specs.Path.{path_parent, PathStartsWith}
use Rattle.imago_storage.specs.Features.{Features}
use Rattle.imago_file.specs.Names.{lies_below}
use Rattle.imago_images.specs.HostBytes.{HasBytes}
use Rattle.imago_images.specs.declared.opening.OtherFiles.{OtherFiles}
use Rattle.imago_images.specs.declared.opening.OtherFiles.TheVariants as Others

-- the folder that the file of a path is in, by its text
abbrev pub folder_path : List ℕ → List ℕ
folder_path path = unwrap_or (path_parent path) []

-- the path by which a host finds the folder of that path by its text
abbrev pub or_here : List ℕ → List ℕ
or_here [] = codes "."
or_here (c ∷ path) = c ∷ path

-- the same of the folder of an image's file
abbrev pub folder_asked : List ℕ → List ℕ
folder_asked image = or_here (folder_path image)

-- A path that an image leads to is let through: none is, or it lies in the folder of the image's
-- own path or below, by their texts, or each is.
abbrev pub IsLetThrough : OtherFiles → List ℕ → List ℕ → Type 0
IsLetThrough Others.None image path = ⊥
IsLetThrough Others.InFolder image path = lies_below (folder_path image) path ≡ true
IsLetThrough Others.Any image path = Unit {0}

-- No link leads a path that is let through out of the folder of the image's path, where only those
-- in it are let through, and where the host tells which paths its files have without links.
abbrev pub IsInside : Option (List ℕ → List ℕ) → OtherFiles → List ℕ → List ℕ → Type 0
IsInside reals Others.None image path = ⊥
IsInside reals Others.InFolder image path =
    IfSome reals (λ real. PathStartsWith (real path) (real (folder_asked image)))
IsInside reals Others.Any image path = Unit {0}

-- each of these paths is let through
abbrev pub AreLetThrough : OtherFiles → List ℕ → List (List ℕ) → Type 0
AreLetThrough others image [] = Unit {0}
AreLetThrough others image (path ∷ paths) =
    IsLetThrough others image path × AreLetThrough others image paths

-- A storage was handed out for the path that was asked for, which is let through. Where the host
-- tells what its files hold, the storage has the bytes of the file of that path. The path is its
-- name.
abbrev pub IsLooked :
    {S : Type 0} → (S → Features) → (S → List ℕ) → Option (List ℕ → List ℕ) → OtherFiles
    → List ℕ → Option (List ℕ) → S → Type 0
IsLooked features bytes known others image asked s =
    (path : List ℕ) × (asked ≡ Some path) × IsLetThrough others image path
    × IfSome known (λ files. HasBytes features bytes (files path) s)
    × ((features s).filename ≡ Some path)
