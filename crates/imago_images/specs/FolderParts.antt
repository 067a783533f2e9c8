-- What is seen of the folder of an image.
-- SPDX-License-Identifier: MIT
use Rattle.std.specs.Prelude.{◌≡◌, ℕ, List, Option, Some, None, option_map, IfSome}
use Rattle.std.specs.Path.{PathStartsWith}
use Rattle.std.specs.String.{string_bytes}
use Rattle.imago_images.specs.declared.folder.Folder.{Folder}
use Rattle.imago_images.specs.Gate.{folder_asked}

-- its path without links, where only files in it are looked at
abbrev pub bounds_in : Folder → Option (List ℕ)
bounds_in folder = option_map string_bytes folder.bounds

-- the bounds of an image's files, if there are any, are its folder, where the host tells which
-- paths its files have without links
abbrev pub IsBounded : Option (List ℕ → List ℕ) → List ℕ → Option (List ℕ) → Type 0
IsBounded reals image bounds =
    IfSome bounds (λ folder. IfSome reals (λ real. folder ≡ real (folder_asked image)))

-- a path without links stands out of bounds, where the host tells which paths its files have so
abbrev pub IsBeyond : Option (List ℕ → List ℕ) → List ℕ → Option (List ℕ) → Type 0
IsBeyond reals path None = ⊥
IsBeyond reals path (Some folder) =
    IfSome reals (λ real. PathStartsWith (real path) folder → ⊥)

-- a path without links stands within bounds, if there are any, where the host tells so
abbrev pub IsWithin : Option (List ℕ → List ℕ) → List ℕ → Option (List ℕ) → Type 0
IsWithin reals path None = Unit {0}
IsWithin reals path (Some folder) = IfSome reals (λ real. PathStartsWith (real path) folder)
