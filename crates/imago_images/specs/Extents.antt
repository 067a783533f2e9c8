-- What a VMDK descriptor says of its extents' files and of its disk's size.
-- SPDX-License-Identifier: MIT
use Rattle.std.specs.Prelude.{◌≡◌, ◌⊎◌, ℕ, List, [], ◌∷◌, Result, Ok, Err}
use Rattle.imago_storage.specs.declared.error.Error.{Error}
use Rattle.imago_file.specs.Names.{path_beside}
use Rattle.imago_vmdk.specs.declared.line.Extent.{Extent}

-- the names of FLAT extents, in order
abbrev pub flat_names : List (Extent (List ℕ)) → List (List ℕ)
flat_names [] = []
flat_names (Extent.Zero sectors ∷ extents) = flat_names extents
flat_names (Extent.NoAccess sectors ∷ extents) = flat_names extents
flat_names (Extent.Flat sectors name offset writable vmfs ∷ extents) = name ∷ flat_names extents

-- an extent of the descriptor of a path is a FLAT one, in the file of that other path
abbrev pub IsFlatIn : Extent (List ℕ) → List ℕ → List ℕ → Type 0
IsFlatIn (Extent.Zero sectors) path other = ⊥
IsFlatIn (Extent.NoAccess sectors) path other = ⊥
IsFlatIn (Extent.Flat sectors name offset writable vmfs) path other = other ≡ path_beside path name

-- one of these is
abbrev pub HasFlat : List (Extent (List ℕ)) → List ℕ → List ℕ → Type 0
HasFlat [] path other = ⊥
HasFlat (extent ∷ extents) path other = IsFlatIn extent path other ⊎ HasFlat extents path other

-- the size of the disk that a descriptor describes, by what was read of it
abbrev pub size_read : Result (List (Extent (List ℕ)) × ℕ) Error → ℕ
size_read (Ok disk) = disk.1
size_read (Err e) = 0
