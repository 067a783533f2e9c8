-- What is found under the names of a descriptor's extents.
-- SPDX-License-Identifier: MIT
use Rattle.std.specs.Prelude.{◌≡◌, ℕ, ◌+◌, ◌*◌, ◌≤◌, List, length}
use Rattle.imago_file.specs.Names.{path_beside}
use Rattle.imago_images.specs.declared.opening.OtherFiles.{OtherFiles}
use Rattle.imago_images.specs.Gate.{IsLetThrough}
use Rattle.imago_img_files.specs.declared.extents.ExtentFile.{ExtentFile}

-- what isn't a file whose length is told
abbrev pub HasNoLength : ExtentFile → Type 0
HasNoLength (ExtentFile.Length count) = ⊥
HasNoLength ExtentFile.Outside = Unit {0}
HasNoLength ExtentFile.NotAFile = Unit {0}
HasNoLength (ExtentFile.Refused answer) = Unit {0}

-- Under a name that the image of a path has, a file of some length is found only where it is let
-- through, and it has that length.
abbrev pub IsFound :
    OtherFiles → (List ℕ → List ℕ) → List ℕ → List ℕ → ExtentFile → Type 0
IsFound others files image name (ExtentFile.Length count) =
    IsLetThrough others image (path_beside image name)
    × (count ≡ length (files (path_beside image name)))
IsFound others files image name ExtentFile.Outside = Unit {0}
IsFound others files image name ExtentFile.NotAFile = Unit {0}
IsFound others files image name (ExtentFile.Refused answer) = Unit {0}

-- a file of known length holds so many sectors of 512 bytes from one on
abbrev pub HoldsSectors : ℕ → ℕ → ExtentFile → Type 0
HoldsSectors offset sectors (ExtentFile.Length count) = (offset + sectors) * 512 ≤ count
HoldsSectors offset sectors ExtentFile.Outside = ⊥
HoldsSectors offset sectors ExtentFile.NotAFile = ⊥
HoldsSectors offset sectors (ExtentFile.Refused answer) = ⊥
