-- What is seen of the file of a path.
-- SPDX-License-Identifier: MIT
use Rattle.std.specs.Prelude.{ℕ, Bool, true, false, List, Option}
use Rattle.std.specs.String.{string_bytes}
use Rattle.imago_images.specs.declared.file.Access.{Access}
use Rattle.imago_images.specs.declared.file.Access.TheVariants.{ByPath, Open}
use Rattle.imago_images.specs.declared.file.PathFile.{PathFile}
use Rattle.imago_images.specs.declared.files.FileStatus.{FileStatus}
use Rattle.imago_images.specs.HostBytes.{shown_bytes}

-- its path
abbrev pub file_path : {H File : Type 0} → PathFile H File → List ℕ
file_path f = string_bytes f.path

-- what it was when it was looked at
abbrev pub file_status : {H File : Type 0} → PathFile H File → FileStatus
file_status f = f.status

-- What is told of its bytes: by its path, as many as are shown of those that the host tells; where
-- it is open, what the open file tells.
abbrev pub reached_bytes :
    {File : Type 0} → (File → Option (List ℕ)) → Option (List ℕ → List ℕ) → List ℕ → Access File
    → Option (List ℕ)
reached_bytes contents known path (ByPath shown) = shown_bytes known path shown
reached_bytes contents known path (Open file) = contents file

-- whether it is open
abbrev pub is_open : {File : Type 0} → Access File → Bool
is_open (ByPath shown) = false
is_open (Open file) = true

-- whether it is open for writing too
abbrev pub is_to_write : {H File : Type 0} → PathFile H File → Bool
is_to_write f = is_open f.access
