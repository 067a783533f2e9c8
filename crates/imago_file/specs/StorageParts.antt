-- What is seen of a storage over a file, by what the file holds.
-- SPDX-License-Identifier: MIT
use Rattle.std.specs.Prelude.{ℕ, List, Option, is_some, option_map}
use Rattle.std.specs.String.{string_bytes}
use Rattle.imago_storage.specs.Features.{Features}
use Rattle.imago_file.specs.Contents.{told_bytes}
use Rattle.imago_file.specs.Features.{file_features}
use Rattle.imago_file.specs.declared.file.FileStorage.{FileStorage}

-- the file
abbrev pub file_of : {F : Type 0} {g : _} → FileStorage F g → F
file_of s = s.file

-- what never changes in it
abbrev pub features_of : {F : Type 0} {g : _} → (F → Option (List ℕ)) → FileStorage F g → Features
features_of contents s =
    file_features (option_map string_bytes s.name) s.writable (is_some (contents s.file))

-- the bytes that it shows
abbrev pub bytes_of : {F : Type 0} {g : _} → (F → Option (List ℕ)) → FileStorage F g → List ℕ
bytes_of contents s = told_bytes (contents s.file) s.length

-- how many exclusive calls were refused
abbrev pub faults_of : {F : Type 0} {g : _} → FileStorage F g → ℕ
faults_of s = s.faults
