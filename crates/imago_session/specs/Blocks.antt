-- What is in memory of a file, block by block.
-- SPDX-License-Identifier: MIT
use Rattle.std.specs.Prelude.{◌≡◌, ℕ, ◌*◌, ◌<◌, List, length}
use Rattle.imago_session.specs.declared.loaded.LoadedFile.{LoadedFile}
use Rattle.imago_session.specs.Loaded.{file_length, block_length, HasBytesOf, IsThere}

-- the block of that number isn't in memory, and begins inside the file
abbrev pub IsMissing : LoadedFile → ℕ → Type 0
IsMissing f n = (n * block_length f < file_length f) × (IsThere f n → ⊥)

-- What is in memory are bytes of that file, which is as long.
abbrev pub IsPartOf : List ℕ → LoadedFile → Type 0
IsPartOf bytes f = HasBytesOf bytes f × (length bytes ≡ file_length f)
