-- The bytes of a host's files, as files and storages show them.
-- SPDX-License-Identifier: MIT
use Rattle.std.specs.Prelude.{◌≡◌, ◌≢◌, ℕ, List, Option, option_map, IsTrue, IfSome}
use Rattle.imago_storage.specs.Features.{Features}
use Rattle.imago_file.specs.Contents.{resized}

-- The first bytes of the file of a path, as many as are shown, where a host tells what its files
-- hold.
abbrev pub shown_bytes : Option (List ℕ → List ℕ) → List ℕ → ℕ → Option (List ℕ)
shown_bytes contents path n = resized (option_map (λ files. files path) contents) n

-- a storage tells its bytes, which are these
abbrev pub HasBytes : {S : Type 0} → (S → Features) → (S → List ℕ) → List ℕ → S → Type 0
HasBytes features bytes held s = IsTrue (features s).tells_bytes × (bytes s ≡ held)

-- A host tells the same as before of all files but that of a path, of which nothing is said.
abbrev pub SaysAlike : Option (List ℕ → List ℕ) → (List ℕ → List ℕ) → List ℕ → Type 0
SaysAlike known before path =
    IfSome known (λ files. (other : List ℕ) → other ≢ path → files other ≡ before other)
