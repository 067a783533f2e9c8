-- What is made of a file of which some blocks are in memory.
-- SPDX-License-Identifier: MIT
use Rattle.std.specs.Prelude.{◌≡◌, ℕ, ◌-◌, ◌*◌, List, map, min}
use Rattle.std.specs.String.{string_bytes}
use Rattle.imago_session.specs.declared.permitted.Permitted.{Permitted}
use Rattle.imago_storage.specs.Bytes.{bytes_at}
use Rattle.imago_session.specs.declared.loaded.LoadedFile.{LoadedFile}
use Rattle.imago_session.specs.Loaded.{file_length, block_length, Loads}
use Rattle.imago_session.specs.declared.loading.Loading.{Loading}
use Rattle.imago_session.specs.declared.layer.Found.{Found}
use Rattle.imago_session.specs.declared.layer.Found.TheVariants as F
use Rattle.imago_session.specs.Blocks.{IsPartOf}
use Rattle.imago_session.specs.Known.{AreKnownOf}
use Rattle.imago_session.specs.Files.{File, IsLayerOf, extent_names}

-- what is in memory is of that file, which is opened as its caller says
abbrev pub IsLoadingOf : Permitted → File → Loading → Type 0
IsLoadingOf permitted f l =
    IsPartOf f.bytes l.file × (f.format ≡ l.format)
    × AreKnownOf permitted.tables f.bytes l.file l.tables

-- what was found is of that file
abbrev pub IsFoundOf : Permitted → File → Found → Type 0
IsFoundOf permitted f (F.Loading l) = IsLoadingOf permitted f l
IsFoundOf permitted f (F.Layer d names) =
    IsLayerOf permitted d f × (map string_bytes names.items ≡ extent_names d f.bytes)

-- where the block that a file asks for begins in the file, and how many bytes it has there
abbrev pub block_start : Loading → ℕ
block_start l = l.number * block_length l.file

abbrev pub block_count : Loading → ℕ
block_count l = min (block_length l.file) (file_length l.file - block_start l)

-- these are its bytes
abbrev pub IsBlockGiven : List ℕ → Loading → List ℕ → Type 0
IsBlockGiven bytes l block = block ≡ bytes_at bytes (block_start l) (block_count l)

-- what was made of a file is a layer, or the same file still
abbrev pub IsFoundIn : LoadedFile → Found → Type 0
IsFoundIn file (F.Loading l) = l.file ≡ file
IsFoundIn file (F.Layer d names) = Unit {0}

-- it is a layer, or the file with its block, and with all that was there before
abbrev pub IsFurther : Loading → Found → Type 0
IsFurther old (F.Loading l) = Loads old.file l.file old.number
IsFurther old (F.Layer d names) = Unit {0}
