-- The bytes that the pieces of a plan lead to, by the bytes of the storages.
-- SPDX-License-Identifier: MIT
use Rattle.std.specs.Prelude.{ℕ, List, replicate}
use Rattle.std.specs.List.{flat_map}
use Rattle.imago_storage.specs.Bytes.{bytes_at}
use Rattle.imago_plan.specs.declared.piece.Location.{Location}
use Rattle.imago_plan.specs.declared.piece.Source.{Source}
use Rattle.imago_plan.specs.declared.piece.Source.TheVariants as S
use Rattle.imago_plan.specs.declared.piece.Piece.{Piece}

-- the n bytes from there on, where the storages of each layer have these
abbrev pub bytes_from : (ℕ → ℕ → List ℕ) → Location → ℕ → List ℕ
bytes_from bytes from n = bytes_at (bytes from.layer from.storage) from.offset n

-- the first n bytes of a source
abbrev pub source_bytes : (ℕ → ℕ → List ℕ) → Source → ℕ → List ℕ
source_bytes bytes S.Zero n = replicate n 0
source_bytes bytes (S.Stored from) n = bytes_from bytes from n

-- the bytes of a piece
abbrev pub piece_bytes : (ℕ → ℕ → List ℕ) → Piece → List ℕ
piece_bytes bytes piece = source_bytes bytes piece.source piece.count

-- the bytes of pieces, one piece after the other
abbrev pub plan_bytes : (ℕ → ℕ → List ℕ) → List Piece → List ℕ
plan_bytes bytes pieces = flat_map (piece_bytes bytes) pieces
