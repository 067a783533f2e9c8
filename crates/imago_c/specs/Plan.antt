-- SPDX-License-Identifier: MIT
use Rattle.std.specs.Prelude.{◌≡◌, ℕ, ◌⊎◌, Bool, List, map, Result, IsOk}
use Rattle.imago_storage.specs.declared.error.Error.{Error}
use Rattle.imago_storage.specs.declared.error.Error.TheVariants.{Memory}
use Rattle.imago_drivers.specs.Place.{Byte}
use Rattle.imago_access.specs.Disk.{values_from}
use Rattle.imago_vmdk.specs.Line.{keys_accepted}
use Rattle.imago_vmdk.specs.Disk.{described_value}
use Rattle.imago_plan.specs.declared.piece.Source.{Source}
use Rattle.imago_plan.specs.declared.piece.Source.TheVariants as S
use Rattle.imago_plan.specs.declared.piece.Piece.{Piece}
use Rattle.imago_plan.specs.PieceBytes.{plan_bytes}
use Rattle.imago_c.specs.declared.plan.PieceRecord.{PieceRecord}

-- which file has the bytes of a source, and where they begin in it: zeroes are in none
abbrev pub file_of : Source → ℕ
file_of S.Zero = 0
file_of (S.Stored from) = from.storage

abbrev pub offset_in : Source → ℕ
offset_in S.Zero = 0
offset_in (S.Stored from) = from.offset

-- a piece as a record
abbrev pub piece_record : Piece → PieceRecord
piece_record piece = record {
  at = piece.at;
  count = piece.count;
  file = file_of piece.source;
  offset = offset_in piece.source;
}

-- Pieces are where the disk that a descriptor describes stands: whatever bytes the files of its
-- extents have, the bytes of the pieces, one after another, are its first ones, that many.
abbrev pub IsPlanOf : Bool → List ℕ → ℕ → List Piece → Type 0
IsPlanOf accept text size pieces =
    (bytes : ℕ → ℕ → List ℕ) → bytes 0 0 ≡ text
    → values_from (described_value (keys_accepted accept) (bytes 0)) 0 size
    ≡ map Byte (plan_bytes bytes pieces)

-- why a descriptor has no plan beside its own fault: for want of memory, or because some byte of
-- its disk has no place that can be told
abbrev pub MayHaveNoPlan : {X : Type 0} → Result X Error → Error → Type 0
MayHaveNoPlan wanted e = (e ≡ Memory) ⊎ IsOk wanted
