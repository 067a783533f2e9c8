-- SPDX-License-Identifier: MIT
use Rattle.std.proofs.Common.{◌≡◌, map, take}
use Rattle.imago_c.specs.Plan.{piece_record}
use Rattle.imago_c.proofs.plan.records.Given as goal

abbrev pub invariant-loop-piece : goal.invariant-loop-piece
invariant-loop-piece l = l.records.items ≡ map piece_record (take l.piece-index l.pieces)
