-- SPDX-License-Identifier: MIT
use Rattle.imago_access.specs.Alignments.{has_align, align_of}
use Rattle.imago_access.proofs.Greatest.{IsGreatestSoFar}
use Rattle.imago_access.proofs.access.FormatAccess.greatest_align.Given as goal

abbrev pub invariant-loop-layer : goal.invariant-loop-layer
invariant-loop-layer g l =
    let v = g.D.FormatDriverInstance.view in
    IsGreatestSoFar (has_align v (align_of l.which) l.fn.self) (has_align v (align_of l.which) l.layer) l.greatest
