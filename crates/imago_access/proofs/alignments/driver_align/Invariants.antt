-- SPDX-License-Identifier: MIT
use Rattle.imago_access.specs.Alignments.{IsGreatest, HasStorage, align_of}
use Rattle.imago_access.proofs.alignments.driver_align.Given as goal

abbrev pub invariant-loop-index : goal.invariant-loop-index
invariant-loop-index g l = IsGreatest (HasStorage (align_of l.which) (g.D.FormatDriverInstance.view l.driver).stores.features l.index) l.greatest
