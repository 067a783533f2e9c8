-- SPDX-License-Identifier: MIT
use Rattle.std.specs.Prelude.{slice_index}
use Rattle.imago_qcow2_check.specs.Compared.{IsCompared}
use Rattle.imago_qcow2_check.proofs.blocks.compare.Given as goal

abbrev pub invariant-loop-index : goal.invariant-loop-index
invariant-loop-index l = IsCompared (slice_index l.counts) (slice_index l.initial.tally.uses.items) l.index l.initial.tally l.tally
