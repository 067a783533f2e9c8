-- SPDX-License-Identifier: MIT
use Rattle.imago_qcow2_check.specs.TallyParts.{between}
use Rattle.imago_qcow2_check.specs.Tallies.{AddsUses}
use Rattle.imago_qcow2_check.proofs.tally.count_uses.Given as goal

abbrev pub invariant-loop-n : goal.invariant-loop-n
invariant-loop-n l = AddsUses l.initial.uses l.uses (between l.first l.n)
