-- SPDX-License-Identifier: MIT
use Rattle.imago_copy.specs.Differences.{AreSameBefore}
use Rattle.imago_copy.proofs.compare.first_unlike.Given as goal

abbrev pub invariant-loop-i : goal.invariant-loop-i
invariant-loop-i l = AreSameBefore l.left l.right l.i
