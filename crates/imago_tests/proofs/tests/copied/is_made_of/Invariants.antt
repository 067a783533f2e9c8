-- SPDX-License-Identifier: MIT
use Rattle.imago.specs.RunsLeft.{IsReady}
use Rattle.imago_tests.proofs.tests.copied.is_made_of.Given as goal

abbrev pub invariant-loop-row : goal.invariant-loop-row
invariant-loop-row g l = IsReady g.D.FormatDriverInstance.view l.runs
