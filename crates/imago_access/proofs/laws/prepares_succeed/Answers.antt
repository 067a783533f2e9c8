-- SPDX-License-Identifier: MIT
use Rattle.imago_access.proofs.Successes.{mapped_succeeds}
use Rattle.imago_access.proofs.laws.prepares_succeed.Goals as goal

pub returns : goal.returns
returns g c = λ old new o n result ready h. mapped_succeeds g.D.FormatDriverInstance.view old new o n result ready h.faults h.refusals
