-- SPDX-License-Identifier: MIT
use Rattle.std.proofs.Common.{arith}
use Rattle.std.proofs.lemmas.Grind.{common_steps}
use Rattle.imago_drivers.proofs.raw.RawFormatDriverInstance.probe.Goals as goal

pub returns-clause-refusals : goal.returns-clause-refusals
returns-clause-refusals g c = grind (arith, common_steps)
