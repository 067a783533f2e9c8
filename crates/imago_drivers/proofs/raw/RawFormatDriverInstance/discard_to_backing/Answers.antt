-- SPDX-License-Identifier: MIT
use Rattle.std.proofs.Common.{arith}
use Rattle.std.proofs.lemmas.Grind.{common_steps}
use Rattle.imago_drivers.proofs.raw.RawFormatDriverInstance.discard_to_backing.Goals as goal

pub returns-clause-call : goal.returns-clause-call
returns-clause-call g c = grind (arith, common_steps)

pub returns-clause-zeroed : goal.returns-clause-zeroed
returns-clause-zeroed g c = grind (arith, common_steps)

pub returns-clause-performed : goal.returns-clause-performed
returns-clause-performed g c = grind (arith, common_steps)
