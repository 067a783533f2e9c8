-- SPDX-License-Identifier: MIT
use Rattle.std.proofs.Common.{arith}
use Rattle.std.proofs.lemmas.Grind.{common_steps}
use Rattle.imago_drivers.proofs.raw.RawFormatDriverInstance.ensure_zero_mapping.Goals as goal

pub returns-clause-call : goal.returns-clause-call
returns-clause-call g c = grind (arith, common_steps)
