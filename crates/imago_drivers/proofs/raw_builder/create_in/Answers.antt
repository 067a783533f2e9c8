-- SPDX-License-Identifier: MIT
use Rattle.std.proofs.Common.{arith}
use Rattle.std.proofs.lemmas.Grind.{common_steps}
use Rattle.imago_drivers.proofs.raw_builder.create_in.Goals as goal

pub returns-clause-created : goal.returns-clause-created
returns-clause-created g c = grind (arith, common_steps)
