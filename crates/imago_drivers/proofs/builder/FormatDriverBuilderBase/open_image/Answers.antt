-- SPDX-License-Identifier: MIT
use Rattle.std.proofs.Common.{arith}
use Rattle.std.proofs.lemmas.Grind.{common_steps}
use Rattle.imago_drivers.proofs.builder.FormatDriverBuilderBase.open_image.Goals as goal

pub returns-in-Storage : goal.returns-in-Storage
returns-in-Storage g c = grind (arith, common_steps)
