-- SPDX-License-Identifier: MIT
use Rattle.std.proofs.Common.{arith}
use Rattle.std.proofs.lemmas.Grind.{common_steps}
use Rattle.imago_storage.proofs.ext.AnyStorageExt.discard.Goals as goal

pub returns : goal.returns
returns g c = grind (arith, common_steps)
