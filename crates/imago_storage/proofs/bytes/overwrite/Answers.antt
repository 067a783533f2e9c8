-- SPDX-License-Identifier: MIT
use Rattle.std.proofs.Common.{arith}
use Rattle.std.proofs.lemmas.Grind.{common_steps}
use Rattle.imago_storage.specs.Bytes.{splice}
use Rattle.imago_storage.proofs.bytes.overwrite.Goals as goal

pub returns : goal.returns
unfolding splice
returns c = grind (arith, common_steps)
