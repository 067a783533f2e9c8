-- SPDX-License-Identifier: MIT
use Rattle.std.proofs.Common.{arith}
use Rattle.std.proofs.lemmas.Grind.{common_steps}
use Rattle.imago_qcow2.proofs.compressed.unpack.Goals as goal

pub returns : goal.returns
returns c = grind (arith, common_steps)
