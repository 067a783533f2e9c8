-- SPDX-License-Identifier: MIT
use Rattle.std.proofs.Common.{arith}
use Rattle.std.proofs.lemmas.Grind.{common_steps}
use Rattle.imago_storage.proofs.request.discard_any.Goals as goal

pub returns-in-Err-Unsupported : goal.returns-in-Err-Unsupported
returns-in-Err-Unsupported g c = grind (arith, common_steps)

pub returns-in_default-pure_discard : goal.returns-in_default-pure_discard
returns-in_default-pure_discard g c = grind (arith, common_steps)
