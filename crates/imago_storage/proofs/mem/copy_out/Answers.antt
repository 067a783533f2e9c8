-- SPDX-License-Identifier: MIT
use Rattle.std.proofs.Common.{arith}
use Rattle.std.proofs.lemmas.List.{places}
use Rattle.imago_storage.proofs.mem.copy_out.Goals as goal

pub returns : goal.returns
returns c = grind (arith, places)
