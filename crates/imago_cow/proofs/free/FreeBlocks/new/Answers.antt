-- SPDX-License-Identifier: MIT
use Rattle.std.proofs.Common.{arith}
use Rattle.imago_cow.proofs.FreeSteps.{empty}
use Rattle.imago_cow.proofs.free.FreeBlocks.new.Goals as goal

pub returns : goal.returns
returns c = empty _ (grind arith) (grind arith)
