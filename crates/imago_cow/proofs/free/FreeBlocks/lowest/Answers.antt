-- SPDX-License-Identifier: MIT
use Rattle.std.proofs.Common.{arith}
use Rattle.imago_cow.proofs.FreeSteps.{top_is_lowest, empty}
use Rattle.imago_cow.proofs.free.FreeBlocks.lowest.Goals as goal

pub returns-in-Some : goal.returns-in-Some
returns-in-Some c = top_is_lowest c.args.self.now c.in-Some.top.now _ (grind arith) c.in-Some.ensures.lookup c.other_end.ensures (c.in-Some.ensures.greatest c.args.self.now.ordered)

pub returns-in-None : goal.returns-in-None
returns-in-None c = empty c.args.self.now (grind arith) (grind arith)
