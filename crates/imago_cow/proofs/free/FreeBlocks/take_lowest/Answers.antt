-- SPDX-License-Identifier: MIT
use Rattle.std.proofs.Common.{arith}
use Rattle.imago_cow.proofs.FreeSteps.{without, top_is_lowest, empty}
use Rattle.imago_cow.proofs.free.FreeBlocks.take_lowest.Goals as goal

pub returns-in-Some-clause-lowest : goal.returns-in-Some-clause-lowest
returns-in-Some-clause-lowest c = top_is_lowest c.args.self.now c.in-Some.top _ (grind arith) c.in-Some.ensures.top c.other_end.ensures (c.in-Some.ensures.heap_order c.args.self.now.ordered).1

pub returns-in-Some-clause-taken : goal.returns-in-Some-clause-taken
returns-in-Some-clause-taken c = without c.in-Some.top c.other_end.result c.args.self.now _ c.other_end.ensures c.in-Some.ensures.permutation c.in-Some.ensures.len

pub returns-in-None-clause-lowest : goal.returns-in-None-clause-lowest
returns-in-None-clause-lowest c = empty c.args.self.now (grind arith) (grind arith)
