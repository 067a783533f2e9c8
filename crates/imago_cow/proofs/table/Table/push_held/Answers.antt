-- SPDX-License-Identifier: MIT
use Rattle.imago_cow.proofs.HeldSteps.{held_small}
use Rattle.imago_cow.proofs.table.Table.push_held.Goals as goal

pub push-requires-clause-small : goal.push-requires-clause-small
push-requires-clause-small c = held_small c.args.self.now c.in-Some.block c.in-Some.is
