-- SPDX-License-Identifier: MIT
use Rattle.imago_cow.proofs.BlockSteps.{power_at}
use Rattle.imago_cow.proofs.block.BlockSize.new.Goals as goal

pub invariant_of-result-clause-power : goal.invariant_of-result-clause-power
invariant_of-result-clause-power c = power_at c.args.bytes c.ilog2.result c.requires c.ranges.bytes.fits c.ilog2.ensures.power_le c.ilog2.ensures.next_power_gt
