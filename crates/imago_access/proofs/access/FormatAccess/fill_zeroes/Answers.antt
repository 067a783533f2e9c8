-- SPDX-License-Identifier: MIT
use Rattle.imago_access.proofs.ZeroLoops.{filled}
use Rattle.imago_access.proofs.access.FormatAccess.fill_zeroes.Goals as goal

pub returns-clause-zeroed : goal.returns-clause-zeroed
returns-clause-zeroed g c =
    filled g.D.FormatDriverInstance.view c.zero_as_data.result c.args.self.now c.try_granules.new.self c.zero_as_data.new.self c.args.offset c.args.count c.try_granules.ensures.zeroed c.zero_as_data.ensures.zeroed
