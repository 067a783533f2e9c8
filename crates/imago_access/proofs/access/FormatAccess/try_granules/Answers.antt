-- SPDX-License-Identifier: MIT
use Rattle.std.proofs.Common.{sym, ◌∙◌}
use Rattle.imago_access.proofs.ZeroLoops.{granules_done}
use Rattle.imago_access.proofs.access.FormatAccess.try_granules.Goals as goal

pub returns-in-Some-clause-zeroed : goal.returns-in-Some-clause-zeroed
returns-in-Some-clause-zeroed g c =
    let start = c.first_granule-start in
    let end = c.last_granule-end in
    granules_done g.D.FormatDriverInstance.view c.in-Some.granule c.args.offset c.args.count
    start.result end.result c.args.self.now c.zero_granules.new.self
    (sym c.zero_granularity.ensures ∙ c.in-Some.is)
    (record {
      some = c.requires.some;
      head = start.ensures.one_granule;
      tail = end.ensures.one_granule;
    })
    start.ensures.zero end.ensures.zero c.zero_granules.ensures.zeroed
