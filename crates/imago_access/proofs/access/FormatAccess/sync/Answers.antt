-- SPDX-License-Identifier: MIT
use Rattle.imago_access.proofs.SizeSteps.{flushed_image}
use Rattle.imago_access.proofs.access.FormatAccess.sync.Goals as goal

pub returns : goal.returns
returns g c =
    let r = c.sync in
    flushed_image g.D.FormatDriverInstance.view c.args.self.now r.new.self g.D.FormatDriverInstance.calls.synced r.result r.ensures
