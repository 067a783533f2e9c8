-- SPDX-License-Identifier: MIT
use Rattle.imago_access.proofs.SizeSteps.{flushed_image}
use Rattle.imago_access.proofs.access.FormatAccess.flush.Goals as goal

pub returns : goal.returns
returns g c =
    let r = c.flush in
    flushed_image g.D.FormatDriverInstance.view c.args.self.now r.new.self g.D.FormatDriverInstance.calls.flushed r.result r.ensures
