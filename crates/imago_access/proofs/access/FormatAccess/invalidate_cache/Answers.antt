-- SPDX-License-Identifier: MIT
use Rattle.imago_access.proofs.SizeSteps.{flushed_image}
use Rattle.imago_access.proofs.access.FormatAccess.invalidate_cache.Goals as goal

pub returns : goal.returns
returns g c =
    let r = c.invalidate_cache in
    flushed_image g.D.FormatDriverInstance.view c.args.self.now r.new.self g.D.FormatDriverInstance.calls.invalidated r.result r.ensures
