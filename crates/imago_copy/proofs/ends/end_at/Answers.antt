-- SPDX-License-Identifier: MIT
use Rattle.imago_copy.proofs.EndSteps.{end_at_layer}
use Rattle.imago_copy.proofs.ends.end_at.Goals as goal

pub returns-in-Some : goal.returns-in-Some
returns-in-Some g c =
    end_at_layer g.D.FormatDriverInstance.view g.met.D.FormatDriverInstance.lawful c.args.image.now c.in-Some.layer.now c.args.depth c.args.storage c.storage_end.result c.in-Some.ensures c.storage_end.ensures
