-- SPDX-License-Identifier: MIT
use Rattle.std.proofs.Common.{rules}
use Rattle.imago_images.proofs.LookedSteps.{put_or_not}
use Rattle.imago_images.proofs.gate.keep_status.Goals as goal

pub returns-in-Ok : goal.returns-in-Ok
returns-in-Ok c =
    put_or_not c.insert.result c.in-Ok.key c.args.path.now c.args.status c.args.looked.now c.insert.new.self
    (search rules) c.insert.ensures.updates c.insert.ensures.err
