-- SPDX-License-Identifier: MIT
use Rattle.std.proofs.Common.{inr}
use Rattle.imago_img_disks.proofs.measure.length_of_grown.Goals as goal

pub returns-in-Ok : goal.returns-in-Ok
returns-in-Ok c = inr (c.in-Ok.ensures.value, c.in-Ok.ensures.long)
