-- SPDX-License-Identifier: MIT
use Rattle.std.proofs.Common.{inl}
use Rattle.imago_img_disks.proofs.measure.full_length.Goals as goal

pub returns-in-Ok : goal.returns-in-Ok
returns-in-Ok c = inl (c.in-Ok.layout, c.in-Ok.ensures.layout, c.file_length.ensures)
