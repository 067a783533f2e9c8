-- SPDX-License-Identifier: MIT
use Rattle.imago_img_disks.proofs.Resizes.{size_for}
use Rattle.imago_img_disks.proofs.resize.new_size.Goals as goal

pub returns-in-Ok-clause-size : goal.returns-in-Ok-clause-size
returns-in-Ok-clause-size g c =
    size_for c.args.asked (g.H.Files.contents c.args.host.now) c.in_ok-length.length c.in_ok-now.now c.in-Ok.size
    c.in_ok-length.ensures.length c.in_ok-test_raw.ensures c.in_ok-now.ensures c.in-Ok.ensures
