-- SPDX-License-Identifier: MIT
use Rattle.imago_img_disks.proofs.Resizes.{image_resized}
use Rattle.imago_img_disks.proofs.resize.resize_image.Goals as goal

pub returns-in-Ok-clause-resized : goal.returns-in-Ok-clause-resized
returns-in-Ok-clause-resized g c =
    let contents = g.H.Files.contents in
    image_resized c.args.asked (contents c.args.host.now) (contents c.set_length.new.self) c.in_ok-size.size
    c.in_ok-size.ensures.size c.in-Ok.ensures.resized
