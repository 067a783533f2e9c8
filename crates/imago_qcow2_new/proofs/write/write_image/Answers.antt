-- SPDX-License-Identifier: MIT
use Rattle.imago_access.specs.Disk.{disk, value_at}
use Rattle.imago_qcow2_new.proofs.Images.{image_in}
use Rattle.imago_qcow2_new.proofs.write.write_image.Goals as goal

pub returns-clause-written : goal.returns-clause-written
returns-clause-written g c = λ empty tells.
    image_in c.args.layout.now (value_at (disk g.D.FormatDriverInstance.view c.args.image.now)) (g.T.Target.contents c.args.target.now) (g.T.Target.contents c.put_head.new.target) (g.T.Target.contents c.put_tables.new.target) (g.T.Target.contents c.put_disk.new.target)
    empty c.in_ok-put_head.ensures.put c.in_ok-put_tables.ensures.put (c.in_ok-put_disk.ensures.put tells)
