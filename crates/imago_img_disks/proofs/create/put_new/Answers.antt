-- SPDX-License-Identifier: MIT
use Rattle.imago_drivers.specs.Place.{Byte}
use Rattle.imago_img_disks.proofs.NewFiles.{filled_new}
use Rattle.imago_img_disks.proofs.create.put_new.Goals as goal

pub returns-in-Ok-clause-put : goal.returns-in-Ok-clause-put
returns-in-Ok-clause-put g c = λ empty.
    filled_new c.args.layout.now (λ _. Byte 0) (g.T.Target.contents c.args.target.now)
    (g.T.Target.contents c.write_zeroes.new.target) (c.in-Ok.ensures.written empty)
