-- SPDX-License-Identifier: MIT
use Rattle.imago_img_disks.proofs.NewFiles.{filled_zeroes}
use Rattle.imago_img_disks.proofs.create.put_zeroes.Goals as goal

pub returns-in-Ok-clause-put : goal.returns-in-Ok-clause-put
returns-in-Ok-clause-put g c = λ empty.
    filled_zeroes c.args.count (g.T.Target.contents c.args.target) (g.T.Target.contents c.append_zeroes.new.self)
    empty c.in-Ok.ensures.appended
