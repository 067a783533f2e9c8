-- SPDX-License-Identifier: MIT
use Rattle.imago_qcow2_new.proofs.Images.{whole_in}
use Rattle.imago_qcow2_new.proofs.file.write_file.Goals as goal

pub returns-clause-written : goal.returns-clause-written
returns-clause-written g c = λ empty tells.
    let contents = g.T.Target.contents in
    whole_in g.D.FormatDriverInstance.view c.args.image.now c.args.format c.in_ok-layout.layout
    (contents c.args.target.now) (contents c.write_image.new.target) c.in_ok-layout.ensures.layout
    c.in_ok-layout.ensures.names (c.in_ok-layout.ensures.sparse tells) (c.in_ok-write_image.ensures.written empty tells)
