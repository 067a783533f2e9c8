-- SPDX-License-Identifier: MIT
use Rattle.imago_drivers.specs.Place.{Byte}
use Rattle.imago_qcow2_new.proofs.Images.{image_in, zeroes_fill}
use Rattle.imago_qcow2_new.proofs.write.write_zeroes.Goals as goal

pub returns-clause-written : goal.returns-clause-written
returns-clause-written g c = λ empty.
    let old = g.T.Target.contents c.args.target.now in
    let head = g.T.Target.contents c.put_head.new.target in
    let tables = g.T.Target.contents c.put_tables.new.target in
    let new = g.T.Target.contents c.append_zeroes.new.self in
    image_in c.args.layout.now (λ _. Byte 0) old head tables new empty c.in_ok-put_head.ensures.put
    c.in_ok-put_tables.ensures.put
    (zeroes_fill c.args.layout.now tables new c.in_ok-append_zeroes.ensures.appended)
