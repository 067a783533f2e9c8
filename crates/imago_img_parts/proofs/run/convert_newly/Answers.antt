-- SPDX-License-Identifier: MIT
use Rattle.imago_img_parts.proofs.ConvertedSteps.{converted_raw, converted_qcow2}
use Rattle.imago_img_parts.proofs.run.convert_newly.Goals as goal

pub returns-in-Raw-clause-converted : goal.returns-in-Raw-clause-converted
returns-in-Raw-clause-converted g c =
    let contents = g.H.Files.contents in
    let around = g.H.Host.around in
    converted_raw c.args.how c.args.asked (g.H.Files.statuses c.args.host.now) (g.H.Host.left_overs c.args.host.now)
    (contents c.args.host.now) (contents c.convert_image.new.host)
    (around c.args.host.now) (around c.convert_image.new.host) c.convert_image.result c.in-Raw.is
    c.convert_image.ensures.converted c.convert_image.ensures.unheld
    c.convert_image.ensures.outside

pub returns-in-Qcow2-clause-converted : goal.returns-in-Qcow2-clause-converted
returns-in-Qcow2-clause-converted g c =
    let contents = g.H.Files.contents in
    let around = g.H.Host.around in
    converted_qcow2 c.args.how c.args.asked (g.H.Files.statuses c.args.host.now) (g.H.Host.left_overs c.args.host.now)
    (contents c.args.host.now) (contents c.convert_to_qcow2.new.host)
    (around c.args.host.now) (around c.convert_to_qcow2.new.host) c.convert_to_qcow2.result c.in-Qcow2.settings
    c.qcow2_of-new.result c.qcow2_of-new.ensures.format c.qcow2_of-new.ensures.all c.in-Qcow2.is c.convert_to_qcow2.ensures.converted
    c.convert_to_qcow2.ensures.unheld c.convert_to_qcow2.ensures.outside
