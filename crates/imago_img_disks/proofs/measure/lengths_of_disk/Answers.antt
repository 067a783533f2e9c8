-- SPDX-License-Identifier: MIT
use Rattle.imago_img_disks.proofs.Measures.{qcow2_lengths}
use Rattle.imago_img_disks.proofs.measure.lengths_of_disk.Goals as goal

pub returns : goal.returns
returns g c =
    let layout = c.in_ok-layout.ensures in
    qcow2_lengths c.args.asked.target_format c.in-Qcow2.settings _ c.new_format.result c.in_ok-layout.layout _ c.in_ok-size.size
    c.file_length.result c.in_ok-full_length.field-0 c.in-Qcow2.is c.new_format.ensures c.in_ok-size.ensures layout.layout (layout.sparse, layout.all)
    c.file_length.ensures c.in_ok-full_length.ensures
