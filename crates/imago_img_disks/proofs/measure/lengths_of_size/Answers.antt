-- SPDX-License-Identifier: MIT
use Rattle.std.proofs.Common.{refl}
use Rattle.imago_qcow2_new.specs.Layout.{StoresNothing}
use Rattle.imago_img_disks.specs.NewFiles.{format_by}
use Rattle.imago_img_disks.proofs.Measures.{qcow2_lengths}
use Rattle.imago_img_disks.proofs.measure.lengths_of_size.Goals as goal

pub returns : goal.returns
returns c =
    let layout = c.in_ok-layout.ensures in
    qcow2_lengths c.args.format c.in-Qcow2.settings StoresNothing (format_by c.in-Qcow2.settings) c.in_ok-layout.layout c.args.size c.args.size
    c.file_length.result c.in_ok-full_length.field-0 c.in-Qcow2.is refl refl layout.layout (layout.none, layout.all) c.file_length.ensures
    c.in_ok-full_length.ensures
