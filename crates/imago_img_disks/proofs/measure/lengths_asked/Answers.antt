-- SPDX-License-Identifier: MIT
use Rattle.imago_words.specs.declared.command.Measured.TheVariants as M
use Rattle.imago_qcow2_new.specs.Layout.{StoresNothing}
use Rattle.imago_img_disks.specs.Measures.{AreLengths}
use Rattle.imago_img_disks.proofs.Measures.{lengths_of, of_any_files}
use Rattle.imago_img_disks.proofs.measure.lengths_asked.Goals as goal

pub returns-in-File : goal.returns-in-File
returns-in-File g c =
    lengths_of (λ x. x.required) (λ x. x.full) c.lengths_of_file.result c.args.asked (g.H.Files.contents c.args.host.now) (M.File c.in-File.file)
    c.in-File.is c.lengths_of_file.ensures

pub returns-in-Size : goal.returns-in-Size
returns-in-Size g c =
    lengths_of (λ x. x.required) (λ x. x.full) c.lengths_of_size.result c.args.asked (g.H.Files.contents c.args.host.now) (M.Size c.in-Size.size)
    c.in-Size.is
    (of_any_files (λ x. AreLengths c.args.asked.target_format StoresNothing c.in-Size.size x.required x.full) c.lengths_of_size.result
    (g.H.Files.contents c.args.host.now) c.lengths_of_size.ensures)
