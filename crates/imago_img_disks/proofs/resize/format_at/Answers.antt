-- SPDX-License-Identifier: MIT
use Rattle.std.proofs.Common.{IfSome, Option, subst}
use Rattle.imago_images.proofs.PathSteps.{features_of, bytes_of}
use Rattle.imago_images.specs.declared.format.ImageFormat.{ImageFormat}
use Rattle.imago_images.specs.Formats.{IsFormatBy}
use Rattle.imago_img_files.proofs.FileSteps.{of_file}
use Rattle.imago_img_disks.proofs.resize.format_at.Goals as goal

pub returns : goal.returns
returns g c =
    let contents = g.H.Files.contents in
    let opened = g.H.File.HostFile.contents in
    let known = contents c.args.host.now in
    let path = c.args.path.now in
    let format = c.in_ok-format.format in
    let by : IfSome known (λ files. IsFormatBy c.said_format.result path (files path) format) =
    of_file (features_of contents opened) (bytes_of contents opened) known path c.in_ok-file.file
    (λ bytes. IsFormatBy c.said_format.result path bytes format) c.in_ok-format.ensures.told
    c.in_ok-file.ensures.told in
    subst (λ (said : Option ImageFormat). IfSome known (λ files. IsFormatBy said path (files path) format))
    c.said_format.ensures by
