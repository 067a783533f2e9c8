-- SPDX-License-Identifier: MIT
use Rattle.std.proofs.Common.{List, ℕ}
use Rattle.imago_images.proofs.PathSteps.{features_of, bytes_of}
use Rattle.imago_img_files.specs.Described.{IsDescribed}
use Rattle.imago_img_files.proofs.FileSteps.{of_file}
use Rattle.imago_img_files.proofs.info.info.Goals as goal

pub returns : goal.returns
returns g c =
    let contents = g.H.Files.contents in
    let opened = g.H.File.HostFile.contents in
    let report = c.in_ok-report.report in
    let (text, appended, told) = c.in_ok-tell_images.ensures in (
      text,
      appended,
      of_file (features_of contents opened) (bytes_of contents opened) (contents c.args.host.now) c.args.path.now c.in_ok-file.file
          (λ bytes. IsDescribed c.args.how c.args.asked.json c.args.path.now bytes text)
          (λ bytes has. record {
            format = report.format;
            size = report.size;
            found = c.in_ok-report.ensures bytes has;
            told = told;
          })
          c.in_ok-file.ensures.told,
    )
