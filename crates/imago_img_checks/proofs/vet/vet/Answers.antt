-- SPDX-License-Identifier: MIT
use Rattle.std.specs.Prelude.{Decides}
use Rattle.imago_images.proofs.PathSteps.{features_of, bytes_of}
use Rattle.imago_img_checks.specs.Vetted.{IsVetted}
use Rattle.imago_img_files.proofs.FileSteps.{of_file}
use Rattle.imago_img_checks.proofs.vet.vet.Goals as goal

pub returns : goal.returns
returns g c =
    let contents = g.H.Files.contents in
    let opened = g.H.File.HostFile.contents in
    of_file (features_of contents opened) (bytes_of contents opened) (contents c.args.host.now) c.args.path.now c.in_ok-file.file
    (λ bytes. Decides c.in_ok-safe.safe (IsVetted c.args.how c.args.path.now bytes)) c.in_ok-safe.ensures c.in_ok-file.ensures.told
