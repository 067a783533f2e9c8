-- SPDX-License-Identifier: MIT
use Rattle.imago_any_driver.specs.AnyDriver.{view_over}
use Rattle.imago_file.specs.StorageParts.{faults_of}
use Rattle.imago_images.proofs.PathSteps.{features_of, bytes_of}
use Rattle.imago_disk.proofs.Shown.{shows_told}
use Rattle.imago_disk.proofs.disk.Disk+PathStorage+H.open.Goals as goal

pub returns-clause-shows : goal.returns-clause-shows
returns-clause-shows g c =
    let contents = g.H.Files.contents in
    let opened = g.H.File.HostFile.contents in
    shows_told (view_over (features_of contents opened) faults_of (bytes_of contents opened)) c.args.how
    (contents c.args.host.now) c.args.path.now c.in_ok-format.format c.in_ok-format.image
    c.in_ok-format.ensures.format c.in_ok-format.ensures.image
