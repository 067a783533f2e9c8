-- SPDX-License-Identifier: MIT
use Rattle.imago_any_driver.specs.AnyDriver.{view_over}
use Rattle.imago_file.specs.StorageParts.{features_of, bytes_of, faults_of}
use Rattle.imago_images.specs.declared.format.ImageFormat.TheVariants as Of
use Rattle.imago_disk.proofs.Shown.{shows_told}
use Rattle.imago_disk.proofs.disk.open_to_write.Goals as goal

pub returns-clause-shows : goal.returns-clause-shows
returns-clause-shows g c =
    let opened = g.H.File.HostFile.contents in
    shows_told (view_over (features_of opened) faults_of (bytes_of opened)) c.args.how
    (g.H.Files.contents c.args.host.now) c.args.path.now Of.Raw c.in_ok-image.image c.in_ok-image.ensures.format
    c.in_ok-image.ensures.image
