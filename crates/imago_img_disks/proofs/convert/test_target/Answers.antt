-- SPDX-License-Identifier: MIT
use Rattle.std.proofs.Common.{rules}
use Rattle.imago_any_driver.specs.AnyDriver.{view_over}
use Rattle.imago_file.specs.StorageParts.{faults_of}
use Rattle.imago_disk.specs.Disk.{image_of}
use Rattle.imago_images.proofs.PathSteps.{features_of, bytes_of}
use Rattle.imago_img_disks.proofs.Elsewhere.{is_there}
use Rattle.imago_img_disks.proofs.convert.test_target.Goals as goal

pub returns : goal.returns
returns g c =
    let contents = g.H.Files.contents in
    let opened = g.H.File.HostFile.contents in
    let host = c.args.host.now in
    is_there (view_over (features_of contents opened) faults_of (bytes_of contents opened)) (image_of c.args.disk.now)
    c.args.to.now (g.H.Files.statuses host) c.test_elsewhere.result c.in-Some.there (g.H.Host.around host) (search rules)
    c.test_elsewhere.ensures
