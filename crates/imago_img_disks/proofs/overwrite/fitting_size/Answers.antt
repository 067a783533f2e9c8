-- SPDX-License-Identifier: MIT
use Rattle.imago_any_driver.specs.AnyDriver.{view_over}
use Rattle.imago_file.specs.StorageParts.{faults_of}
use Rattle.imago_disk.specs.Disk.{image_of, format_of}
use Rattle.imago_images.proofs.PathSteps.{features_of, bytes_of}
use Rattle.imago_img_disks.proofs.Disks.{sized}
use Rattle.imago_img_disks.proofs.Elsewhere.{source_at, told_there}
use Rattle.imago_img_disks.proofs.overwrite.fitting_size.Goals as goal

pub returns-clause-size : goal.returns-clause-size
returns-clause-size g c =
    let contents = g.H.Files.contents in
    let opened = g.H.File.HostFile.contents in
    sized (view_over (features_of contents opened) faults_of (bytes_of contents opened)) c.args.how (contents c.args.host.now) c.args.from.now
    (format_of c.in_ok-disk.disk) (image_of c.in_ok-disk.disk) c.in_ok-size.size c.in_ok-size.ensures
    c.in_ok-disk.ensures.format c.in_ok-disk.ensures.image

pub returns-clause-outside : goal.returns-clause-outside
returns-clause-outside g c =
    let contents = g.H.Files.contents in
    let opened = g.H.File.HostFile.contents in
    let host = c.args.host.now in
    let view = view_over (features_of contents opened) faults_of (bytes_of contents opened) in
    source_at view c.args.how (contents host) c.args.from.now c.args.to.now (format_of c.in_ok-disk.disk)
    (image_of c.in_ok-disk.disk) (g.H.Files.statuses host) (g.H.Host.around host)
    c.in_ok-disk.ensures.format c.in_ok-disk.ensures.files
    (told_there view (image_of c.in_ok-disk.disk) c.args.to.now (g.H.Files.statuses host) c.in_ok-there.there
    (g.H.Host.around host) c.in_ok-there.ensures.told c.in_ok-test_read.ensures)
