-- SPDX-License-Identifier: MIT
use Rattle.imago_any_driver.specs.AnyDriver.{view_over}
use Rattle.imago_file.specs.StorageParts.{faults_of}
use Rattle.imago_disk.specs.Disk.{image_of, format_of}
use Rattle.imago_images.proofs.PathSteps.{features_of, bytes_of}
use Rattle.imago_img_disks.proofs.NewFiles.{copied}
use Rattle.imago_img_disks.proofs.new_qcow2.write.Goals as goal

pub returns-in-Ok-clause-written : goal.returns-in-Ok-clause-written
returns-in-Ok-clause-written g c = λ empty.
    let contents = g.H.Files.contents in
    let opened = g.H.File.HostFile.contents in
    copied c.args.how c.args.from.now
    (view_over (features_of contents opened) faults_of (bytes_of contents opened)) c.args.layout.now
    (contents c.args.host.now) (format_of c.in_ok-disk.disk) (image_of c.in_ok-disk.disk) _ _ c.in_ok-disk.ensures.format
    c.in_ok-disk.ensures.image c.in-Ok.ensures.size (c.in-Ok.ensures.written empty)
