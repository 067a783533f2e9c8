-- SPDX-License-Identifier: MIT
use Rattle.imago_any_driver.specs.AnyDriver.{view_over}
use Rattle.imago_file.specs.StorageParts.{faults_of}
use Rattle.imago_disk.specs.Disk.{image_of, format_of}
use Rattle.imago_images.proofs.PathSteps.{features_of, bytes_of}
use Rattle.imago_img_files.specs.Openings.{how_by}
use Rattle.imago_img_disks.proofs.Measures.{lengths_there}
use Rattle.imago_img_disks.proofs.measure.lengths_of_file.Goals as goal

pub returns : goal.returns
returns g c =
    let contents = g.H.Files.contents in
    let opened = g.H.File.HostFile.contents in
    lengths_there (view_over (features_of contents opened) faults_of (bytes_of contents opened)) (λ x. x.required) (λ x. x.full)
    c.how_to_open-how.result (how_by c.args.asked.source_format c.args.asked.opening) c.how_to_open-how.ensures
    (contents c.args.host.now) c.args.file.now (format_of c.in_ok-disk.disk) (image_of c.in_ok-disk.disk)
    c.args.asked.target_format c.lengths_of_disk.result c.in_ok-disk.ensures.format c.in_ok-disk.ensures.image
    c.lengths_of_disk.ensures
