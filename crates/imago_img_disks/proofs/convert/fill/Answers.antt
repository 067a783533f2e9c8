-- SPDX-License-Identifier: MIT
use Rattle.imago_any_driver.specs.AnyDriver.{view_over}
use Rattle.imago_file.specs.StorageParts.{faults_of}
use Rattle.imago_disk.specs.Disk.{image_of, format_of}
use Rattle.imago_images.proofs.PathSteps.{features_of, bytes_of}
use Rattle.imago_img_disks.proofs.Disks.{appended_disk}
use Rattle.imago_img_disks.proofs.Overwritten.{nothing_appended, on_refusal, partly_appended}
use Rattle.imago_img_disks.proofs.convert.fill.Goals as goal

pub returns-in-Ok-clause-filled : goal.returns-in-Ok-clause-filled
returns-in-Ok-clause-filled g c =
    let contents = g.H.Files.contents in
    let opened = g.H.File.HostFile.contents in
    appended_disk (view_over (features_of contents opened) faults_of (bytes_of contents opened)) c.args.how (contents c.args.host.now) c.args.from.now
    (format_of c.in_ok-disk.disk) (image_of c.in_ok-disk.disk) _ _ c.in_ok-disk.ensures.format
    c.in_ok-disk.ensures.image c.in-Ok.ensures.put

pub returns-in_err-disk-clause-refused : goal.returns-in_err-disk-clause-refused
returns-in_err-disk-clause-refused g c =
    on_refusal _ _ (nothing_appended c.args.how
    (g.H.Files.contents c.args.host.now) c.args.from.now (g.T.Target.contents c.args.target.now))

pub returns-in_err-buf-clause-refused : goal.returns-in_err-buf-clause-refused
returns-in_err-buf-clause-refused g c =
    on_refusal _ _ (nothing_appended c.args.how
    (g.H.Files.contents c.args.host.now) c.args.from.now (g.T.Target.contents c.args.target.now))

pub returns-in-Err-Image-clause-refused : goal.returns-in-Err-Image-clause-refused
returns-in-Err-Image-clause-refused g c =
    let contents = g.H.Files.contents in
    let opened = g.H.File.HostFile.contents in
    partly_appended c.args.how
    (view_over (features_of contents opened) faults_of (bytes_of contents opened)) (contents c.args.host.now)
    c.args.from.now (format_of c.in_ok-disk.disk) (image_of c.in_ok-disk.disk) (g.T.Target.contents c.args.target.now)
    (g.T.Target.contents c.copy_to.new.target) c.in_ok-disk.ensures.format c.in_ok-disk.ensures.image
    c.in-Err-Image.ensures.refused

pub returns-clause-refused : goal.returns-clause-refused
returns-clause-refused g c =
    let contents = g.H.Files.contents in
    let opened = g.H.File.HostFile.contents in
    partly_appended c.args.how
    (view_over (features_of contents opened) faults_of (bytes_of contents opened)) (contents c.args.host.now)
    c.args.from.now (format_of c.in_ok-disk.disk) (image_of c.in_ok-disk.disk) (g.T.Target.contents c.args.target.now)
    (g.T.Target.contents c.copy_to.new.target) c.in_ok-disk.ensures.format c.in_ok-disk.ensures.image
    c.in-Err-Target.ensures.refused
