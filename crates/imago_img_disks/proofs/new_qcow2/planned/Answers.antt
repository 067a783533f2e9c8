-- SPDX-License-Identifier: MIT
use Rattle.imago_any_driver.specs.AnyDriver.{view_over}
use Rattle.imago_file.specs.StorageParts.{faults_of}
use Rattle.imago_disk.specs.Disk.{image_of, format_of}
use Rattle.imago_images.proofs.PathSteps.{features_of, bytes_of}
use Rattle.std.proofs.Common.{Ok}
use Rattle.imago_img_disks.proofs.Elsewhere.{source_at}
use Rattle.imago_img_disks.proofs.NewFiles.{layout_there}
use Rattle.imago_img_disks.proofs.new_qcow2.planned.Goals as goal

pub returns-clause-outside : goal.returns-clause-outside
returns-clause-outside g c =
    let contents = g.H.Files.contents in
    let opened = g.H.File.HostFile.contents in
    let host = c.args.host.now in
    source_at (view_over (features_of contents opened) faults_of (bytes_of contents opened)) c.args.how
    (contents host) c.args.from.now c.args.to.now (format_of c.in_ok-disk.disk) (image_of c.in_ok-disk.disk)
    (g.H.Files.statuses host) (g.H.Host.around host) c.in_ok-disk.ensures.format c.in_ok-disk.ensures.files
    c.in_ok-test_copy.ensures

pub returns-clause-layout : goal.returns-clause-layout
returns-clause-layout g c =
    let contents = g.H.Files.contents in
    let opened = g.H.File.HostFile.contents in
    let disk = c.in_ok-disk.disk in
    let new = c.args.new in
    layout_there c.args.how c.args.from.now {E = Unit {0}} (view_over (features_of contents opened) faults_of (bytes_of contents opened)) new.format new.all
    (contents c.args.host.now) (format_of disk) (image_of disk) (λ l. l) (Ok c.in_ok-layout.layout) c.in_ok-disk.ensures.format c.in_ok-disk.ensures.image
    c.in_ok-layout.ensures.layout c.in_ok-layout.ensures.names c.in_ok-layout.ensures.all c.in_ok-layout.ensures.sparse
