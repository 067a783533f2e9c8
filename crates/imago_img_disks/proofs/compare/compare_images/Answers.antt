-- SPDX-License-Identifier: MIT
use Rattle.std.proofs.Common.{IfSome, subst}
use Rattle.imago_any_driver.specs.AnyDriver.{view_over}
use Rattle.imago_file.specs.StorageParts.{faults_of}
use Rattle.imago_disk.specs.Disk.{image_of, format_of}
use Rattle.imago_images.proofs.PathSteps.{features_of, bytes_of}
use Rattle.imago_images.specs.declared.format.ImageFormat.{ImageFormat}
use Rattle.imago_img_disks.specs.Disks.{ArePathsOfOne}
use Rattle.imago_img_disks.proofs.Disks.{compared_disks, compared_same}
use Rattle.imago_img_disks.proofs.compare.compare_images.Goals as goal

pub returns-in-Ok : goal.returns-in-Ok
returns-in-Ok g c =
    let contents = g.H.Files.contents in
    let opened = g.H.File.HostFile.contents in
    compared_disks (view_over (features_of contents opened) faults_of (bytes_of contents opened)) c.args.how
    c.args.other c.args.same_size c.said_of_second.result c.said_of_second.ensures (contents c.args.host.now) c.args.first.now
    c.args.second.now (format_of c.in_ok-left.left) (format_of c.in_ok-right.right) (image_of c.in_ok-left.left) (image_of c.in_ok-right.right)
    c.in_ok-size.size c.in_ok-other_size.other_size c.leaves_out.result
    c.in-Ok.difference c.in_ok-size.ensures c.in_ok-other_size.ensures c.leaves_out.ensures
    c.in_ok-left.ensures.format c.in_ok-left.ensures.image
    c.in_ok-right.ensures.format c.in_ok-right.ensures.image c.in-Ok.ensures

pub returns-then-are_paths_of_one : goal.returns-then-are_paths_of_one
returns-then-are_paths_of_one g c =
    let contents = g.H.Files.contents in
    let opened = g.H.File.HostFile.contents in
    let known = contents c.args.host.now in
    let left = c.in_ok-left.left in
    let one : ImageFormat → Type 0 = λ f. IfSome known
    (λ files. ArePathsOfOne files c.args.first.now c.args.second.now f) in
    compared_same (view_over (features_of contents opened) faults_of (bytes_of contents opened)) c.args.how c.args.other
    c.args.same_size known c.args.first.now
    c.args.second.now (format_of left) (image_of left) c.in_ok-size.size c.in_ok-size.ensures
    (c.are_said_alike.ensures c.if-are_said_alike.true)
    (subst one c.format.ensures (c.are_paths_of_one.ensures c.if-are_paths_of_one.true))
    c.in_ok-left.ensures.format c.in_ok-left.ensures.image
