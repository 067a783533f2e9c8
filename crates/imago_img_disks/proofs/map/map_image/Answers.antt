-- SPDX-License-Identifier: MIT
use Rattle.std.proofs.Common.{rules, IfSome, OnOk}
use Rattle.imago_any_driver.specs.AnyDriver.{view_over}
use Rattle.imago_file.specs.StorageParts.{faults_of}
use Rattle.imago_disk.specs.Disk.{image_of, format_of}
use Rattle.imago_images.proofs.PathSteps.{features_of, bytes_of}
use Rattle.imago_img_files.specs.Printed.{HasPrinted}
use Rattle.imago_img_files.proofs.PrintedSteps.{on_ok}
use Rattle.imago_img_disks.specs.Rows.{TellsMap}
use Rattle.imago_img_disks.proofs.RowSteps.{map_told}
use Rattle.imago_img_disks.proofs.map.map_image.Goals as goal

pub returns-in-Ok : goal.returns-in-Ok
returns-in-Ok g c =
    let contents = g.H.Files.contents in
    let opened = g.H.File.HostFile.contents in
    let host = c.args.host.now in
    let disk = c.in_ok-disk.disk in
    let path = c.args.path.now in
    let told : OnOk c.in-Ok.printed (HasPrinted (λ text. IfSome (contents host) (λ files. TellsMap c.args.how c.args.json files path text))
    (g.W.Write.contents c.args.output.now) (g.W.Write.contents c.print_image.new.output))
    = on_ok c.in-Ok.printed (λ p. (
      p.0,
      p.1,
      map_told (view_over (features_of contents opened) faults_of (bytes_of contents opened)) c.args.how c.args.json (contents host)
          path p.0 (format_of disk) (image_of disk) c.in_ok-disk.ensures.format c.in_ok-disk.ensures.image p.2,
    )) c.in-Ok.ensures in
    search (rules, told)
