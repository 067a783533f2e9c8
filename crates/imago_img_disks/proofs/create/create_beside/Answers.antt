-- SPDX-License-Identifier: MIT
use Rattle.std.proofs.Common.{◌≡◌, replicate}
use Rattle.std.specs.Int.{next_multiple_of}
use Rattle.imago_words.specs.declared.settings.NewFormat.TheVariants as New
use Rattle.imago_img_disks.specs.NewFiles.{IsEmptyFile, IsNewImage}
use Rattle.imago_img_disks.proofs.NewFiles.{new_image, newly_made}
use Rattle.imago_img_disks.proofs.create.create_beside.Goals as goal

pub returns-in-Raw-clause-created : goal.returns-in-Raw-clause-created
returns-in-Raw-clause-created g c =
    let contents = g.H.Files.contents in
    let around = g.H.Host.around in
    let asked = c.args.asked in
    let size = c.in_ok-size.size in
    newly_made (λ files file. file ≡ replicate (next_multiple_of size 512) 0) (IsNewImage asked)
    (contents c.args.host.now) (new_image asked size (contents c.args.host.now) New.Raw c.in-Raw.is c.in_ok-size.ensures.size)
    c.create_raw.result asked.force (contents c.create_raw.new.host) (around c.args.host.now)
    (around c.create_raw.new.host) asked.target.now c.create_raw.ensures.created

pub returns-in-Qcow2-clause-created : goal.returns-in-Qcow2-clause-created
returns-in-Qcow2-clause-created g c =
    let contents = g.H.Files.contents in
    let around = g.H.Host.around in
    let asked = c.args.asked in
    let size = c.in_ok-size.size in
    let settings = c.in-Qcow2.settings in
    newly_made (λ files file. IsEmptyFile (New.Qcow2 settings) asked.backing size file) (IsNewImage asked)
    (contents c.args.host.now)
    (new_image asked size (contents c.args.host.now) (New.Qcow2 settings) c.in-Qcow2.is c.in_ok-size.ensures.size)
    c.create_qcow2.result asked.force (contents c.create_qcow2.new.host) (around c.args.host.now)
    (around c.create_qcow2.new.host) asked.target.now c.create_qcow2.ensures.created
