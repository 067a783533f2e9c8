-- SPDX-License-Identifier: MIT
use Rattle.imago_drivers.specs.Place.{Byte}
use Rattle.imago_words.specs.declared.settings.NewFormat.TheVariants as New
use Rattle.imago_qcow2_new.specs.Image.{IsNewFile}
use Rattle.imago_qcow2_new.specs.Layout.{file_length}
use Rattle.imago_img_disks.specs.NewFiles.{IsEmptyFile}
use Rattle.imago_img_disks.proofs.NewFiles.{anyway, empty_by, made_as, made_new, newly_made, whole_new}
use Rattle.imago_img_disks.proofs.create.create_qcow2.Goals as goal

pub end-requires : goal.end-requires
end-requires g c =
    let contents = g.H.Files.contents in
    let target = c.in-Ok.target in
    let full = c.put_empty-target.result.0 in
    let made = made_as (contents c.args.host.now) (g.H.Target.Target.made_for target) c.args.to.now c.file_length.result
    (file_length c.in_ok-layout.layout) c.file_length.ensures c.in-Ok.ensures.made_for in
    let created = c.in-Ok.ensures in
    record {
      whole = whole_new (λ files. IsNewFile c.in_ok-layout.layout (λ _. Byte 0)) (contents c.args.host.now) (contents c.create.new.self) c.args.to.now (file_length c.in_ok-layout.layout)
          (g.H.Target.Target.made_for target) (g.H.Target.Target.made_for full) (g.H.Target.Target.contents target)
          (g.H.Target.Target.contents full) c.put_empty-target.result.1 created.same c.put_empty-target.ensures.same
          created.empty made
          (λ none. anyway _ c.put_empty-target.result.1 (contents c.create.new.self) (c.put_empty-target.ensures.put none));
    }

pub returns-in-Ok-clause-created : goal.returns-in-Ok-clause-created
returns-in-Ok-clause-created g c =
    let contents = g.H.Files.contents in
    let around = g.H.Host.around in
    let target = c.in-Ok.target in
    let full = c.put_empty-target.result.0 in
    let made = made_as (contents c.args.host.now) (g.H.Target.Target.made_for target) c.args.to.now c.file_length.result
    (file_length c.in_ok-layout.layout) c.file_length.ensures c.in-Ok.ensures.made_for in
    let created = c.in-Ok.ensures in
    let planned = c.in_ok-layout.ensures in
    newly_made (λ files. IsNewFile c.in_ok-layout.layout (λ _. Byte 0))
    (λ files file. IsEmptyFile (New.Qcow2 c.args.settings) c.args.below c.args.size file) (contents c.args.host.now)
    (empty_by c.args.settings c.args.below c.args.size c.in_ok-layout.layout planned.layout planned.names planned.none planned.all
    (contents c.args.host.now)) c.end.result c.args.making.replace (contents c.end.new.host)
    (around c.args.host.now) (around c.end.new.host) c.args.to.now
    (made_new (λ files. IsNewFile c.in_ok-layout.layout (λ _. Byte 0)) (contents c.args.host.now) (contents c.create.new.self) c.args.to.now (file_length c.in_ok-layout.layout)
    (g.H.Target.Target.made_for target) (g.H.Target.Target.made_for full) (g.H.Target.Target.contents target)
    (g.H.Target.Target.contents full) c.put_empty-target.result.1 created.same c.put_empty-target.ensures.same
    created.empty made
    (λ none. anyway _ c.put_empty-target.result.1 (contents c.create.new.self) (c.put_empty-target.ensures.put none))
    c.args.making.replace (contents c.end.new.host) (around c.args.host.now) (around c.create.new.self)
    (around c.end.new.host) created.begun created.free c.end.result c.end.ensures.done c.end.ensures.made
    c.end.ensures.there)
