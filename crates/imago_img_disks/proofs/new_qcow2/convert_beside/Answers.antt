-- SPDX-License-Identifier: MIT
use Rattle.std.proofs.Common.{◌≡◌, ◌∙◌, Option, Result, Ok, Err, OnErr, ap}
use Rattle.std.specs.Prelude.{option_map}
use Rattle.imago_qcow2_new.specs.Layout.{file_length}
use Rattle.imago_img_files.specs.Files.{Around, begun, ended}
use Rattle.imago_img_disks.specs.NewFiles.{IsCopyBy, IsQcow2Copy}
use Rattle.imago_img_disks.proofs.Disks.{begun_ended}
use Rattle.imago_img_disks.proofs.NewFiles.{copy_in, made_as, made_new, newly_made, whole_new}
use Rattle.imago_img_disks.proofs.new_qcow2.convert_beside.Goals as goal

pub end-requires : goal.end-requires
end-requires g c =
    let contents = g.H.Files.contents in
    let how = c.args.how in
    let layout = c.in_ok-layout.layout in
    let target = c.in-Ok.target in
    let full = c.write_shown-target.result.0 in
    let made = made_as (contents c.args.host.now) (g.H.Target.Target.made_for target) c.args.to.now c.file_length.result
    (file_length layout) c.file_length.ensures c.in-Ok.ensures.made_for in
    record {
      whole = whole_new (IsCopyBy how c.args.from.now layout)
          (contents c.args.host.now) (contents c.create.new.self) c.args.to.now (file_length layout)
          (g.H.Target.Target.made_for target) (g.H.Target.Target.made_for full) (g.H.Target.Target.contents target)
          (g.H.Target.Target.contents full) c.write_shown-target.result.1 c.in-Ok.ensures.same
          c.write_shown-target.ensures.same c.in-Ok.ensures.empty made
          c.write_shown-target.ensures.written;
    }

pub returns-in-Ok-clause-converted : goal.returns-in-Ok-clause-converted
returns-in-Ok-clause-converted g c =
    let contents = g.H.Files.contents in
    let around = g.H.Host.around in
    let how = c.args.how in
    let layout = c.in_ok-layout.layout in
    let target = c.in-Ok.target in
    let full = c.write_shown-target.result.0 in
    let made = made_as (contents c.args.host.now) (g.H.Target.Target.made_for target) c.args.to.now c.file_length.result
    (file_length layout) c.file_length.ensures c.in-Ok.ensures.made_for in
    let created = c.in-Ok.ensures in
    newly_made (IsCopyBy how c.args.from.now layout)
    (IsQcow2Copy how c.args.from.now c.args.new.format c.args.new.all)
    (contents c.args.host.now) (copy_in how c.args.from.now c.args.new.format c.args.new.all
    layout (contents c.args.host.now) c.in_ok-layout.ensures.layout) c.end.result c.args.making.replace (contents c.end.new.host)
    (around c.args.host.now) (around c.end.new.host) c.args.to.now
    (made_new (IsCopyBy how c.args.from.now layout)
    (contents c.args.host.now) (contents c.create.new.self) c.args.to.now (file_length layout)
    (g.H.Target.Target.made_for target) (g.H.Target.Target.made_for full) (g.H.Target.Target.contents target)
    (g.H.Target.Target.contents full) c.write_shown-target.result.1 created.same
    c.write_shown-target.ensures.same created.empty made c.write_shown-target.ensures.written
    c.args.making.replace (contents c.end.new.host) (around c.args.host.now) (around c.create.new.self)
    (around c.end.new.host) created.begun created.free c.end.result c.end.ensures.done c.end.ensures.made
    c.end.ensures.there)

none_left : {A E : Type 0} (r : Result A E) (now mid before : Option Around) → mid ≡ option_map begun before → OnErr r (now ≡ option_map ended mid) → OnErr r (now ≡ before)
none_left (Ok x) now mid before begins h = tt
none_left (Err e) now mid before begins h = h ∙ ap (option_map ended) begins ∙ begun_ended before

pub returns-in-Ok-clause-refused : goal.returns-in-Ok-clause-refused
returns-in-Ok-clause-refused g c =
    let around = g.H.Host.around in
    none_left c.end.result (around c.end.new.host) (around c.create.new.self) (around c.args.host.now) c.in-Ok.ensures.begun c.end.ensures.gone
