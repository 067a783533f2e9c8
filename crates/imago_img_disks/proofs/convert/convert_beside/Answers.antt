-- SPDX-License-Identifier: MIT
use Rattle.imago_img_disks.proofs.Disks.{whole_file, converted_file}
use Rattle.imago_img_disks.proofs.convert.convert_beside.Goals as goal

pub end-requires : goal.end-requires
end-requires g c =
    let contents = g.H.Files.contents in
    let target = c.in-Ok.target in
    let full = c.fill_shown-target.result.0 in
    let created = c.in-Ok.ensures in
    record {
      whole = whole_file c.args.how (contents c.args.host.now)
          (contents c.create.new.self) c.args.from.now c.args.to.now c.in_ok-size.size (g.H.Target.Target.made_for target)
          (g.H.Target.Target.made_for full) (g.H.Target.Target.contents target) (g.H.Target.Target.contents full)
          c.fill_shown-target.result.1 created.same c.fill_shown-target.ensures.same c.in_ok-size.ensures.size created.empty
          created.made_for c.fill_shown-target.ensures.filled;
    }

pub returns-in-Ok-clause-converted : goal.returns-in-Ok-clause-converted
returns-in-Ok-clause-converted g c =
    let contents = g.H.Files.contents in
    let around = g.H.Host.around in
    let target = c.in-Ok.target in
    let full = c.fill_shown-target.result.0 in
    let created = c.in-Ok.ensures in
    converted_file c.args.how (contents c.args.host.now)
    (contents c.create.new.self) c.args.from.now c.args.to.now c.in_ok-size.size (g.H.Target.Target.made_for target)
    (g.H.Target.Target.made_for full) (g.H.Target.Target.contents target) (g.H.Target.Target.contents full)
    c.fill_shown-target.result.1 c.args.making.replace c.end.result (contents c.end.new.host) (around c.args.host.now)
    (around c.create.new.self) (around c.end.new.host) created.same c.fill_shown-target.ensures.same created.empty
    created.made_for c.fill_shown-target.ensures.filled c.end.ensures.done c.end.ensures.made created.begun
    c.end.ensures.there created.free
