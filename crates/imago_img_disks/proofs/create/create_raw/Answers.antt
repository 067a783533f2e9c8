-- SPDX-License-Identifier: MIT
use Rattle.std.proofs.Common.{◌≡◌, ℕ, OnOk, replicate, subst}
use Rattle.imago_img_disks.specs.NewFiles.{IsNewlyMade}
use Rattle.imago_img_disks.proofs.NewFiles.{anyway, made_new, whole_new}
use Rattle.imago_img_disks.proofs.create.create_raw.Goals as goal

pub end-requires : goal.end-requires
end-requires g c =
    let contents = g.H.Files.contents in
    let target = c.in-Ok.target in
    let full = c.put_zeroes-target.result.0 in
    let created = c.in-Ok.ensures in
    record {
      whole = whole_new (λ files file. file ≡ replicate {A = ℕ} c.in_ok-length.length 0) (contents c.args.host.now) (contents c.create.new.self) c.args.to.now c.in_ok-length.length
          (g.H.Target.Target.made_for target) (g.H.Target.Target.made_for full) (g.H.Target.Target.contents target)
          (g.H.Target.Target.contents full) c.put_zeroes-target.result.1 created.same c.put_zeroes-target.ensures.same
          created.empty created.made_for
          (λ none. anyway _ c.put_zeroes-target.result.1 (contents c.create.new.self) (c.put_zeroes-target.ensures.put none));
    }

pub returns-in-Ok-clause-created : goal.returns-in-Ok-clause-created
returns-in-Ok-clause-created g c =
    let contents = g.H.Files.contents in
    let around = g.H.Host.around in
    let target = c.in-Ok.target in
    let full = c.put_zeroes-target.result.0 in
    let created = c.in-Ok.ensures in
    subst (λ (n : ℕ). OnOk c.end.result (IsNewlyMade (λ files file. file ≡ replicate n 0) c.args.making.replace
    (contents c.args.host.now) (contents c.end.new.host) (around c.args.host.now) (around c.end.new.host)
    c.args.to.now)) c.in_ok-length.ensures
    (made_new (λ files file. file ≡ replicate {A = ℕ} c.in_ok-length.length 0) (contents c.args.host.now) (contents c.create.new.self) c.args.to.now c.in_ok-length.length
    (g.H.Target.Target.made_for target) (g.H.Target.Target.made_for full) (g.H.Target.Target.contents target)
    (g.H.Target.Target.contents full) c.put_zeroes-target.result.1 created.same c.put_zeroes-target.ensures.same
    created.empty created.made_for
    (λ none. anyway _ c.put_zeroes-target.result.1 (contents c.create.new.self) (c.put_zeroes-target.ensures.put none))
    c.args.making.replace (contents c.end.new.host) (around c.args.host.now) (around c.create.new.self)
    (around c.end.new.host) created.begun created.free c.end.result c.end.ensures.done c.end.ensures.made
    c.end.ensures.there)
