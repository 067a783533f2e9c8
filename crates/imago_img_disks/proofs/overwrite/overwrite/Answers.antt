-- SPDX-License-Identifier: MIT
use Rattle.std.proofs.Common.{◌≡◌, List, ℕ, true, length}
use Rattle.imago_img_files.specs.Files.{Around}
use Rattle.imago_img_disks.proofs.Overwritten.{partly_over, still_there, written_over}
use Rattle.imago_img_disks.proofs.overwrite.overwrite.Goals as goal

pub close_existing-requires : goal.close_existing-requires
close_existing-requires g c =
    let contents = g.H.Files.contents in
    let around = g.H.Host.around in
    let target = c.in-Ok.target in
    let full = c.fill_shown-target.result.0 in
    let opened = c.in-Ok.ensures in
    record {
      there = still_there (contents c.args.host.now) (contents c.open_existing.new.self) (around c.args.host.now)
          (around c.open_existing.new.self) (λ (a : Around) (p : List ℕ). a.there p ≡ true) c.args.to.now
          (λ (files : List ℕ → List ℕ). length (files c.args.to.now)) (g.H.Existing.Target.made_for target)
          (g.H.Existing.Target.made_for full) opened.same opened.around c.fill_shown-target.ensures.same
          opened.made_for opened.there;
    }

pub returns-in-Ok-clause-written : goal.returns-in-Ok-clause-written
returns-in-Ok-clause-written g c =
    let contents = g.H.Files.contents in
    let target = c.in-Ok.target in
    let full = c.fill_shown-target.result.0 in
    let opened = c.in-Ok.ensures in
    written_over c.args.how (contents c.args.host.now)
    (contents c.open_existing.new.self) (contents c.close_existing.new.self) c.args.from.now c.args.to.now c.in_ok-size.size
    (g.H.Existing.Target.made_for target) (g.H.Existing.Target.made_for full) (g.H.Existing.Target.contents target)
    (g.H.Existing.Target.contents full) c.fill_shown-target.result.1 opened.same c.fill_shown-target.ensures.same
    c.in_ok-size.ensures.size c.in_ok-size.ensures.fits opened.empty opened.made_for c.close_existing.ensures.written
    c.fill_shown-target.ensures.filled

pub returns-in-Ok-clause-refused : goal.returns-in-Ok-clause-refused
returns-in-Ok-clause-refused g c =
    let contents = g.H.Files.contents in
    let target = c.in-Ok.target in
    let full = c.fill_shown-target.result.0 in
    let opened = c.in-Ok.ensures in
    partly_over c.args.how (contents c.args.host.now)
    (contents c.open_existing.new.self) (contents c.close_existing.new.self) c.args.from.now c.args.to.now c.in_ok-size.size
    (g.H.Existing.Target.made_for target) (g.H.Existing.Target.made_for full) (g.H.Existing.Target.contents target)
    (g.H.Existing.Target.contents full) c.fill_shown-target.result.1 opened.same c.fill_shown-target.ensures.same
    c.in_ok-size.ensures.size c.in_ok-size.ensures.fits opened.empty opened.made_for c.close_existing.ensures.written
    c.fill_shown-target.ensures.refused
