-- SPDX-License-Identifier: MIT
use Rattle.std.proofs.Common.{ℕ, List, Option}
use Rattle.imago_images.specs.declared.files.FileStatus.{FileStatus}
use Rattle.imago_img_files.specs.Files.{Around}
use Rattle.imago_img_disks.specs.NewFiles.{IsNewImage, IsNewlyMade}
use Rattle.imago_img_disks.specs.LeftOvers.{IsApartBelow, IsNoSourceAtBelow}
use Rattle.imago_img_disks.proofs.Cleared.{err_then, ok_then}
use Rattle.imago_img_disks.proofs.Elsewhere.{outside_first}
use Rattle.imago_img_disks.proofs.HeldSteps.{kept_first, unheld_first}
use Rattle.imago_img_disks.proofs.create.create_image.Goals as goal

pub returns-clause-created : goal.returns-clause-created
returns-clause-created g c =
    let contents = g.H.Files.contents in
    let around = g.H.Host.around in
    let asked = c.args.asked in
    let host = c.args.host.now in
    ok_then (contents host) (around host) asked.target.now
    (IsApartBelow asked asked.backing (contents host) (g.H.Files.statuses host) (g.H.Host.left_overs host))
    c.create_beside.result asked.force
    (λ files left. IsNewlyMade (IsNewImage asked) asked.force files (contents c.create_beside.new.host) left
    (around c.create_beside.new.host) asked.target.now)
    (contents c.clear.new.host) (around c.clear.new.host) c.clear.ensures.cleared c.create_beside.ensures.created

pub returns-clause-refused : goal.returns-clause-refused
returns-clause-refused g c =
    let contents = g.H.Files.contents in
    let around = g.H.Host.around in
    let asked = c.args.asked in
    let host = c.args.host.now in
    err_then (contents host) (around host) asked.target.now
    (IsApartBelow asked asked.backing (contents host) (g.H.Files.statuses host) (g.H.Host.left_overs host))
    c.create_beside.result asked.force
    (contents c.create_beside.new.host) (around c.create_beside.new.host)
    (contents c.clear.new.host) (around c.clear.new.host) c.clear.ensures.cleared c.create_beside.ensures.same
    c.create_beside.ensures.refused

pub returns-clause-unheld : goal.returns-clause-unheld
returns-clause-unheld g c =
    let contents = g.H.Files.contents in
    let around = g.H.Host.around in
    unheld_first (around c.args.host.now) (around c.clear.new.host) (contents c.args.host.now)
    (contents c.clear.new.host) c.args.asked.target.now c.clear.ensures.kept c.create_beside.result
    c.create_beside.ensures.unheld

pub returns-clause-kept : goal.returns-clause-kept
returns-clause-kept g c =
    let contents = g.H.Files.contents in
    let around = g.H.Host.around in
    kept_first (around c.args.host.now) (around c.clear.new.host) (contents c.args.host.now)
    (contents c.clear.new.host) c.args.asked.target.now c.clear.ensures.kept c.create_beside.result
    (contents c.create_beside.new.host) (around c.create_beside.new.host) c.create_beside.ensures.same
    c.create_beside.ensures.refused

pub returns-clause-outside : goal.returns-clause-outside
returns-clause-outside g c =
    let contents = g.H.Files.contents in
    let statuses = g.H.Files.statuses in
    let around = g.H.Host.around in
    let asked = c.args.asked in
    let host = c.args.host.now in
    let mid = c.clear.new.host in
    outside_first c.create_beside.result
    (λ (s : Option (List ℕ → FileStatus)) (f : Option (List ℕ → List ℕ)) (a : Option Around).
    IsNoSourceAtBelow asked asked.backing f s a)
    (statuses host) (statuses mid) (contents host) (contents mid) (around host) (around mid)
    c.in_ok-clear.ensures.tested c.create_beside.ensures.outside
