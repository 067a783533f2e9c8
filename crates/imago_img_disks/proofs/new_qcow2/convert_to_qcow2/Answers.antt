-- SPDX-License-Identifier: MIT
use Rattle.std.proofs.Common.{ℕ, List, Option}
use Rattle.imago_images.specs.declared.files.FileStatus.{FileStatus}
use Rattle.imago_img_files.specs.Files.{Around}
use Rattle.imago_img_disks.specs.NewFiles.{IsNewlyMade, IsQcow2Copy}
use Rattle.imago_img_disks.specs.LeftOvers.{IsApart, IsNoSourceAt}
use Rattle.imago_img_disks.proofs.Cleared.{err_then, ok_then}
use Rattle.imago_img_disks.proofs.Elsewhere.{outside_first}
use Rattle.imago_img_disks.proofs.HeldSteps.{kept_first, unheld_first}
use Rattle.imago_img_disks.proofs.new_qcow2.convert_to_qcow2.Goals as goal

pub returns-clause-converted : goal.returns-clause-converted
returns-clause-converted g c =
    let contents = g.H.Files.contents in
    let around = g.H.Host.around in
    let how = c.args.how in
    let host = c.args.host.now in
    ok_then (contents host) (around host) c.args.to.now
    (IsApart how (contents host) (g.H.Files.statuses host) (g.H.Host.left_overs host) c.args.from.now c.args.to.now)
    c.convert_beside.result
    c.args.making.replace
    (λ files left. IsNewlyMade (IsQcow2Copy how c.args.from.now c.args.new.format c.args.new.all)
    c.args.making.replace files (contents c.convert_beside.new.host) left (around c.convert_beside.new.host)
    c.args.to.now)
    (contents c.clear.new.host) (around c.clear.new.host) c.clear.ensures.cleared c.convert_beside.ensures.converted

pub returns-clause-refused : goal.returns-clause-refused
returns-clause-refused g c =
    let contents = g.H.Files.contents in
    let around = g.H.Host.around in
    let host = c.args.host.now in
    err_then (contents host) (around host) c.args.to.now
    (IsApart c.args.how (contents host) (g.H.Files.statuses host) (g.H.Host.left_overs host) c.args.from.now c.args.to.now)
    c.convert_beside.result
    c.args.making.replace (contents c.convert_beside.new.host) (around c.convert_beside.new.host)
    (contents c.clear.new.host) (around c.clear.new.host) c.clear.ensures.cleared c.convert_beside.ensures.same
    c.convert_beside.ensures.refused

pub returns-clause-unheld : goal.returns-clause-unheld
returns-clause-unheld g c =
    let contents = g.H.Files.contents in
    let around = g.H.Host.around in
    unheld_first (around c.args.host.now) (around c.clear.new.host) (contents c.args.host.now)
    (contents c.clear.new.host) c.args.to.now c.clear.ensures.kept c.convert_beside.result
    c.convert_beside.ensures.unheld

pub returns-clause-kept : goal.returns-clause-kept
returns-clause-kept g c =
    let contents = g.H.Files.contents in
    let around = g.H.Host.around in
    kept_first (around c.args.host.now) (around c.clear.new.host) (contents c.args.host.now)
    (contents c.clear.new.host) c.args.to.now c.clear.ensures.kept c.convert_beside.result
    (contents c.convert_beside.new.host) (around c.convert_beside.new.host) c.convert_beside.ensures.same
    c.convert_beside.ensures.refused

pub returns-clause-outside : goal.returns-clause-outside
returns-clause-outside g c =
    let contents = g.H.Files.contents in
    let statuses = g.H.Files.statuses in
    let around = g.H.Host.around in
    let host = c.args.host.now in
    let mid = c.clear.new.host in
    outside_first c.convert_beside.result
    (λ (s : Option (List ℕ → FileStatus)) (f : Option (List ℕ → List ℕ)) (a : Option Around).
    IsNoSourceAt c.args.how f s a c.args.from.now c.args.to.now)
    (statuses host) (statuses mid) (contents host) (contents mid) (around host) (around mid)
    c.in_ok-clear.ensures.tested c.convert_beside.ensures.outside
