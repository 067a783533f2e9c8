-- SPDX-License-Identifier: MIT
use Rattle.std.proofs.Common.{◌*◌, refl}
use Rattle.imago_qcow2_check.specs.Clusters.{use_of, past_fault}
use Rattle.imago_qcow2_check.specs.Tallies.{setting_of}
use Rattle.imago_qcow2_check.proofs.TallySteps.{adds_len}
use Rattle.imago_qcow2_check.proofs.EntrySteps.{l1_adds}
use Rattle.imago_qcow2_check.proofs.tables.look_at_l1.Goals as goal

pub look_at_entries-requires-clause-all : goal.look_at_entries-requires-clause-all
look_at_entries-requires-clause-all g c =
    let s = setting_of c.args.shape c.args.counts.now in
    let n = 8 * c.args.count in
    adds_len c.args.tally.now c.name.new.self (use_of s c.args.place.table n) (past_fault s c.args.place.table n) c.args.shape.clusters (c.in_ok-name.ensures c.args.counts.now) c.requires.all

pub returns-clause-told : goal.returns-clause-told
returns-clause-told g c = λ told.
    let s = setting_of c.args.shape c.args.counts.now in
    let B = g.S.Storage.bytes c.args.storage.now in
    let active = c.args.place.active in
    let entries = c.in_ok-entries.entries.items in
    let q = rw c.deref.ensures.value at (c.in_ok-look_at_entries.ensures.told told) in
    l1_adds s active c.args.tally.now c.name.new.self c.look_at_entries.new.tally B entries c.args.place.table c.args.count (8 * c.args.count) refl c.in_ok-entries.ensures.whole (c.in_ok-entries.ensures.read told)
    (c.in_ok-name.ensures c.args.counts.now) q
