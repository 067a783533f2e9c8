-- SPDX-License-Identifier: MIT
use Rattle.std.proofs.Common.{rules, ◌≡◌, length, sym, ◌∙◌}
use Rattle.std.specs.Prelude.{IsTrue}
use Rattle.imago_storage.specs.Bytes.{IsReadAt}
use Rattle.imago_qcow2_check.specs.Tallies.{setting_of}
use Rattle.imago_qcow2_check.proofs.EntrySteps.{l2_adds, named_adds, none_adds}
use Rattle.imago_qcow2_check.proofs.tables.look_at_named.Goals as goal

pub returns-then-not-names_table-clause-told : goal.returns-then-not-names_table-clause-told
returns-then-not-names_table-clause-told g c = λ told.
    let s = setting_of c.args.shape c.args.counts.now in
    none_adds s c.args.place.active (g.S.Storage.bytes c.args.storage.now) c.args.entry (sym (c.names_table.ensures c.args.counts.now) ∙ c.if-not-names_table.true) c.args.tally.now

pub returns-clause-told : goal.returns-clause-told
returns-clause-told g c = λ (told : IsTrue (g.S.Storage.features c.args.storage.now).tells_bytes).
    let s = setting_of c.args.shape c.args.counts.now in
    let active = c.args.place.active in
    let B = g.S.Storage.bytes c.args.storage.now in
    let offset = c.offset_in-offset.result in
    let new = c.look_at_l2.new.tally in
    let r : IsReadAt B offset c.read.new.buf = search rules in
    let whole : length c.read.new.buf ≡ c.args.shape.cluster = search rules in
    named_adds s active B c.args.entry offset c.offset_in-offset.ensures.value (sym (c.names_table.ensures c.args.counts.now) ∙ c.if-not-names_table.false) c.args.tally.now new
    (l2_adds s active B c.read.new.buf offset r whole c.args.tally.now new c.in_ok-look_at_l2.ensures)
