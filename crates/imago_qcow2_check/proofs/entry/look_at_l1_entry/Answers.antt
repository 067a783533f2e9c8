-- SPDX-License-Identifier: MIT
use Rattle.std.proofs.Common.{◌*◌, ap, ◌∙◌}
use Rattle.imago_qcow2.specs.Numbers.{be64}
use Rattle.imago_qcow2_check.specs.Entries.{invalid_table}
use Rattle.imago_qcow2_check.specs.Tallies.{setting_of}
use Rattle.imago_qcow2_check.proofs.EntrySteps.{l1_entry_adds}
use Rattle.imago_qcow2_check.proofs.entry.look_at_l1_entry.Goals as goal

pub returns : goal.returns
returns c =
    let s = setting_of c.args.shape c.args.counts.now in
    let active = c.args.place.active in
    let e = c.number64-entry.ensures in
    let is_offset = rw e at c.offset_in-offset.ensures.value in
    let is_copied = rw e at c.disagrees-copied.ensures in
    l1_entry_adds s active c.args.tally.now c.use_bytes.new.self c.tell.new.self c.tell-2.new.self (be64 c.args.entries.now (8 * c.args.index)) c.offset_in-offset.result c.length_of-count.result
    c.is_invalid_table-invalid.result c.disagrees-copied.result is_offset c.length_of-count.ensures (c.is_invalid_table-invalid.ensures ∙ ap invalid_table c.l2_table.ensures.says) is_copied
    (c.in_ok-use_bytes.ensures c.args.counts.now) c.in_ok-tell.ensures.adds c.in_ok-tell-2.ensures.adds
