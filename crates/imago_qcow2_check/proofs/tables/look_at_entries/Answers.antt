-- SPDX-License-Identifier: MIT
use Rattle.std.proofs.Common.{rules, ◌*◌}
use Rattle.imago_qcow2.specs.Numbers.{be64}
use Rattle.imago_qcow2_check.specs.Entries.{table_use, table_faults, named_use, named_faults}
use Rattle.imago_qcow2_check.specs.Tallies.{setting_of, Adds}
use Rattle.imago_qcow2_check.proofs.TallySteps.{adds_first, adds_next}
use Rattle.imago_qcow2_check.proofs.EntrySteps.{table_adds}
use Rattle.imago_qcow2_check.proofs.tables.look_at_entries.Goals as goal

pub loop-index-init : goal.loop-index-init
loop-index-init g c =
    let s = setting_of c.args.shape c.args.counts.now in
    let B = g.S.Storage.bytes c.args.storage.now in
    record {
      all = c.requires.all;
      whole = c.requires.whole;
      told = λ told. adds_first c.args.tally.now (λ i n. table_use s B (be64 c.args.entries.now (8 * i)) n) (λ i. table_faults s B c.args.place.active (be64 c.args.entries.now (8 * i)));
    }

pub loop-index-preserved : goal.loop-index-preserved
loop-index-preserved g c =
    let s = setting_of c.args.shape c.args.counts.now in
    let B = g.S.Storage.bytes c.args.storage.now in
    let active = c.args.place.active in
    let entry = be64 c.args.entries.now (8 * c.loop-index.index) in
    let mid = c.look_at_l1_entry.new.tally in
    let new = c.look_at_named.new.tally in
    record {
      all = c.in_ok-look_at_named.ensures.all;
      whole = search rules;
      told = λ told.
          let q : Adds mid new (named_use s B entry) (named_faults s B active entry) = rw c.number64-entry.ensures at (c.in_ok-look_at_named.ensures.told told) in
          adds_next c.args.tally.now c.loop-index.tally new (λ i n. table_use s B (be64 c.args.entries.now (8 * i)) n) (λ i. table_faults s B active (be64 c.args.entries.now (8 * i))) c.loop-index.index (c.loop-index.invariant.told told)
          (table_adds s active c.loop-index.tally mid new B entry c.in_ok-look_at_l1_entry.ensures q);
    }
