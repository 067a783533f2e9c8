-- SPDX-License-Identifier: MIT
use Rattle.imago_qcow2_check.specs.Tallies.{setting_of}
use Rattle.imago_qcow2_check.proofs.SnapshotSteps.{invalid_adds, snapshot_adds}
use Rattle.imago_qcow2_check.proofs.snapshots.look_at_tables.Goals as goal

pub returns-then-is_invalid-clause-told : goal.returns-then-is_invalid-clause-told
returns-then-is_invalid-clause-told g c = λ told is.
    let s = setting_of c.args.shape c.args.counts.now in
    invalid_adds s (g.S.Storage.bytes c.args.storage.now) c.args.tally.now c.tell.new.self c.args.at c.args.snapshot is c.is_invalid.result c.is_invalid.ensures c.if-is_invalid.true c.in_ok-tell.ensures.adds

pub returns-clause-told : goal.returns-clause-told
returns-clause-told g c = λ told is.
    let s = setting_of c.args.shape c.args.counts.now in
    snapshot_adds s (g.S.Storage.bytes c.args.storage.now) c.args.tally.now c.look_at_l1.new.tally c.args.at c.args.snapshot is c.is_invalid.result c.is_invalid.ensures c.if-is_invalid.false (c.in_ok-look_at_l1.ensures.told told)
