-- SPDX-License-Identifier: MIT
use Rattle.imago_qcow2_check.specs.Tallies.{setting_of}
use Rattle.imago_qcow2_check.proofs.SnapshotSteps.{entry_adds}
use Rattle.imago_qcow2_check.proofs.snapshots.look_at_snapshot.Goals as goal

pub returns-clause-told : goal.returns-clause-told
returns-clause-told g c = λ told is.
    entry_adds (setting_of c.args.shape c.args.counts.now) (g.S.Storage.bytes c.args.storage.now) c.args.tally.now c.tell.new.self c.look_at_tables.new.tally c.args.at c.args.snapshot is
    c.in_ok-tell.ensures.adds (c.in_ok-look_at_tables.ensures.told told is)
