-- SPDX-License-Identifier: MIT
use Rattle.imago_qcow2_check.specs.Tallies.{setting_of}
use Rattle.imago_qcow2_check.proofs.SnapshotSteps.{table_adds}
use Rattle.imago_qcow2_check.proofs.snapshots.name_table.Goals as goal

pub returns : goal.returns
returns c = λ counts.
    table_adds (setting_of c.args.shape counts) c.args.tally.now c.name.new.self c.tell.new.self c.args.start c.args.size (c.in_ok-name.ensures counts) c.in_ok-tell.ensures.adds
