-- SPDX-License-Identifier: MIT
use Rattle.imago_qcow2_check.specs.Tallies.{setting_of}
use Rattle.imago_qcow2_check.proofs.EntrySteps.{cluster_adds}
use Rattle.imago_qcow2_check.proofs.entry.look_at_cluster.Goals as goal

pub returns : goal.returns
returns c =
    let d = c.data_of-start in
    cluster_adds (setting_of c.args.shape c.args.counts.now) c.args.place.active c.args.tally.now c.name.new.self c.tell.new.self c.tell-2.new.self c.args.entry d.result.0 d.result.1 c.args.says
    c.is_invalid.result c.cluster_disagrees-copied.result d.ensures.start d.ensures.length c.is_invalid.ensures c.cluster_disagrees-copied.ensures
    (c.in_ok-name.ensures c.args.counts.now) c.in_ok-tell.ensures.adds c.in_ok-tell-2.ensures.adds
