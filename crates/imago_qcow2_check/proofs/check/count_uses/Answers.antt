-- SPDX-License-Identifier: MIT
use Rattle.imago_qcow2_check.specs.Clusters.{use_of}
use Rattle.imago_qcow2_check.specs.Tallies.{setting_of}
use Rattle.imago_qcow2_check.proofs.TallySteps.{adds_len}
use Rattle.imago_qcow2_check.proofs.CheckSteps.{uses_adds}
use Rattle.imago_qcow2_check.proofs.check.count_uses.Goals as goal

pub look_at_l1-requires : goal.look_at_l1-requires
look_at_l1-requires g c =
    let s = setting_of c.args.shape c.args.counts.now in
    record { all = adds_len c.args.tally.now c.use_bytes.new.self (use_of s 0 c.args.shape.cluster) 0 c.args.shape.clusters (c.in_ok-use_bytes.ensures c.args.counts.now) c.requires.all }

pub returns-clause-told : goal.returns-clause-told
returns-clause-told g c = λ told is place same len read.
    let s = setting_of c.args.shape c.args.counts.now in
    let B = g.S.Storage.bytes c.args.storage.now in
    let t = rw len at (c.in_ok-look_at_blocks.ensures.adds c.args.counts.now B read) in
    uses_adds s B c.args.head same is place c.args.tally.now c.use_bytes.new.self c.look_at_l1.new.tally c.look_at_snapshots.new.tally c.look_at_blocks.new.tally c.look_at_bitmaps.new.tally
    (c.in_ok-use_bytes.ensures c.args.counts.now) (c.in_ok-look_at_l1.ensures.told told) (c.in_ok-look_at_snapshots.ensures.told told) t (c.in_ok-look_at_bitmaps.ensures.told c.args.counts.now told)
