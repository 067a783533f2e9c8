-- SPDX-License-Identifier: MIT
use Rattle.std.proofs.Common.{◌<◌, arith}
use Rattle.imago_qcow2_check.specs.Tallies.{setting_of}
use Rattle.imago_qcow2_check.proofs.EntrySteps.{l2_entry_adds, zero_adds}
use Rattle.imago_qcow2_check.proofs.entry.look_at_l2_entry.Goals as goal

pub returns-then-entry-eq0 : goal.returns-then-entry-eq0
returns-then-entry-eq0 c =
    let s = setting_of c.args.shape c.args.counts.now in
    let some : 0 < c.args.shape.cluster = omega (arith, c.args.shape.shortest) in
    zero_adds s c.args.place.active c.args.tally.now c.args.entry c.if-entry-eq0.true some

pub guest_cluster-says-requires : goal.guest_cluster-says-requires
guest_cluster-says-requires c =
    (c.args.shape.bits, c.args.shape.least, c.args.shape.most, c.args.shape.power)

pub returns : goal.returns
returns c =
    let s = setting_of c.args.shape c.args.counts.now in
    l2_entry_adds s c.args.place.active c.args.tally.now c.look_at_cluster.new.tally c.args.entry c.guest_cluster-says.result c.guest_cluster-says.ensures.says c.in_ok-look_at_cluster.ensures
