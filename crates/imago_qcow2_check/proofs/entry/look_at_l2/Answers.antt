-- SPDX-License-Identifier: MIT
use Rattle.std.proofs.Common.{◌≡◌, ◌*◌, ◌/◌, arith}
use Rattle.imago_qcow2.specs.Numbers.{be64}
use Rattle.imago_qcow2_check.specs.Sums.{total}
use Rattle.imago_qcow2_check.specs.Entries.{l2_entry_use, l2_entry_faults}
use Rattle.imago_qcow2_check.specs.Tallies.{setting_of, Adds}
use Rattle.imago_qcow2_check.proofs.TallySteps.{adds_first, adds_next}
use Rattle.imago_qcow2_check.proofs.entry.look_at_l2.Goals as goal

pub loop-index-init : goal.loop-index-init
loop-index-init c =
    let s = setting_of c.args.shape c.args.counts.now in
    adds_first c.args.tally.now (λ j n. l2_entry_use s (be64 c.args.table.now (8 * j)) n) (λ j. l2_entry_faults s c.args.place.active (be64 c.args.table.now (8 * j)))

pub loop-index-preserved : goal.loop-index-preserved
loop-index-preserved c =
    let s = setting_of c.args.shape c.args.counts.now in
    let active = c.args.place.active in
    let new = c.look_at_l2_entry.new.tally in
    let here : Adds c.loop-index.tally new (l2_entry_use s (be64 c.args.table.now (8 * c.loop-index.index))) (l2_entry_faults s active (be64 c.args.table.now (8 * c.loop-index.index))) = rw c.number64-entry.ensures at c.in_ok-look_at_l2_entry.ensures in
    adds_next c.args.tally.now c.loop-index.tally new (λ j n. l2_entry_use s (be64 c.args.table.now (8 * j)) n) (λ j. l2_entry_faults s active (be64 c.args.table.now (8 * j))) c.loop-index.index c.loop-index.invariant here

pub returns : goal.returns
returns c =
    let s = setting_of c.args.shape c.args.counts.now in
    let k : c.loop-index.index ≡ c.args.shape.cluster / 8 = omega (arith, c.loop-index.auto.index-end, c.loop-index-test.false, c.requires.whole) in
    let x : Adds c.args.tally.now c.loop-index.tally (λ n. total (λ j. l2_entry_use s (be64 c.args.table.now (8 * j)) n) c.loop-index.index) (total (λ j. l2_entry_faults s c.args.place.active (be64 c.args.table.now (8 * j))) c.loop-index.index) = c.loop-index.invariant in
    rw k at x
