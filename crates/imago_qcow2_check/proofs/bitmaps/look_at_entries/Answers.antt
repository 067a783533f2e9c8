-- SPDX-License-Identifier: MIT
use Rattle.std.proofs.Common.{◌≡◌, ◌*◌, ◌/◌, length, [], arith}
use Rattle.imago_qcow2_check.specs.Sums.{total}
use Rattle.imago_qcow2.specs.Numbers.{be64}
use Rattle.imago_qcow2_check.specs.Bitmaps.{bits_use, bits_faults}
use Rattle.imago_qcow2_check.specs.Tallies.{setting_of, Adds}
use Rattle.imago_qcow2_check.proofs.TallySteps.{adds_first, adds_next, adds_len}
use Rattle.imago_qcow2_check.proofs.bitmaps.look_at_entries.Goals as goal

pub loop-index-init : goal.loop-index-init
loop-index-init c = record {
  all = c.requires.all;
  counted = λ counts.
      let s = setting_of c.args.shape counts in
      adds_first c.args.tally.now (λ i n. bits_use s (be64 c.args.table.now (8 * i)) n) (λ i. bits_faults s (be64 c.args.table.now (8 * i)));
}

pub loop-index-preserved : goal.loop-index-preserved
loop-index-preserved c =
    let e = c.number64-entry.ensures in
    let new = c.look_at_bits.new.tally in
    record {
      all = adds_len c.loop-index.tally new (bits_use (setting_of c.args.shape []) c.number64-entry.result) (bits_faults (setting_of c.args.shape []) c.number64-entry.result) c.args.shape.clusters (c.in_ok-look_at_bits.ensures []) c.loop-index.invariant.all;
      counted = λ counts.
          let s = setting_of c.args.shape counts in
          let here : Adds c.loop-index.tally new (bits_use s (be64 c.args.table.now (8 * c.loop-index.index))) (bits_faults s (be64 c.args.table.now (8 * c.loop-index.index))) = rw e at (c.in_ok-look_at_bits.ensures counts) in
          adds_next c.args.tally.now c.loop-index.tally new (λ i n. bits_use s (be64 c.args.table.now (8 * i)) n) (λ i. bits_faults s (be64 c.args.table.now (8 * i))) c.loop-index.index (c.loop-index.invariant.counted counts) here;
    }

pub returns : goal.returns
returns c = λ counts.
    let s = setting_of c.args.shape counts in
    let k : c.loop-index.index ≡ length c.args.table.now / 8 = omega (arith, c.loop-index.auto.index-end, c.loop-index-test.false) in
    let x : Adds c.args.tally.now c.loop-index.tally (λ n. total (λ i. bits_use s (be64 c.args.table.now (8 * i)) n) c.loop-index.index) (total (λ i. bits_faults s (be64 c.args.table.now (8 * i))) c.loop-index.index) = c.loop-index.invariant.counted counts in
    rw k at x
