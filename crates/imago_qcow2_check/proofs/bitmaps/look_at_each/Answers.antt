-- SPDX-License-Identifier: MIT
use Rattle.std.proofs.Common.{◌≡◌, sym, ap, ◌∙◌, arith}
use Rattle.imago_qcow2_check.specs.Sums.{total}
use Rattle.imago_qcow2_check.specs.Bitmaps.{bitmap_uses, bitmap_faults, bitmap_at, bitmap_end}
use Rattle.imago_qcow2_check.specs.Tallies.{setting_of, Adds}
use Rattle.imago_qcow2_check.proofs.TallySteps.{adds_first, adds_next}
use Rattle.imago_qcow2_check.proofs.BitmapSteps.{at_first, at_next}
use Rattle.imago_qcow2_check.proofs.bitmaps.look_at_each.Goals as goal

pub loop-index-init : goal.loop-index-init
loop-index-init g c =
    let B = g.S.Storage.bytes c.args.storage.now in
    let start = c.args.directory.start in
    record {
      all = c.requires.all;
      within = omega (arith, c.requires.ends);
      spot = λ told. at_first B start;
      told = λ counts told.
          let s = setting_of c.args.shape counts in
          adds_first c.args.tally.now (λ i n. bitmap_uses s B (bitmap_at B start i) n) (λ i. bitmap_faults s B (bitmap_at B start i));
    }

pub loop-index-preserved : goal.loop-index-preserved
loop-index-preserved g c =
    let B = g.S.Storage.bytes c.args.storage.now in
    let i = c.loop-index._index in
    let start = c.args.directory.start in
    let inv = c.loop-index.invariant in
    let new = c.look_at_next.new.tally in
    record {
      all = c.in_ok-spot.ensures.all;
      within = omega (arith, c.requires.ends, c.in_ok-spot.ensures.within);
      spot = λ told. c.in_ok-spot.ensures.next told ∙ ap (bitmap_end B) (inv.spot told) ∙ sym (at_next B start i);
      told = λ counts told.
          let s = setting_of c.args.shape counts in
          let here : Adds c.loop-index.tally new (bitmap_uses s B (bitmap_at B start i)) (bitmap_faults s B (bitmap_at B start i)) = rw (inv.spot told) at (c.in_ok-spot.ensures.told counts told) in
          adds_next c.args.tally.now c.loop-index.tally new (λ i n. bitmap_uses s B (bitmap_at B start i) n) (λ i. bitmap_faults s B (bitmap_at B start i)) i (inv.told counts told) here;
    }

pub returns-clause-all : goal.returns-clause-all
returns-clause-all g c = c.loop-index.invariant.all

pub returns-clause-told : goal.returns-clause-told
returns-clause-told g c = λ counts told.
    let s = setting_of c.args.shape counts in
    let B = g.S.Storage.bytes c.args.storage.now in
    let start = c.args.directory.start in
    let k : c.loop-index._index ≡ c.args.directory.count = omega (arith, c.loop-index.auto._index-end, c.loop-index-test.false) in
    let p : Adds c.args.tally.now c.loop-index.tally (λ n. total (λ i. bitmap_uses s B (bitmap_at B start i) n) c.loop-index._index) (total (λ i. bitmap_faults s B (bitmap_at B start i)) c.loop-index._index) = c.loop-index.invariant.told counts told in
    rw k at p
