-- SPDX-License-Identifier: MIT
use Rattle.std.proofs.Common.{◌≡◌, ◌+◌, ◌-◌, sym, ap, ◌∙◌, arith}
use Rattle.std.specs.Int.{next_multiple_of}
use Rattle.imago_qcow2_check.specs.Sums.{total, one_if}
use Rattle.imago_qcow2_check.specs.Clusters.{use_of, past_fault}
use Rattle.imago_qcow2_check.specs.Snapshots.{snapshot_end, snapshots_end, snapshot_at, is_long_table}
use Rattle.imago_qcow2_check.specs.Uses.{snapshot_uses, snapshot_faults}
use Rattle.imago_qcow2_check.specs.Tallies.{setting_of, Adds}
use Rattle.imago_qcow2_check.proofs.TallySteps.{adds_first, adds_next, adds_len}
use Rattle.imago_qcow2_check.proofs.SnapshotSteps.{snapshots_adds, ends_first, ends_next}
use Rattle.imago_qcow2_check.proofs.snapshots.look_at_snapshots.Goals as goal

pub loop-index-init : goal.loop-index-init
loop-index-init g c =
    let s = setting_of c.args.shape c.args.counts.now in
    let B = g.S.Storage.bytes c.args.storage.now in
    record {
      all = c.requires.all;
      behind = omega arith;
      ends = λ told. ends_first B c.args.start;
      told = λ told. adds_first c.args.tally.now (λ i n. snapshot_uses s B (snapshot_at B c.args.start i) n) (λ i. snapshot_faults s B (snapshot_at B c.args.start i));
    }

pub loop-index-preserved : goal.loop-index-preserved
loop-index-preserved g c =
    let s = setting_of c.args.shape c.args.counts.now in
    let B = g.S.Storage.bytes c.args.storage.now in
    let i = c.loop-index._index in
    let start = c.args.start in
    let inv = c.loop-index.invariant in
    let new = c.look_at_next.new.tally in
    record {
      all = c.in_ok-end.ensures.all;
      behind = omega (arith, inv.behind, c.in_ok-end.ensures.behind);
      ends = λ told. c.in_ok-end.ensures.end told ∙ ap (λ e. snapshot_end B (next_multiple_of e 8)) (inv.ends told) ∙ sym (ends_next B start i);
      told = λ told.
          let here : Adds c.loop-index.tally new (snapshot_uses s B (snapshot_at B start i)) (snapshot_faults s B (snapshot_at B start i)) = rw (inv.ends told) at (c.in_ok-end.ensures.told told) in
          adds_next c.args.tally.now c.loop-index.tally new (λ i n. snapshot_uses s B (snapshot_at B start i) n) (λ i. snapshot_faults s B (snapshot_at B start i)) i (inv.told told) here;
    }

pub returns-clause-all : goal.returns-clause-all
returns-clause-all g c =
    let s = setting_of c.args.shape c.args.counts.now in
    let n = c.loop-index.end - c.args.start in
    adds_len c.loop-index.tally c.name_table.new.tally (use_of s c.args.start n) (past_fault s c.args.start n + one_if (is_long_table n)) c.args.shape.clusters (c.in_ok-name_table.ensures c.args.counts.now) c.loop-index.invariant.all

pub returns-clause-told : goal.returns-clause-told
returns-clause-told g c = λ told.
    let s = setting_of c.args.shape c.args.counts.now in
    let B = g.S.Storage.bytes c.args.storage.now in
    let start = c.args.start in
    let k : c.loop-index._index ≡ c.args.count = omega (arith, c.loop-index.auto._index-end, c.loop-index-test.false) in
    let ends : c.loop-index.end ≡ snapshots_end B start c.loop-index._index = c.loop-index.invariant.ends told in
    let p : Adds c.args.tally.now c.loop-index.tally (λ n. total (λ i. snapshot_uses s B (snapshot_at B start i) n) c.loop-index._index) (total (λ i. snapshot_faults s B (snapshot_at B start i)) c.loop-index._index) = c.loop-index.invariant.told told in
    snapshots_adds s B c.args.tally.now c.loop-index.tally c.name_table.new.tally start c.args.count c.loop-index.end (rw k at ends) (rw k at p) (c.in_ok-name_table.ensures c.args.counts.now)
