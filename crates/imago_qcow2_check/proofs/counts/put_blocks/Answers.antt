-- SPDX-License-Identifier: MIT
use Rattle.std.proofs.Common.{rules, ◌≡◌, ◌+◌, ◌-◌, ◌*◌, ◌<◌, min, length, refl, arith, ℕ}
use Rattle.imago_qcow2_check.specs.Counts.{per_block}
use Rattle.imago_qcow2_check.proofs.CountSteps.{times_more, blocks_more}
use Rattle.imago_qcow2_check.proofs.counts.put_blocks.Goals as goal

pub each-preserved : goal.each-preserved
each-preserved g c =
    let B = g.S.Storage.bytes c.args.storage.now in
    let order = c.args.order in
    let cluster = c.args.shape.cluster in
    let clusters = c.args.shape.clusters in
    let P = per_block order cluster in
    let old = c.each.counts.items in
    let new = c.put_block.new.counts.items in
    let i = c.each.index in
    let below : length old < clusters = omega (arith, c.each-test.true, c.len.ensures) in
    let many : length old ≡ min (i * P) clusters = c.each.invariant.many in
    let len : length old ≡ i * P = omega (arith, many, below) in
    let count : ℕ = min P (clusters - length old) in
    let more = times_more i P in
    let few : length new ≡ min (length old + P) clusters = c.in_ok-put_block.ensures.few in
    record {
      whole = search rules;
      many = omega (arith, len, more, few);
      told = λ told n h. blocks_more order cluster B c.args.table.now old new i P (min P (clusters - length old)) c.block_at-entry.result refl len (omega arith) c.block_at-entry.ensures (c.in_ok-put_block.ensures.told told) (c.each.invariant.told told) n h;
    }
