-- SPDX-License-Identifier: MIT
use Rattle.std.proofs.Common.{rules, ◌≡◌, ◌-◌, ◌≤◌, min, length, sym, ◌∙◌, arith}
use Rattle.std.specs.Prelude.{IsTrue}
use Rattle.imago_storage.specs.Bytes.{IsReadAt}
use Rattle.imago_qcow2_check.specs.Counts.{count_in, count_by, per_block}
use Rattle.imago_qcow2_check.specs.CountParts.{AppendsCounts}
use Rattle.imago_qcow2_check.proofs.CountSteps.{per_some, count_read, appends_same}
use Rattle.imago_qcow2_check.proofs.counts.put_block.Goals as goal

pub returns-in_default-clause-more : goal.returns-in_default-clause-more
returns-in_default-clause-more g c =
    let some = per_some c.args.order c.args.shape.cluster c.requires.order c.args.shape.shortest in
    omega (arith, some, c.per_block_of.ensures, c.len.ensures, c.min-count.ensures, c.in_ok-put_zeroes.ensures.len, c.requires.few)

pub returns-clause-more : goal.returns-clause-more
returns-clause-more g c =
    let some = per_some c.args.order c.args.shape.cluster c.requires.order c.args.shape.shortest in
    omega (arith, some, c.per_block_of.ensures, c.len.ensures, c.min-count.ensures, c.in_ok-put_counts.ensures.len, c.requires.few)

pub returns-clause-told : goal.returns-clause-told
returns-clause-told g c = λ (told : IsTrue (g.S.Storage.features c.args.storage.now).tells_bytes).
    let B = g.S.Storage.bytes c.args.storage.now in
    let order = c.args.order in
    let cluster = c.args.shape.cluster in
    let start = c.in-Some.start in
    let block = c.read.new.buf in
    let old = c.args.counts.now.items in
    let r : IsReadAt B start block = search rules in
    let whole : length block ≡ cluster = search rules in
    let n : c.min-count.result ≡ min (per_block order cluster) (c.args.shape.clusters - length old) = omega (arith, c.per_block_of.ensures, c.len.ensures, c.min-count.ensures) in
    let few : c.min-count.result ≤ per_block order (length block) = rw whole (omega (arith, n)) in
    let x : AppendsCounts (count_by order cluster B c.args.entry) c.min-count.result old c.put_counts.new.counts.items =
    appends_same (count_in order block 0) (count_by order cluster B c.args.entry) c.min-count.result old c.put_counts.new.counts.items
    (λ i below. count_read B block start r order i c.requires.order (omega (arith, below, few)) ∙ sym (c.in-Some.ensures.there order i B)) c.in_ok-put_counts.ensures in
    rw n at x
