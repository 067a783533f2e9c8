-- SPDX-License-Identifier: MIT
use Rattle.imago_cow.specs.Table.{is_absent}
use Rattle.std.specs.Prelude.{IsTrue}
use Rattle.std.proofs.Common.{◌+◌, ◌-◌, arith, inl, inr}
use Rattle.imago_cow.proofs.CopyCallSteps.{whole_round, before_refused, round_then}
use Rattle.std.proofs.lemmas.Result.{err_from_is_err_and}
use Rattle.std.proofs.Math.Nat.{mod-le}
use Rattle.imago_drivers.specs.LayerBelow.{lent}
use Rattle.imago_cow.proofs.StoredSteps.{on_ok, ok_holds}
use Rattle.imago_cow.proofs.RoundSteps.{round_copied, not_false, only_false, not_true, round_allowed, round_if_allowed, in_block_part}
use Rattle.imago_cow.proofs.copy.copy_round.Goals as goal

pub returns-clause-copied : goal.returns-clause-copied
returns-clause-copied g c = λ keeps told.
    let keeps_on : IsTrue (g.S.Storage.features c.copy_old-2.new.storage).keeps_data = rw c.copy_old-2.ensures.call.features keeps in
    on_ok c.copy_old-3.result (λ x e.
    round_copied (lent g.B.LowerLayer.as_layer_below c.args.below).at (is_absent c.args.part.kind) c.args.part.overwrite (g.S.Storage.bytes c.copy_old-2.new.storage) _ c.args.part.offset c.args.part.run c.args.part.size c.args.part.block.length c.args.start c.min-count.result c.requires.positive
    (rw c.rest-rest.ensures.value at c.min-count.ensures) (not_false c.args.part.overwrite c.if-not-part.false) (rw c.rest-rest.ensures.value at (c.in_ok-copy_old.ensures.copied keeps told)) (ok_holds x e (rw c.rest-rest.ensures.value at (c.copy_old-3.ensures.copied keeps_on told))) (rw c.rest-rest.ensures.value at (c.copy_old-3.ensures.outside keeps_on)))

pub returns-then-not-part-clause-refusals : goal.returns-then-not-part-clause-refusals
returns-then-not-part-clause-refusals g c =
    let part = c.args.part in
    let rest = c.rest-rest.result in
    let count = c.min-count.result in
    round_if_allowed (g.S.Storage.features c.args.storage.now) (lent g.B.LowerLayer.as_layer_below c.args.below) (is_absent part.kind) part.overwrite part.block.length part.size part.offset part.run c.args.start (part.offset - rest) count c.args.start
    (omega arith) (omega (arith, c.min-count.ensures)) (in_block_part part.block.length part.size part.offset rest count (part.offset - rest) count 0 c.rest-rest.ensures.value c.min-count.ensures (omega arith) (omega arith))
    (λ over. absurd (not_true part.overwrite c.if-not-part.true over)) c.copy_old.result c.copy_old.ensures.refusals

pub returns-in_err-copy_old-clause-refusals : goal.returns-in_err-copy_old-clause-refusals
returns-in_err-copy_old-clause-refusals g c =
    let part = c.args.part in
    let rest = c.rest-rest.result in
    let count = c.min-count.result in
    let p = err_from_is_err_and c.from_residual.result c.from_residual.ensures.1 in
    rw (p.1, p.2) (round_allowed (g.S.Storage.features c.args.storage.now) (lent g.B.LowerLayer.as_layer_below c.args.below) (is_absent part.kind) part.overwrite part.block.length part.size part.offset part.run c.args.start (part.offset - rest) rest c.args.start
    (omega arith) (omega (arith, c.rest-rest.ensures.below)) (in_block_part part.block.length part.size part.offset rest count (part.offset - rest) rest 0 c.rest-rest.ensures.value c.min-count.ensures (omega arith) (omega (arith, c.min-count.ensures, c.rest-rest.ensures.below, c.rest-rest.ensures.value, c.requires.inside, mod-le part.offset part.block.length)))
    (λ over. inl (omega (arith, c.rest-rest.ensures.value, mod-le part.offset part.block.length))) c.in_err-copy_old.field-0.0 c.in_err-copy_old.ensures.refusals)

pub returns-clause-refusals : goal.returns-clause-refusals
returns-clause-refusals g c =
    let part = c.args.part in
    let rest = c.rest-rest.result in
    let count = c.min-count.result in
    let behind = rest + part.run in
    let r = mod-le part.offset part.block.length in
    round_if_allowed (g.S.Storage.features c.args.storage.now) (lent g.B.LowerLayer.as_layer_below c.args.below) (is_absent part.kind) part.overwrite part.block.length part.size part.offset part.run c.args.start (part.offset - rest + behind) (count - behind) (c.args.start + behind)
    (omega arith) (omega (arith, c.min-count.ensures, c.requires.in_block, c.rest-rest.ensures.value)) (in_block_part part.block.length part.size part.offset rest count (part.offset - rest + behind) (count - behind) behind c.rest-rest.ensures.value c.min-count.ensures (omega arith) (omega (arith, c.min-count.ensures, c.requires.in_block, c.requires.inside, c.rest-rest.ensures.value, r)))
    (λ over. inr (omega (arith, c.rest-rest.ensures.value, r))) c.copy_old-3.result (rw c.in_ok-copy_old.ensures.call.features at c.copy_old-3.ensures.refusals)

pub returns-then-not-part-clause-copies : goal.returns-then-not-part-clause-copies
returns-then-not-part-clause-copies g c =
    let part = c.args.part in
    whole_round g.S.Storage.features g.S.Storage.bytes g.S.Storage.fault_count g.S.Storage.work g.S.Storage.maintenance (lent g.B.LowerLayer.as_layer_below c.args.below) (is_absent part.kind) part.overwrite part.block.length part.size part.offset part.run c.args.start (part.offset - c.rest-rest.result) c.min-count.result c.args.storage.now _ _ (only_false part.overwrite c.if-not-part.true)
    (omega (arith, c.rest-rest.ensures.value)) c.min-count.ensures c.copy_old.ensures.copies

pub returns-in_err-copy_old-clause-copies : goal.returns-in_err-copy_old-clause-copies
returns-in_err-copy_old-clause-copies g c =
    let part = c.args.part in
    let p = err_from_is_err_and c.from_residual.result c.from_residual.ensures.1 in
    rw (p.1, p.2) (before_refused g.S.Storage.features g.S.Storage.bytes g.S.Storage.fault_count g.S.Storage.work g.S.Storage.maintenance (lent g.B.LowerLayer.as_layer_below c.args.below) (is_absent part.kind) part.overwrite part.block.length part.size part.offset part.run c.args.start (part.offset - c.rest-rest.result) c.rest-rest.result c.args.storage.now _ c.in_err-copy_old.field-0.0 (not_false part.overwrite c.if-not-part.false)
    (omega (arith, c.rest-rest.ensures.value)) c.rest-rest.ensures.value c.in_err-copy_old.ensures.copies)

pub returns-clause-copies : goal.returns-clause-copies
returns-clause-copies g c =
    let part = c.args.part in
    let r = mod-le part.offset part.block.length in
    round_then g.S.Storage.features g.S.Storage.bytes g.S.Storage.fault_count g.S.Storage.work g.S.Storage.maintenance (lent g.B.LowerLayer.as_layer_below c.args.below) (is_absent part.kind) part.overwrite part.block.length part.size part.offset part.run c.args.start (part.offset - c.rest-rest.result) c.rest-rest.result _ _ c.args.storage.now _ _ _ (not_false part.overwrite c.if-not-part.false)
    (omega (arith, c.rest-rest.ensures.value)) c.rest-rest.ensures.value (omega (arith, c.rest-rest.ensures.value, r)) (omega (arith, c.min-count.ensures)) c.in_ok-copy_old.ensures.copies c.copy_old-3.ensures.copies
