-- SPDX-License-Identifier: MIT
use Rattle.imago_cow.specs.Table.{is_absent}
use Rattle.std.proofs.Common.{◌+◌, ◌-◌, ◌%◌, arith}
use Rattle.std.proofs.lemmas.Result.{err_from_is_err_and}
use Rattle.imago_drivers.specs.LayerBelow.{lent}
use Rattle.imago_cow.specs.Cut.{IsCutRead}
use Rattle.imago_cow.specs.GuestLaws.{rest_small}
use Rattle.imago_cow.proofs.CutSteps.{copy_refused, if_refused, reads_before, reads_behind}
use Rattle.imago_cow.proofs.GrowthCallSteps.{cut_first_refused, cut_both}
use Rattle.imago_cow.proofs.cut.fill_both.Goals as goal

pub returns-in_err-copy_old-clause-refusals : goal.returns-in_err-copy_old-clause-refusals
returns-in_err-copy_old-clause-refusals g c = λ limit entries new_size fits inside here.
    let cut = c.args.cut in
    let p = err_from_is_err_and c.from_residual.result c.from_residual.ensures.1 in
    rw (p.1, p.2) (copy_refused (g.S.Storage.features c.args.storage.now) (lent g.B.LowerLayer.as_layer_below c.args.below) (is_absent c.args.cut.kind) (cut.size - cut.size % cut.block.length) (cut.size % cut.block.length) c.args.start limit (IsCutRead cut.block.length cut.size entries (is_absent cut.new_kind) new_size) c.in_err-copy_old.field-0.0
    (omega (arith, fits, rest_small cut.block.length c.requires.positive cut.size)) (reads_before cut.block.length cut.size new_size entries (is_absent c.args.cut.kind) (is_absent cut.new_kind) c.requires.positive here) (rw c.rest-rest.ensures.value at c.in_err-copy_old.ensures.refusals))

pub returns-clause-refusals : goal.returns-clause-refusals
returns-clause-refusals g c = λ limit entries new_size fits inside here.
    let cut = c.args.cut in
    if_refused (g.S.Storage.features c.args.storage.now) (lent g.B.LowerLayer.as_layer_below c.args.below) (is_absent cut.new_kind) cut.size cut.count (c.args.start + c.rest-rest.result) limit (IsCutRead cut.block.length cut.size entries (is_absent cut.new_kind) new_size) c.copy_old-2.result
    (omega (arith, fits, c.requires.in_block.in_block, c.rest-rest.ensures.value)) (reads_behind cut.block.length cut.size cut.count new_size entries (is_absent cut.new_kind) inside) (rw c.in_ok-copy_old.ensures.call.features at c.copy_old-2.ensures.refusals)

pub returns-in_err-copy_old-clause-copies : goal.returns-in_err-copy_old-clause-copies
returns-in_err-copy_old-clause-copies g c =
    let cut = c.args.cut in
    let p = err_from_is_err_and c.from_residual.result c.from_residual.ensures.1 in
    rw (p.1, p.2) (cut_first_refused g.S.Storage.features g.S.Storage.bytes g.S.Storage.fault_count g.S.Storage.work g.S.Storage.maintenance (lent g.B.LowerLayer.as_layer_below c.args.below) (is_absent cut.kind) (is_absent cut.new_kind) cut.block.length cut.size cut.count c.args.start (cut.size - c.rest-rest.result) c.rest-rest.result c.args.storage.now _ c.in_err-copy_old.field-0.0
    (omega (arith, c.rest-rest.ensures.value)) c.rest-rest.ensures.value c.in_err-copy_old.ensures.copies)

pub returns-clause-copies : goal.returns-clause-copies
returns-clause-copies g c =
    let cut = c.args.cut in
    cut_both g.S.Storage.features g.S.Storage.bytes g.S.Storage.fault_count g.S.Storage.work g.S.Storage.maintenance (lent g.B.LowerLayer.as_layer_below c.args.below) (is_absent cut.kind) (is_absent cut.new_kind) cut.block.length cut.size cut.count c.args.start (cut.size - c.rest-rest.result) c.rest-rest.result c.args.storage.now _ _ _
    (omega (arith, c.rest-rest.ensures.value)) c.rest-rest.ensures.value c.in_ok-copy_old.ensures.copies c.copy_old-2.ensures.copies
