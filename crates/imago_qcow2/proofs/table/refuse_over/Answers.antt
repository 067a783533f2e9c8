-- SPDX-License-Identifier: MIT
use Rattle.std.proofs.Common.{◌≡◌, length}
use Rattle.std.proofs.lemmas.Result.{err_from_is_err_and}
use Rattle.imago_qcow2.proofs.LimitSteps.{on_ok_more, if_err_all, entries_fault, counted_fault, counted_within}
use Rattle.imago_qcow2.proofs.table.refuse_over.Goals as goal

pub returns-in_err-room-clause-refusals : goal.returns-in_err-room-clause-refusals
returns-in_err-room-clause-refusals c =
    let p = err_from_is_err_and c.from_residual.result c.from_residual.ensures.1 in
    rw (p.1, p.2) (entries_fault c.args.file c.args.cluster c.args.most c.args.entries.now c.in_err-room.field-0.0 c.in_err-room.ensures.full)

pub returns-clause-within : goal.returns-clause-within
returns-clause-within c = λ bytes count is whole.
    on_ok_more c.count_all.result _ _ (c.count_all.ensures.within bytes is)
    (counted_within c.args.file c.args.cluster c.args.most c.args.entries.now c.in_ok-room.room c.in_ok-room.ensures.left bytes count whole)

pub returns-clause-refusals : goal.returns-clause-refusals
returns-clause-refusals c =
    if_err_all c.count_all.result (λ bytes. c.args.file ≡ length bytes) _ _ c.count_all.ensures.refusals
    (counted_fault c.args.file c.args.cluster c.args.most c.args.entries.now c.in_ok-room.room c.in_ok-room.ensures.left)
