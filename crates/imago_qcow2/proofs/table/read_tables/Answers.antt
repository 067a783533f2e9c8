-- SPDX-License-Identifier: MIT
use Rattle.std.proofs.Common.{◌*◌, inl, ap, ◌∙◌, length}
use Rattle.std.proofs.lemmas.Result.{err_from_is_err_and}
use Rattle.imago_drivers.specs.Reasons.{allowed}
use Rattle.imago_qcow2.specs.Limit.{IsBeyond, NeedMore}
use Rattle.imago_qcow2.specs.Opening.{tables_reasons}
use Rattle.imago_qcow2.proofs.LimitSteps.{full_by, count_fault, tables_fault, read_within}
use Rattle.imago_qcow2.proofs.TableSteps.{first_refused}
use Rattle.imago_qcow2.proofs.table.read_tables.Goals as goal

pub returns-in_err-room-clause-refusals : goal.returns-in_err-room-clause-refusals
returns-in_err-room-clause-refusals g c =
    let F = g.S.Storage.features c.args.storage.now in
    let B = g.S.Storage.bytes c.args.storage.now in
    let p = err_from_is_err_and c.from_residual.result c.from_residual.ensures.1 in
    rw (p.1, p.2) (full_by (allowed (tables_reasons F B c.args.start c.args.count c.args.cluster)) (IsBeyond c.args.most (8 * c.args.count)) (NeedMore F B c.args.start c.args.count c.args.cluster c.args.most) c.in_err-room.field-0.0 (λ x. inl x) c.in_err-room.ensures.full)

pub returns-in_err-entries-clause-refusals : goal.returns-in_err-entries-clause-refusals
returns-in_err-entries-clause-refusals g c =
    let p = err_from_is_err_and c.from_residual-in_err-entries.result c.from_residual-in_err-entries.ensures.1 in
    rw (p.1, p.2) (first_refused (g.S.Storage.features c.args.storage.now) (g.S.Storage.bytes c.args.storage.now) c.args.start c.args.count c.args.cluster c.in_err-entries.field-0.0 c.in_err-entries.ensures.refusals)

pub returns-in_err-count_all-clause-refusals : goal.returns-in_err-count_all-clause-refusals
returns-in_err-count_all-clause-refusals g c =
    let F = g.S.Storage.features c.args.storage.now in
    let B = g.S.Storage.bytes c.args.storage.now in
    let p = err_from_is_err_and c.from_residual-in_err-count_all.result c.from_residual-in_err-count_all.ensures.1 in
    rw (p.1, p.2) (count_fault F B c.args.start c.args.count c.args.cluster c.deref.result.now c.args.most c.in_ok-room.room c.in_ok-room.ensures.left (record { len = ap length c.deref.ensures.value ∙ c.in_ok-entries.ensures.whole; read = rw c.deref.ensures.value c.in_ok-entries.ensures.read }) c.in_err-count_all.field-0.0 (c.in_err-count_all.ensures.refusals B c.requires.file))

pub returns-in_err-l1-clause-refusals : goal.returns-in_err-l1-clause-refusals
returns-in_err-l1-clause-refusals g c =
    let F = g.S.Storage.features c.args.storage.now in
    let B = g.S.Storage.bytes c.args.storage.now in
    let p = err_from_is_err_and c.from_residual-in_err-l1.result c.from_residual-in_err-l1.ensures.1 in
    rw (p.1, p.2) (tables_fault F B c.args.start c.args.count c.args.cluster c.deref-2.result.now c.args.most c.in_ok-room.room c.in_ok-room.ensures.left (record { len = ap length c.deref-2.ensures.value ∙ c.in_ok-entries.ensures.whole; read = rw c.deref-2.ensures.value c.in_ok-entries.ensures.read }) c.in_err-l1.field-0.0 c.in_err-l1.ensures.refusals)

pub returns-clause-counted : goal.returns-clause-counted
returns-clause-counted g c =
    let F = g.S.Storage.features c.args.storage.now in
    let B = g.S.Storage.bytes c.args.storage.now in
    read_within F B c.args.start c.args.count c.args.cluster c.deref.result.now c.args.most c.in_ok-room.room c.in_ok-room.ensures.left (record { len = ap length c.deref.ensures.value ∙ c.in_ok-entries.ensures.whole; read = rw c.deref.ensures.value c.in_ok-entries.ensures.read }) (c.in_ok-count_all.ensures.within B c.requires.file)
