-- SPDX-License-Identifier: MIT
use Rattle.std.proofs.Common.{rules, ◌≡◌, ◌*◌, length, None}
use Rattle.std.specs.BTreeMap.{get}
use Rattle.std.specs.Ordering.{nat_cmp}
use Rattle.std.proofs.lemmas.Result.{err_from_is_err_and}
use Rattle.imago_drivers.specs.Reasons.{allowed}
use Rattle.imago_qcow2.specs.Limit.{IsBeyond, with_offset}
use Rattle.imago_qcow2.specs.Opening.{read_reasons}
use Rattle.imago_qcow2.proofs.LimitSteps.{account_more, account_full, full_by}
use Rattle.imago_qcow2.proofs.TableSteps.{known_at}
use Rattle.imago_qcow2.proofs.table.load.Goals as goal

pub returns-in-Some-clause-loaded : goal.returns-in-Some-clause-loaded
returns-in-Some-clause-loaded g c = known_at (g.S.Storage.features c.args.storage.now) (g.S.Storage.bytes c.args.storage.now) c.args.cluster c.args.loaded.now c.args.at c.in-Some.number.now c.in-Some.ensures.value c.requires.known

pub returns-in_err-room-clause-refusals : goal.returns-in_err-room-clause-refusals
returns-in_err-room-clause-refusals g c = λ offsets limit a.
    let none : get nat_cmp c.args.loaded.now.numbers c.args.at ≡ None = search rules in
    let p = err_from_is_err_and c.from_residual.result c.from_residual.ensures.1 in
    rw (p.1, p.2) (full_by (allowed (read_reasons (g.S.Storage.features c.args.storage.now) c.args.at c.args.cluster)) (IsBeyond c.args.loaded.now.room c.args.cluster) (IsBeyond limit (c.args.cluster * length (with_offset c.args.at offsets))) c.in_err-room.field-0.0
    (account_full offsets limit c.args.cluster c.args.at c.args.loaded.now none a) c.in_err-room.ensures.full)

pub returns-clause-account : goal.returns-clause-account
returns-clause-account g c = λ offsets limit a.
    let none : get nat_cmp c.args.loaded.now.numbers c.args.at ≡ None = search rules in
    account_more offsets limit c.args.cluster c.args.at c.args.loaded.now (record { tables = c.add.new.loaded.tables; numbers = c.add.new.loaded.numbers; room = c.in_ok-room.room }) c.in_ok-number.number none a c.in_ok-number.ensures.count c.in_ok-number.ensures.numbers c.in_ok-room.ensures.left
