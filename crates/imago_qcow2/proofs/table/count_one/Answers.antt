-- SPDX-License-Identifier: MIT
use Rattle.std.proofs.Common.{rules, ◌≡◌, ◌*◌, ◌∷◌, [], suc, ap, length, length-append, None, arith}
use Rattle.std.specs.BTreeMap.{get}
use Rattle.std.specs.Ordering.{nat_cmp}
use Rattle.std.proofs.lemmas.Result.{err_from_is_err_and}
use Rattle.imago_storage.specs.declared.error.Error.{Error}
use Rattle.imago_qcow2.specs.Limit.{IsBeyond, with_offset}
use Rattle.imago_qcow2.proofs.LimitSteps.{account_more, account_full, full_by}
use Rattle.imago_qcow2.proofs.table.count_one.Goals as goal

pub returns-in_err-room-clause-refusals : goal.returns-in_err-room-clause-refusals
returns-in_err-room-clause-refusals c = λ offsets limit a.
    let none : get nat_cmp c.args.counted.now.numbers c.args.at ≡ None = search rules in
    let p = err_from_is_err_and c.from_residual.result c.from_residual.ensures.1 in
    rw (p.1, p.2) (full_by (λ e. e ≡ Error.Memory) (IsBeyond c.args.counted.now.room c.args.cluster) (IsBeyond limit (c.args.cluster * length (with_offset c.args.at offsets))) c.in_err-room.field-0.0
    (account_full offsets limit c.args.cluster c.args.at c.args.counted.now none a) c.in_err-room.ensures.full)

pub returns-clause-account : goal.returns-clause-account
returns-clause-account c = λ offsets limit a.
    let none : get nat_cmp c.args.counted.now.numbers c.args.at ≡ None = search rules in
    let items = c.in_ok-push.ensures.items in
    let more : length c.push.new.self.items ≡ suc (length c.args.counted.now.tables.items) = omega (arith, ap length items, length-append c.args.counted.now.tables.items (c.in_ok-empty.empty ∷ [])) in
    account_more offsets limit c.args.cluster c.args.at c.args.counted.now (record { tables = c.push.new.self; numbers = c.insert.new.self; room = c.in_ok-room.room }) c.len-number.result none a more c.in_ok-insert.ensures.updates c.in_ok-room.ensures.left
