-- SPDX-License-Identifier: MIT
use Rattle.std.proofs.Common.{rules, ◌≡◌, ◌+◌, ◌*◌, ◌/◌, ◌≤◌, ℕ, None, refl, length, arith}
use Rattle.std.specs.BTreeMap.{get}
use Rattle.std.specs.Ordering.{nat_cmp}
use Rattle.std.proofs.lemmas.Result.{err_from_is_err_and}
use Rattle.imago_qcow2.specs.Limit.{table_offsets}
use Rattle.imago_qcow2.proofs.LimitSteps.{account_none, account_first, account_step, count_refused, within_room}
use Rattle.imago_qcow2.proofs.TableSteps.{says_is}
use Rattle.imago_qcow2.proofs.table.count_all.Goals as goal

pub returns-in_err-count_said-clause-refusals : goal.returns-in_err-count_said-clause-refusals
returns-in_err-count_said-clause-refusals c = λ bytes is.
    let entries = c.args.entries.now in
    let inside : 8 * c.loop-i.i + 8 ≤ length entries = omega (arith, c.loop-i-test.true) in
    let says = says_is bytes entries c.loop-i.i c.args.file c.args.cluster c.number64.result c.table_in-says.result is c.number64.ensures c.table_in-says.ensures.says in
    let h = c.in_err-count_said.ensures.refusals (table_offsets bytes c.args.cluster entries c.loop-i.i) c.args.room (c.loop-i.invariant.account bytes is) in
    let p = err_from_is_err_and c.from_residual.result c.from_residual.ensures.1 in
    rw (p.1, p.2) (count_refused bytes c.args.cluster entries c.loop-i.i c.table_in-says.result says (length entries / 8) c.args.room c.in_err-count_said.field-0.0 (omega (arith, inside)) h)

pub returns-clause-within : goal.returns-clause-within
returns-clause-within c = λ bytes is.
    let all : c.loop-i.i ≡ length c.args.entries.now / 8 = omega (arith, c.loop-i-test.false, c.loop-i.auto.i-end) in
    let a = c.loop-i.invariant.account bytes is in
    rw (← all) (within_room c.args.room c.loop-i.counted.room (c.args.cluster * length (table_offsets bytes c.args.cluster c.args.entries.now c.loop-i.i)) a.room)

pub loop-i-init : goal.loop-i-init
loop-i-init c =
    let none : (at : ℕ) → get nat_cmp c.new-2.result at ≡ None = λ at. search rules in
    record {
      account = λ bytes is. account_first bytes c.args.cluster c.args.entries.now c.args.room _ (account_none c.args.room c.args.cluster _ c.new.ensures.items none refl);
    }

pub loop-i-preserved : goal.loop-i-preserved
loop-i-preserved c = record {
  account = λ bytes is.
      let entries = c.args.entries.now in
      let says = says_is bytes entries c.loop-i.i c.args.file c.args.cluster c.number64.result c.table_in-says.result is c.number64.ensures c.table_in-says.ensures.says in
      account_step bytes c.args.cluster entries c.loop-i.i c.table_in-says.result says (c.loop-i.i + 1) c.args.room c.count_said.new.counted (omega arith) (c.in_ok-count_said.ensures.account (table_offsets bytes c.args.cluster entries c.loop-i.i) c.args.room (c.loop-i.invariant.account bytes is));
}
