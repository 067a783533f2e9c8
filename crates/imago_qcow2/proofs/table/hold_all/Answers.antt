-- SPDX-License-Identifier: MIT
use Rattle.std.proofs.Common.{rules, ◌≡◌, ◌+◌, ◌*◌, ◌/◌, ◌≤◌, ◌++◌, ◌∷◌, [], ap, length, length-append, arith}
use Rattle.std.proofs.lemmas.Result.{err_from_is_err_and}
use Rattle.imago_qcow2.specs.Tables.{IsHeld, AreHeld, says_entry}
use Rattle.imago_qcow2.specs.Limit.{table_offsets}
use Rattle.imago_qcow2.proofs.LimitSteps.{account_first, account_step, hold_refused}
use Rattle.imago_qcow2.proofs.TableSteps.{says_is, held_more}
use Rattle.imago_qcow2.proofs.table.hold_all.Goals as goal

pub returns-in_err-hold-clause-refusals : goal.returns-in_err-hold-clause-refusals
returns-in_err-hold-clause-refusals g c =
    let B = g.S.Storage.bytes c.args.storage.now in
    let inside : 8 * c.loop-i.i + 8 ≤ length c.args.entries.now = omega (arith, c.loop-i-test.true) in
    let says = says_is B c.args.entries.now c.loop-i.i c.args.file c.args.cluster c.number64.result c.table_in-says.result c.requires.file c.number64.ensures c.table_in-says.ensures.says in
    let here = table_offsets B c.args.cluster c.args.entries.now c.loop-i.i in
    let h = c.in_err-hold.ensures.refusals here c.args.loaded.now.room c.loop-i.invariant.account in
    let p = err_from_is_err_and c.from_residual.result c.from_residual.ensures.1 in
    rw (p.1, p.2) (hold_refused B c.args.cluster c.args.entries.now c.loop-i.i c.table_in-says.result says (g.S.Storage.features c.args.storage.now) (length c.args.entries.now / 8) c.args.loaded.now.room c.in_err-hold.field-0.0 inside (omega (arith, inside)) h)

pub loop-i-init : goal.loop-i-init
loop-i-init g c = record {
  count = search rules;
  held = search rules;
  known = c.requires.known;
  account = account_first (g.S.Storage.bytes c.args.storage.now) c.args.cluster c.args.entries.now c.args.loaded.now.room c.args.loaded.now c.requires.account;
}

pub loop-i-preserved : goal.loop-i-preserved
loop-i-preserved g c =
    let F = g.S.Storage.features c.args.storage.now in
    let B = g.S.Storage.bytes c.args.storage.now in
    let entries = c.args.entries.now in
    let cluster = c.args.cluster in
    let xs = c.loop-i.l1.items in
    let t = c.in_ok-hold.field-0 in
    let says = says_is B entries c.loop-i.i c.args.file cluster c.number64.result c.table_in-says.result c.requires.file c.number64.ensures c.table_in-says.ensures.says in
    let count : length xs ≡ c.loop-i.i = c.loop-i.invariant.count in
    let held : IsHeld F B cluster c.hold.new.loaded.tables.items c.table_in-says.result t = c.in_ok-hold.ensures.held in
    let here : IsHeld F B cluster c.hold.new.loaded.tables.items (says_entry B cluster entries (length xs)) t = rw (count, ← says) held in
    let more : AreHeld F B cluster entries (xs ++ t ∷ []) c.hold.new.loaded.tables.items = held_more F B cluster entries xs c.loop-i.loaded.tables.items c.hold.new.loaded.tables.items t c.in_ok-hold.ensures.kept c.loop-i.invariant.held here in
    let items : c.push.new.self.items ≡ xs ++ t ∷ [] = c.in_ok-push.ensures.items in
    record {
      count = omega (arith, ap length items, length-append xs (t ∷ []), count);
      held = rw items more;
      known = c.in_ok-hold.ensures.known;
      account = account_step B cluster entries c.loop-i.i c.table_in-says.result says (c.loop-i.i + 1) c.args.loaded.now.room c.hold.new.loaded (omega arith) (c.in_ok-hold.ensures.account (table_offsets B cluster entries c.loop-i.i) c.args.loaded.now.room c.loop-i.invariant.account);
    }
