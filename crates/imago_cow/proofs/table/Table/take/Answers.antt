-- SPDX-License-Identifier: MIT
use Rattle.std.proofs.Common.{None, subst}
use Rattle.imago_cow.specs.Entries.{listed}
use Rattle.imago_cow.specs.Table.{IsEachOnce}
use Rattle.imago_cow.proofs.FreeSteps.{on_err}
use Rattle.imago_cow.proofs.TableSteps.{free_is_lowest, count_is_lowest}
use Rattle.imago_cow.proofs.table.Table.take.Goals as goal

pub returns-in-Some-clause-lowest : goal.returns-in-Some-clause-lowest
returns-in-Some-clause-lowest c =
    let t = c.args.self.now in
    let once : IsEachOnce t.free (listed t.entries) None t.count = subst (λ h. IsEachOnce t.free (listed t.entries) h t.count) c.requires t.each_once in
    free_is_lowest t.free (listed t.entries) None t.count c.in-Some.block c.in-Some.ensures.lowest once

pub returns-in_err-reserve-clause-none_free : goal.returns-in_err-reserve-clause-none_free
returns-in_err-reserve-clause-none_free c =
    let t = c.args.self.now in
    let once : IsEachOnce t.free (listed t.entries) None t.count = subst (λ h. IsEachOnce t.free (listed t.entries) h t.count) c.requires t.each_once in
    on_err c.from_residual.result _ (count_is_lowest t.free (listed t.entries) None t.count c.in_default.ensures.lowest once)

pub returns-in_err-make_room-clause-none_free : goal.returns-in_err-make_room-clause-none_free
returns-in_err-make_room-clause-none_free c =
    let t = c.args.self.now in
    let once : IsEachOnce t.free (listed t.entries) None t.count = subst (λ h. IsEachOnce t.free (listed t.entries) h t.count) c.requires t.each_once in
    on_err c.from_residual-in_err-make_room.result _ (count_is_lowest t.free (listed t.entries) None t.count c.in_default.ensures.lowest once)

pub returns-clause-lowest : goal.returns-clause-lowest
returns-clause-lowest c =
    let t = c.args.self.now in
    let once : IsEachOnce t.free (listed t.entries) None t.count = subst (λ h. IsEachOnce t.free (listed t.entries) h t.count) c.requires t.each_once in
    count_is_lowest t.free (listed t.entries) None t.count c.in_default.ensures.lowest once
