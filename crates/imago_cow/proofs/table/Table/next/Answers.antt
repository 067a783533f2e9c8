-- SPDX-License-Identifier: MIT
use Rattle.std.proofs.Common.{arith}
use Rattle.imago_cow.specs.Entries.{listed}
use Rattle.imago_cow.proofs.TableSteps.{free_is_lowest, count_is_lowest, free_is_below}
use Rattle.imago_cow.proofs.table.Table.next.Goals as goal

pub returns-in-Some-clause-lowest : goal.returns-in-Some-clause-lowest
returns-in-Some-clause-lowest c = let t = c.args.self.now in free_is_lowest t.free (listed t.entries) t.held t.count _ c.in-Some.ensures t.each_once

pub returns-in-Some-clause-none_free : goal.returns-in-Some-clause-none_free
returns-in-Some-clause-none_free c = λ e.
    let t = c.args.self.now in
    let b = free_is_below t.free (listed t.entries) t.held t.count _ c.in-Some.ensures t.each_once in
    absurd (omega (arith, b, e))

pub returns-in-None-clause-lowest : goal.returns-in-None-clause-lowest
returns-in-None-clause-lowest c = let t = c.args.self.now in count_is_lowest t.free (listed t.entries) t.held t.count c.in-None.ensures t.each_once

pub returns-in-None-clause-none_free : goal.returns-in-None-clause-none_free
returns-in-None-clause-none_free c = λ e. let t = c.args.self.now in omega (arith, c.in-None.ensures.count, t.all_counted, t.used_counted)
