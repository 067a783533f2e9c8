-- SPDX-License-Identifier: MIT
use Rattle.std.proofs.Common.{◌∙◌}
use Rattle.imago_cow.specs.TableView.{entries_of}
use Rattle.imago_cow.proofs.CutEntries.{restored_none, restored_some}
use Rattle.imago_cow.proofs.cut.restore_cut.Goals as goal

pub returns-in_default-clause-restored : goal.returns-in_default-clause-restored
returns-in_default-clause-restored c = λ old empty entered. restored_none c.args.block.length c.args.size old (entries_of c.args.table.now) (rw c.in_default.is at empty) entered

pub returns-clause-restored : goal.returns-clause-restored
returns-clause-restored c = λ old empty entered.
    rw c.number.ensures at c.clear.ensures.entries ∙ restored_some c.args.block.length c.args.size old (entries_of c.args.table.now) c.in-Some.kind (rw c.in-Some.is at empty) entered
