-- SPDX-License-Identifier: MIT
use Rattle.std.proofs.Common.{arith}
use Rattle.imago_qcow2_new.proofs.NeedSteps.{added_table, other_table, ends_at}
use Rattle.imago_qcow2_new.proofs.l2.add_table.Goals as goal

pub returns-clause-behind : goal.returns-clause-behind
returns-clause-behind c =
    let e = ends_at c.args.tables.now c.cover.new.self c.args.cluster c.args.table (omega (arith, c.requires.least)) c.requires.unit c.requires.behind c.in_ok-cover.ensures.more in
    let near = c.in_ok-cover.ensures.end in
    omega (arith, e, near, c.requires.behind)

pub returns-clause-there : goal.returns-clause-there
returns-clause-there c = added_table c.args.tables.now c.cover.new.self c.args.cluster c.args.table (omega (arith, c.requires.least)) c.requires.unit c.requires.behind c.in_ok-cover.ensures.more

pub returns-clause-others : goal.returns-clause-others
returns-clause-others c = other_table c.args.tables.now c.cover.new.self c.args.cluster c.args.table (omega (arith, c.requires.least)) c.requires.unit c.requires.behind c.in_ok-cover.ensures.more
