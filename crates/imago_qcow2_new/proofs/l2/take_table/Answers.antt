-- SPDX-License-Identifier: MIT
use Rattle.std.proofs.Common.{◌≡◌, true, false, sym, ◌∙◌}
use Rattle.imago_qcow2_new.proofs.NeedSteps.{needs_more, needs_less}
use Rattle.imago_qcow2_new.proofs.l2.take_table.Goals as goal

pub returns-then-not-is_needed-clause-needed : goal.returns-then-not-is_needed-clause-needed
returns-then-not-is_needed-clause-needed c = λ known.
    needs_less c.args.gap c.args.cluster c.args.clusters.now c.args.table c.args.tables.now c.requires.behind known
    (λ need. let z : true ≡ false = sym (c.is_needed.ensures.no need) ∙ c.if-not-is_needed.true in let y : ⊥ = cc z in y)

pub returns-clause-needed : goal.returns-clause-needed
returns-clause-needed c = λ known.
    needs_more c.args.gap c.args.cluster c.args.clusters.now c.args.table c.args.tables.now c.add_table.new.tables known
    c.in_ok-add_table.ensures.others c.in_ok-add_table.ensures.there (c.is_needed.ensures.yes c.if-not-is_needed.false)
