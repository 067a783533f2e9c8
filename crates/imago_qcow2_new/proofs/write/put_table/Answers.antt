-- SPDX-License-Identifier: MIT
use Rattle.imago_qcow2_new.proofs.TableSteps.{stored_table, empty_table}
use Rattle.imago_qcow2_new.proofs.write.put_table.Goals as goal

pub returns-then-part-clause-put : goal.returns-then-part-clause-put
returns-then-part-clause-put g c = λ first h.
    let part = c.part_at-part.result in
    stored_table c.args.layout.now c.args.table first (g.T.Target.contents c.args.target.now) (g.T.Target.contents c.put_words.new.target) part.is_stored part.before
    c.part_at-part.ensures.spot c.if-part.true h c.in_ok-put_words.ensures.put

pub returns-clause-put : goal.returns-clause-put
returns-clause-put g c = λ first h.
    let part = c.part_at-part.result in
    empty_table c.args.layout.now c.args.table first (g.T.Target.contents c.args.target.now) part.is_stored part.before
    c.part_at-part.ensures.spot c.if-part.false c.if-layout-ne0.false (λ i lt. c.is_empty.ensures c.if-not-is_empty.false i lt) h
