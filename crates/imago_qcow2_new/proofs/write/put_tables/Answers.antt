-- SPDX-License-Identifier: MIT
use Rattle.std.proofs.Common.{◌≡◌, ℕ, ◌+◌, ◌*◌, refl, subst, ◌∙◌, arith}
use Rattle.imago_qcow2_new.specs.Space.{Fills}
use Rattle.imago_qcow2_new.specs.Layout.{entry_value}
use Rattle.imago_qcow2_new.proofs.SpaceSteps.{begun}
use Rattle.imago_qcow2_new.proofs.write.put_tables.Goals as goal

pub loop-table-init : goal.loop-table-init
loop-table-init g c =
    let l = c.args.layout.now in
    let first = g.T.Target.contents c.args.target.now in
    let none : 0 ≡ 0 * l.cluster = omega arith in
    record {
      same = refl;
      put = subst (λ (n : ℕ). Fills l.tables l.tables_start (entry_value l) first first n) none (begun l.tables l.tables_start (entry_value l) first);
    }

pub loop-table-preserved : goal.loop-table-preserved
loop-table-preserved g c =
    let l = c.args.layout.now in
    let first = g.T.Target.contents c.args.target.now in
    let t : ℕ = c.loop-table.table in
    let e : t * l.cluster + l.cluster ≡ (t + 1) * l.cluster = omega arith in
    record {
      same = c.in_ok-put_table.ensures.same ∙ c.loop-table.invariant.same;
      put = subst (λ (n : ℕ). Fills l.tables l.tables_start (entry_value l) first (g.T.Target.contents c.put_table.new.target) n) e (c.in_ok-put_table.ensures.put first c.loop-table.invariant.put);
    }

pub returns-clause-put : goal.returns-clause-put
returns-clause-put g c =
    let l = c.args.layout.now in
    let all : c.loop-table.table ≡ l.header.l1_count = omega (arith, c.loop-table-test.false, c.loop-table.auto.table-end) in
    subst (λ (n : ℕ). Fills l.tables l.tables_start (entry_value l) (g.T.Target.contents c.args.target.now) (g.T.Target.contents c.loop-table.target) (n * l.cluster)) all c.loop-table.invariant.put
