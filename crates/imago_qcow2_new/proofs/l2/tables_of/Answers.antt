-- SPDX-License-Identifier: MIT
use Rattle.std.proofs.Common.{◌≡◌, ℕ, ◌+◌, ◌*◌, ◌≤◌, subst, arith}
use Rattle.imago_qcow2_new.specs.Layout.{AreNeeded}
use Rattle.imago_qcow2_new.proofs.NeedSteps.{none_needed}
use Rattle.imago_qcow2_new.proofs.l2.tables_of.Goals as goal

pub loop-table-init : goal.loop-table-init
loop-table-init c = record {
  unit = c.new-tables.ensures.unit;
  behind = omega (arith, c.new-tables.ensures.end);
  needed = none_needed c.args.gap c.args.cluster c.args.stored.now c.new-tables.result;
}

pub loop-table-preserved : goal.loop-table-preserved
loop-table-preserved c =
    let t : ℕ = c.loop-table.table in
    let e : (t + 1) * c.args.cluster ≡ t * c.args.cluster + c.args.cluster = omega arith in
    let near = c.in_ok-take_table.ensures.behind in
    record {
      unit = c.in_ok-take_table.ensures.unit;
      behind = omega (arith, e, near);
      needed = c.in_ok-take_table.ensures.needed c.loop-table.invariant.needed;
    }

pub returns-clause-inside : goal.returns-clause-inside
returns-clause-inside c =
    let all : c.loop-table.table ≡ c.args.count = omega (arith, c.loop-table-test.false, c.loop-table.auto.table-end) in
    subst (λ (n : ℕ). c.loop-table.tables.end ≤ n * c.args.cluster) all c.loop-table.invariant.behind

pub returns-clause-needed : goal.returns-clause-needed
returns-clause-needed c =
    let all : c.loop-table.table ≡ c.args.count = omega (arith, c.loop-table-test.false, c.loop-table.auto.table-end) in
    subst (λ (n : ℕ). AreNeeded c.args.gap c.args.cluster c.args.stored.now c.loop-table.tables n) all c.loop-table.invariant.needed
