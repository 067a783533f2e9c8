-- SPDX-License-Identifier: MIT
use Rattle.std.proofs.Common.{◌≡◌, ◌*◌, ◌≤◌}
use Rattle.imago_qcow2_new.specs.Layout.{AreNeeded}
use Rattle.imago_qcow2_new.proofs.l2.tables_of.Given as goal

abbrev pub invariant-loop-table : goal.invariant-loop-table
invariant-loop-table l = record {
  unit : l.tables.unit ≡ l.cluster;
  behind : l.tables.end ≤ l.table * l.cluster;
  needed : AreNeeded l.gap l.cluster l.stored l.tables l.table;
}
