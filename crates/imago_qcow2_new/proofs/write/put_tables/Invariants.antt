-- SPDX-License-Identifier: MIT
use Rattle.std.proofs.Common.{◌≡◌, ◌*◌}
use Rattle.imago_qcow2_new.specs.Space.{Fills}
use Rattle.imago_qcow2_new.specs.Layout.{entry_value}
use Rattle.imago_qcow2_new.proofs.write.put_tables.Given as goal

abbrev pub invariant-loop-table : goal.invariant-loop-table
invariant-loop-table g l = record {
  same : g.T.Target.made_for l.target ≡ g.T.Target.made_for l.initial.target;
  put : Fills l.layout.tables l.layout.tables_start (entry_value l.layout) (g.T.Target.contents l.initial.target) (g.T.Target.contents l.target) (l.table * l.layout.cluster);
}
