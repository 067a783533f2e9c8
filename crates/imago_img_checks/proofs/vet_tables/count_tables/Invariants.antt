-- SPDX-License-Identifier: MIT
use Rattle.std.proofs.Common.{◌≡◌, ◌*◌, ◌≤◌}
use Rattle.imago_qcow2.specs.Numbers.{be64}
use Rattle.imago_qcow2.specs.Entry.{table_in_entry}
use Rattle.imago_img_checks.specs.Vetted.{named_tables}
use Rattle.imago_img_checks.proofs.vet_tables.count_tables.Given as goal

abbrev pub invariant-loop-index : goal.invariant-loop-index
invariant-loop-index l = record {
  count : l.count ≡ named_tables
      (λ i. table_in_entry l.shape.file l.shape.cluster (be64 l.entries (8 * i))) l.index;
  most : l.count ≤ l.index;
}
