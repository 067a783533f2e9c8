-- SPDX-License-Identifier: MIT
use Rattle.imago_test_tables.specs.Table.{IsFilled}
use Rattle.imago_test_tables.proofs.table.put_run.Given as goal

abbrev pub invariant-loop-done : goal.invariant-loop-done
invariant-loop-done l = IsFilled l.offset l.done l.origin l.fn.table.items l.table.items
