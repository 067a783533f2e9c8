-- SPDX-License-Identifier: MIT
use Rattle.std.proofs.Common.{ℕ, ◌+◌, ◌<◌}
use Rattle.std.specs.Prelude.{slice_get}
use Rattle.imago_test_tables.specs.Table.{IsClear}
use Rattle.imago_test_tables.proofs.table.clear_run.Given as goal

abbrev pub invariant-loop-run : goal.invariant-loop-run
invariant-loop-run l = (k : ℕ) → k < l.run → IsClear (slice_get l.table (l.offset + k))
