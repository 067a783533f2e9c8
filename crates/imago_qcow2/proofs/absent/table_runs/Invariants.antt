-- SPDX-License-Identifier: MIT
use Rattle.std.proofs.Common.{◌≡◌, ℕ, ◌+◌, ◌/◌, ◌<◌, length, slice_get}
use Rattle.imago_qcow2.specs.declared.header.Header.{Header}
use Rattle.imago_qcow2.specs.declared.entry.GuestCluster.{GuestCluster}
use Rattle.imago_qcow2.specs.Tables.{held_cluster, loaded_of}
use Rattle.imago_qcow2.specs.Absent.{AreTableRuns}
use Rattle.imago_qcow2.proofs.absent.table_runs.Given as goal

abbrev pub invariant-loop-index : goal.invariant-loop-index
invariant-loop-index l = record {
  count : l.index + length l.runs.items ≡ length l.tables.l1.items;
  runs : (header : Header) (cluster : ℕ) → cluster / 8 ≡ l.entries
      → AreTableRuns (loaded_of header cluster l.tables) l.runs.items;
  run : (header : Header) (cluster : ℕ) → cluster / 8 ≡ l.entries → (j k : ℕ) → j < l.run
      → held_cluster (loaded_of header cluster l.tables) k
      (slice_get l.tables.l1.items (l.index + j)) ≡ GuestCluster.Absent;
}

abbrev pub decreases-loop-index : goal.decreases-loop-index
decreases-loop-index l = l.index
