-- SPDX-License-Identifier: MIT
use Rattle.std.proofs.Common.{◌≡◌, ◌*◌, length}
use Rattle.std.specs.Prelude.{IsTrue}
use Rattle.imago_qcow2.specs.Numbers.{be64}
use Rattle.imago_qcow2_check.specs.Sums.{total}
use Rattle.imago_qcow2_check.specs.Entries.{table_use, table_faults}
use Rattle.imago_qcow2_check.specs.Tallies.{setting_of, Adds}
use Rattle.imago_qcow2_check.proofs.tables.look_at_entries.Given as goal

abbrev pub invariant-loop-index : goal.invariant-loop-index
invariant-loop-index g l = record {
  all : length l.tally.uses.items ≡ l.shape.clusters;
  whole : length l.table ≡ l.shape.cluster;
  told : IsTrue (g.S.Storage.features l.storage).tells_bytes → Adds l.initial.tally l.tally
      (λ n. total (λ i. table_use (setting_of l.shape l.counts) (g.S.Storage.bytes l.storage) (be64 l.entries (8 * i)) n) l.index)
      (total (λ i. table_faults (setting_of l.shape l.counts) (g.S.Storage.bytes l.storage) l.place.active (be64 l.entries (8 * i))) l.index);
}
