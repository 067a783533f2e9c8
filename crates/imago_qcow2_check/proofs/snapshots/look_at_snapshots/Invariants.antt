-- SPDX-License-Identifier: MIT
use Rattle.std.proofs.Common.{◌≡◌, ◌≤◌, length}
use Rattle.std.specs.Prelude.{IsTrue}
use Rattle.imago_qcow2_check.specs.Sums.{total}
use Rattle.imago_qcow2_check.specs.Snapshots.{snapshots_end, snapshot_at}
use Rattle.imago_qcow2_check.specs.Uses.{snapshot_uses, snapshot_faults}
use Rattle.imago_qcow2_check.specs.Tallies.{setting_of, Adds}
use Rattle.imago_qcow2_check.proofs.snapshots.look_at_snapshots.Given as goal

abbrev pub invariant-loop-index : goal.invariant-loop-index
invariant-loop-index g l = record {
  all : length l.tally.uses.items ≡ l.shape.clusters;
  behind : l.start ≤ l.end;
  ends : IsTrue (g.S.Storage.features l.storage).tells_bytes → l.end ≡ snapshots_end (g.S.Storage.bytes l.storage) l.start l._index;
  told : IsTrue (g.S.Storage.features l.storage).tells_bytes → Adds l.initial.tally l.tally
      (λ n. total (λ i. snapshot_uses (setting_of l.shape l.counts) (g.S.Storage.bytes l.storage) (snapshot_at (g.S.Storage.bytes l.storage) l.start i) n) l._index)
      (total (λ i. snapshot_faults (setting_of l.shape l.counts) (g.S.Storage.bytes l.storage) (snapshot_at (g.S.Storage.bytes l.storage) l.start i)) l._index);
}
