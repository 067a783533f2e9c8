-- SPDX-License-Identifier: MIT
use Rattle.std.proofs.Common.{◌≡◌, ◌-◌, ◌*◌, ◌<◌, ℕ, min, length}
use Rattle.std.specs.Prelude.{IsTrue, slice_index}
use Rattle.imago_qcow2_check.specs.Counts.{per_block}
use Rattle.imago_qcow2_check.specs.CountParts.{count_from, most_counted}
use Rattle.imago_qcow2_check.proofs.counts.put_blocks.Given as goal

abbrev pub invariant-each : goal.invariant-each
invariant-each g l = record {
  whole : length l.block ≡ l.shape.cluster;
  many : length l.counts.items ≡ min (l.index * per_block l.order l.shape.cluster) l.shape.clusters;
  told : IsTrue (g.S.Storage.features l.storage).tells_bytes → (n : ℕ) → n < length l.counts.items → slice_index l.counts.items n ≡ min (count_from l.order l.shape.cluster (g.S.Storage.bytes l.storage) l.table n) most_counted;
}

abbrev pub decreases-each : goal.decreases-each
decreases-each g l = l.shape.clusters - length l.counts.items
