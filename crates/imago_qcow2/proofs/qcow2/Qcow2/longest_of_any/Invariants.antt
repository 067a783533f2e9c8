-- SPDX-License-Identifier: MIT
use Rattle.std.proofs.Common.{◌-◌, ℕ, ◌+◌, ◌<◌, ◌≤◌}
use Rattle.imago_drivers.specs.Mapping.{Names}
use Rattle.imago_qcow2.specs.Tables.{loaded_of, loaded_place}
use Rattle.imago_qcow2.proofs.qcow2.Qcow2.longest_of_any.Given as goal

abbrev pub invariant-loop-count : goal.invariant-loop-count
invariant-loop-count g l = record {
  names : (i : ℕ) → i < l.count → Names l.mapping i (loaded_place (g.S.Storage.features l.self.storage) (loaded_of l.self.header l.self.cluster.length l.self.tables) (g.S.Storage.bytes l.self.storage) (l.offset + i));
  fits : l.offset + l.count ≤ l.self.header.size;
}

abbrev pub decreases-loop-count : goal.decreases-loop-count
decreases-loop-count g l = l.most - l.count
