-- SPDX-License-Identifier: MIT
use Rattle.std.proofs.Common.{refl, ◌+◌}
use Rattle.imago_drivers.specs.Operation.{DiscardToZero}
use Rattle.imago_test_tables.proofs.ZeroSteps.{zeroed}
use Rattle.imago_test_tables.proofs.sparse.SparseFormatDriverInstance.discard_to_zero.Goals as goal

pub returns-clause-call : goal.returns-clause-call
returns-clause-call g c =
    let s = c.args.self.now in
    let e = c.put_part.ensures in
    zeroed (g.S.Storage.features s.storages.first) (g.S.Storage.features s.storages.second) (g.S.Storage.fault_count s.storages.first + g.S.Storage.fault_count s.storages.second + s.storages.faults)
    (g.S.Storage.bytes s.storages.first) (g.S.Storage.bytes s.storages.second) s.table.items c.put_part.new.table.items s.size s.settings s.short s.waiting c.args.offset c.args.count DiscardToZero
    c.requires.spent (refl, refl) c.put_part.result e.answered e.filled e.torn e.only e.barred e.beyond
