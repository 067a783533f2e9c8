-- SPDX-License-Identifier: MIT
use Rattle.std.proofs.Common.{refl, inr, true, ◌+◌}
use Rattle.imago_drivers.specs.Operation.{DiscardToBacking}
use Rattle.imago_drivers.specs.Changes.{to_backing}
use Rattle.imago_test_tables.proofs.DiscardSteps.{discarded}
use Rattle.imago_test_tables.proofs.sparse.SparseFormatDriverInstance.discard_to_backing.Goals as goal

pub returns-clause-call : goal.returns-clause-call
returns-clause-call g c =
    let s = c.args.self.now in
    let e = c.put_part.ensures in
    discarded (g.S.Storage.features s.storages.first) (g.S.Storage.features s.storages.second) (g.S.Storage.fault_count s.storages.first + g.S.Storage.fault_count s.storages.second + s.storages.faults)
    (g.S.Storage.bytes s.storages.first) (g.S.Storage.bytes s.storages.second) s.table.items c.put_part.new.table.items s.size s.settings s.short s.waiting c.args.offset c.args.count DiscardToBacking (to_backing true)
    c.requires.spent (λ e. let z : ⊥ = cc in z) (refl, refl) (λ below k v. inr refl) c.put_part.result e.answered e.filled e.torn e.only e.barred e.beyond

pub returns-clause-performed : goal.returns-clause-performed
returns-clause-performed g c = let e = c.put_part.ensures in (record { answered = e.answered; filled = e.filled; torn = e.torn }, refl, refl)
