-- SPDX-License-Identifier: MIT
use Rattle.imago_storage.proofs.Borrowed.{zeroed_behind}
use Rattle.imago_storage.proofs.lent.RefMutStorage.write_zeroes_as_data.Goals as goal

pub returns-clause-performed : goal.returns-clause-performed
returns-clause-performed g c = zeroed_behind g.S.Storage.features g.S.Storage.bytes g.S.Storage.maintenance _ g.S.Storage.work (λ at source a b r made. made) c.args.self.now _ _ _ _ _ _ c.write_zeroes_as_data.ensures.performed
