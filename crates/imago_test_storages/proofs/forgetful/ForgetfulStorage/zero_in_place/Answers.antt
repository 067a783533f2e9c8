-- SPDX-License-Identifier: MIT
use Rattle.imago_test_storages.proofs.Forgotten.{untold_outcome, untold_torn}
use Rattle.imago_test_storages.proofs.forgetful.ForgetfulStorage.zero_in_place.Goals as goal

pub returns-clause-written : goal.returns-clause-written
returns-clause-written g c =
    untold_outcome _ (g.S.Storage.bytes c.args.self.now.inner) _ _ _ _ c.zero_in_place.ensures.written

pub returns-clause-torn : goal.returns-clause-torn
returns-clause-torn g c =
    untold_torn _ (g.S.Storage.bytes c.args.self.now.inner) _ _ _ _ c.zero_in_place.ensures.written
