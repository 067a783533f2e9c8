-- SPDX-License-Identifier: MIT
use Rattle.imago_session.proofs.LoadedSteps.{torn, refused}
use Rattle.imago_session.proofs.loaded.LoadedFileStorage.zero_in_place.Goals as goal

pub returns-clause-written : goal.returns-clause-written
returns-clause-written c = refused c.args.self.now c.args.offset _ _

pub returns-clause-torn : goal.returns-clause-torn
returns-clause-torn c = torn c.args.self.now c.args.offset _
