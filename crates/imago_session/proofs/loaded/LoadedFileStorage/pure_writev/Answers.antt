-- SPDX-License-Identifier: MIT
use Rattle.imago_session.proofs.LoadedSteps.{raised}
use Rattle.imago_session.proofs.loaded.LoadedFileStorage.pure_writev.Goals as goal

pub returns-clause-written : goal.returns-clause-written
returns-clause-written c =
    let old = c.args.self.now in
    raised old (record { length = c.max-self.result; block = old.block; blocks = old.blocks; positive = old.positive }) c.args.offset c.args.source.now _ c.max-self.ensures
