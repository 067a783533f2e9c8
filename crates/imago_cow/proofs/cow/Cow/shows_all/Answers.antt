-- SPDX-License-Identifier: MIT
use Rattle.imago_cow.proofs.cow.Cow.shows_all.Goals as goal

pub returns-clause-shown : goal.returns-clause-shown
returns-clause-shown g c = c.all_shown.ensures.shown (g.S.Storage.bytes c.args.self.now.storage)
