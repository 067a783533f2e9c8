-- SPDX-License-Identifier: MIT
use Rattle.imago_cow.proofs.cow.CowFormatDriverInstance.get_mapping.Goals as goal

pub returns-clause-right : goal.returns-clause-right
returns-clause-right g c = c.map_place.ensures.right (g.S.Storage.bytes c.args.self.now.storage)
