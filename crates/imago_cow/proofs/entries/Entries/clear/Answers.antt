-- SPDX-License-Identifier: MIT
use Rattle.imago_cow.specs.Packed.{unpacked}
use Rattle.imago_cow.specs.Entries.{listed}
use Rattle.imago_cow.proofs.EntrySteps.{map_replaced}
use Rattle.imago_cow.proofs.entries.Entries.clear.Goals as goal

pub returns-clause-entries : goal.returns-clause-entries
unfolding listed
returns-clause-entries c = map_replaced unpacked c.args.self.now.words.items c.args.index _ _ c.empty_word.ensures
