-- SPDX-License-Identifier: MIT
use Rattle.std.proofs.lemmas.Nat.{and_mask}
use Rattle.imago_cow.proofs.block.BlockSize.rest.Goals as goal

pub returns-clause-value : goal.returns-clause-value
returns-clause-value c = rw c.args.self.power (and_mask c.args.offset c.args.self.shift)
