-- SPDX-License-Identifier: MIT
use Rattle.std.proofs.lemmas.Nat.{and_mask}
use Rattle.imago_storage.proofs.align.remainder.Goals as goal

pub returns-clause-value : goal.returns-clause-value
returns-clause-value c = rw c.requires.1 (and_mask c.args.number c.requires.0)
