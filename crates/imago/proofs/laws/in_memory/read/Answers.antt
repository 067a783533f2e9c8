-- SPDX-License-Identifier: MIT
use Rattle.std.proofs.Common.{refl}
use Rattle.imago.proofs.laws.in_memory.read.Goals as goal

pub read-requires-clause-faultless : goal.read-requires-clause-faultless
read-requires-clause-faultless c = λ s. (refl, refl)

pub read-requires-clause-room : goal.read-requires-clause-room
read-requires-clause-room c = λ fits. c.requires.room

pub returns-clause-only : goal.returns-clause-only
returns-clause-only c = c.read.ensures.succeeds.refusals

pub returns-clause-aligned : goal.returns-clause-aligned
returns-clause-aligned c = λ a. c.read.ensures.succeeds.sure (a, λ z. z)
