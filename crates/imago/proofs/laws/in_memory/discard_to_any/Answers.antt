-- SPDX-License-Identifier: MIT
use Rattle.std.proofs.Common.{refl}
use Rattle.imago.proofs.laws.in_memory.discard_to_any.Goals as goal

pub discard_to_any-requires-clause-faultless : goal.discard_to_any-requires-clause-faultless
discard_to_any-requires-clause-faultless c = λ s. (refl, refl)

pub returns-clause-only : goal.returns-clause-only
returns-clause-only c = c.discard_to_any.ensures.succeeds.refusals

pub returns-clause-aligned : goal.returns-clause-aligned
returns-clause-aligned c = λ a. c.discard_to_any.ensures.succeeds.sure (a, λ z. z)
