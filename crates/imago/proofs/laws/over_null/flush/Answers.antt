-- SPDX-License-Identifier: MIT
use Rattle.std.proofs.Common.{refl}
use Rattle.imago.proofs.laws.over_null.flush.Goals as goal

pub flush-requires : goal.flush-requires
flush-requires c = record { faultless = λ s. (refl, refl) }

pub returns : goal.returns
returns c = c.flush.ensures.sure (λ z. z)
