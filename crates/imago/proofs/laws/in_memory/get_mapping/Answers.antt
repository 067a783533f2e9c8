-- SPDX-License-Identifier: MIT
use Rattle.std.proofs.Common.{refl}
use Rattle.imago.proofs.laws.in_memory.get_mapping.Goals as goal

pub get_mapping-requires : goal.get_mapping-requires
get_mapping-requires c = record { faultless = λ s. (refl, refl) }
