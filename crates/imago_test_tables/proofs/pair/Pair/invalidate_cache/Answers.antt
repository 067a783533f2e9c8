-- SPDX-License-Identifier: MIT
use Rattle.std.proofs.Common.{inl, inr, refl}
use Rattle.imago_test_tables.proofs.pair.Pair.invalidate_cache.Goals as goal

pub returns-in-Ok-clause-performed : goal.returns-in-Ok-clause-performed
returns-in-Ok-clause-performed g c = inl (c.in-Ok.ensures.performed, c.invalidate_cache-in-Ok.ensures.performed)

pub returns-in-Err-clause-performed : goal.returns-in-Err-clause-performed
returns-in-Err-clause-performed g c = inr (λ e. let z : ⊥ = cc in z, c.in-Err.ensures.performed, refl)
