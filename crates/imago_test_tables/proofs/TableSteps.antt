-- SPDX-License-Identifier: MIT
use Rattle.std.proofs.Common.{ℕ, ◌+◌, ◌<◌, ◌≤◌, ⊎_elim, inl, inr, List, arith}
use Rattle.std.proofs.lemmas.Bool.{cases_lt}
use Rattle.imago_test_tables.specs.declared.table.Origin.{Origin}
use Rattle.imago_test_tables.specs.Table.{IsFilled, IsPartlyFilled}

-- what is filled is filled in part
pub filled_part : (o k n : ℕ) (origin : Origin) (old new : List Origin) → IsFilled o k origin old new → k ≤ n → IsPartlyFilled o n origin old new
filled_part o k n origin old new f h = record {
  len = f.len;
  each = λ p. ⊎_elim
      (λ below. inl (f.before p below))
      (λ above. ⊎_elim
      (λ under. let l : p < o + n = omega arith in inr ((above, l), f.inside p (above, under)))
      (λ over. inl (f.behind p over))
      (cases_lt p (o + k)))
      (cases_lt p o);
}
