-- Sums over indices.
-- SPDX-License-Identifier: MIT
use Rattle.std.specs.Prelude.{ℕ, zero, suc, ◌+◌, Bool, if◌then◌else◌}

-- the sum of the first n values
unfoldable pub total : (ℕ → ℕ) → ℕ → ℕ
total f zero = 0
total f (suc n) = total f n + f n

-- 1 for what is so
abbrev pub one_if : Bool → ℕ
one_if b = if b then 1 else 0
