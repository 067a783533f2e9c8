-- Numbers from one to another.
-- SPDX-License-Identifier: MIT
use Rattle.std.specs.Prelude.{ℕ, ◌||◌, not, nat_lt, if◌then◌else◌}

-- 1 for the numbers from one on and before another
abbrev pub between : ℕ → ℕ → ℕ → ℕ
between first end n = if nat_lt n first || not (nat_lt n end) then 0 else 1
