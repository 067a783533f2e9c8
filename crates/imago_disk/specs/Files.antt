-- Which files are one.
-- SPDX-License-Identifier: MIT
use Rattle.std.specs.Prelude.{ℕ, ◌&&◌, Bool, nat_eq}

-- whether two files are one, by their devices and numbers
abbrev pub is_one_file : ℕ × ℕ → ℕ × ℕ → Bool
is_one_file file other = nat_eq file.0 other.0 && nat_eq file.1 other.1
