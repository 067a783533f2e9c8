-- Bytes that are put into a target.
-- SPDX-License-Identifier: MIT
use Rattle.std.specs.Prelude.{◌≡◌, ℕ, ◌≤◌, List, ◌++◌, take, length, Option, Some, None}

-- bytes were put behind what was there before, where that is known
abbrev pub IsAppended : Option (List ℕ) → Option (List ℕ) → List ℕ → Type 0
IsAppended None new xs = Unit {0}
IsAppended (Some old) new xs = new ≡ Some (old ++ xs)

-- the first ones of some bytes were, or none
abbrev pub IsPartlyAppended : Option (List ℕ) → Option (List ℕ) → List ℕ → Type 0
IsPartlyAppended None new xs = Unit {0}
IsPartlyAppended (Some old) new xs =
    (n : ℕ) × (n ≤ length xs) × (new ≡ Some (old ++ take n xs))
