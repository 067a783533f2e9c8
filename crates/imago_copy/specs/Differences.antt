-- Where two lists of bytes, and two disks, differ first.
-- SPDX-License-Identifier: MIT
use Rattle.std.specs.Prelude.{◌≡◌, ◌≢◌, ℕ, ◌<◌, List, slice_index, Option, Some, None}
use Rattle.imago_drivers.specs.Place.{Value}
use Rattle.imago_access.specs.Disk.{value_at}

-- two lists of bytes are the same before that offset; past the end of one it is 0
abbrev pub AreSameBefore : List ℕ → List ℕ → ℕ → Type 0
AreSameBefore xs ys n = (k : ℕ) → k < n → slice_index xs k ≡ slice_index ys k

-- where two lists of bytes differ first, if they do
abbrev pub IsFirstDifference : List ℕ → List ℕ → Option ℕ → Type 0
IsFirstDifference xs ys None = (k : ℕ) → slice_index xs k ≡ slice_index ys k
IsFirstDifference xs ys (Some p) = AreSameBefore xs ys p × (slice_index xs p ≢ slice_index ys p)

-- the same of two disks, as lists of values
abbrev pub IsFirstDifferentValue : List Value → List Value → Option ℕ → Type 0
IsFirstDifferentValue xs ys None = (k : ℕ) → value_at xs k ≡ value_at ys k
IsFirstDifferentValue xs ys (Some p) =
    ((k : ℕ) → k < p → value_at xs k ≡ value_at ys k) × (value_at xs p ≢ value_at ys p)
