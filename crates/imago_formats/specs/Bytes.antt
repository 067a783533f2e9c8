-- What a probe sees of a file, and which bytes and numbers stand in it.
-- SPDX-License-Identifier: MIT
use Rattle.std.specs.Prelude.{ℕ, ◌+◌, ◌*◌, ◌^◌, Bool, List, ◌++◌, take, drop, replicate}
use Rattle.std.specs.Prelude.{nat_eq, slice_index}
use Rattle.std.specs.List.{starts_with}

-- What a probe sees of a file with these bytes: the first 512 of them, with zeroes behind the end
-- of a shorter one.
unfoldable pub head : List ℕ → List ℕ
head bytes = take 512 (bytes ++ replicate 512 0)

-- a text stands at that offset
abbrev pub stands : ℕ → List ℕ → List ℕ → Bool
stands at text bytes = starts_with nat_eq (drop at bytes) text

-- the number of the 4 bytes at that offset, the highest first
unfoldable pub be32 : ℕ → List ℕ → ℕ
be32 at bytes = slice_index bytes at * 2 ^ 24 + slice_index bytes (at + 1) * 2 ^ 16
    + slice_index bytes (at + 2) * 2 ^ 8 + slice_index bytes (at + 3)
