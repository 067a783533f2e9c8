-- Words of 8 bytes each.
-- SPDX-License-Identifier: MIT
use Rattle.std.specs.Prelude.{ℕ, ◌*◌, ◌/◌, ◌%◌, List, map, slice_index}
use Rattle.std.specs.List.{range_with_len}
use Rattle.std.specs.Int.{w64, to_be_bytes}

-- the byte at that offset of words, of which the k-th one is f k: 8 bytes each, the highest first
unfoldable pub byte_of : (ℕ → ℕ) → ℕ → ℕ
byte_of f p = slice_index (to_be_bytes w64 (f (p / 8))) (p % 8)

-- the bytes of n words, from that one on
abbrev pub words_from : (ℕ → ℕ) → ℕ → ℕ → List ℕ
words_from f from n = map (byte_of f) (range_with_len (8 * from) (8 * n))
