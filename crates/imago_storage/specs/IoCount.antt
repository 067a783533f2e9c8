-- SPDX-License-Identifier: MIT
use Rattle.std.specs.Prelude.{ℕ, ◌+◌, ◌*◌, ◌<◌, ◌≤◌, max, min}
use Rattle.imago_storage.specs.Features.{Features, len_align}
use Rattle.imago_storage.specs.Padding.{padded_length}

-- pure reads and writes so far, the bytes of each, and those of the longest write
pub record IoCount : Type 0 where
  pub reads : ℕ
  pub bytes_read : ℕ
  pub writes : ℕ
  pub bytes_written : ℕ
  pub longest_write : ℕ

-- at most so much was added
pub record AddsAtMost (r rb w wb : ℕ) (old new : IoCount) : Type 0 where
  pub reads : new.reads ≤ old.reads + r
  pub bytes_read : new.bytes_read ≤ old.bytes_read + rb
  pub writes : new.writes ≤ old.writes + w
  pub bytes_written : new.bytes_written ≤ old.bytes_written + wb
  pub longest_write : new.longest_write ≤ max old.longest_write wb

-- One write of n bytes reads at most two blocks, and no more than its padded range; it writes no
-- more than that, in three writes at most.
abbrev pub IsWriteWork : Features → ℕ → ℕ → IoCount → IoCount → Type 0
IsWriteWork f at n = AddsAtMost 2 (min (2 * len_align f) (padded_length f at n)) 3
    (padded_length f at n)

-- n bytes are written in pieces, as few as there can be, no write is longer than a piece, and
-- nothing is read. No bytes are one write.
pub record IsInPieces (piece n : ℕ) (old new : IoCount) : Type 0 where
  pub pieces : ℕ
  pub few : pieces * piece < max 1 n + piece
  pub work : AddsAtMost 0 0 pieces n old new
  pub short : new.longest_write ≤ max old.longest_write piece

-- n bytes that needn't be aligned are written in pieces, as few as there can be, and beside them so
-- many edges, for each of which at most two blocks are read, and three writes more are made.
pub record IsEdgedWork (edges block piece n : ℕ) (old new : IoCount) : Type 0 where
  pub pieces : ℕ
  pub few : pieces * piece < n + piece
  pub work : AddsAtMost (edges * 2) (edges * (2 * block)) (pieces + edges * 3)
      (n + edges * (2 * block)) old new

abbrev pub no_work : IoCount
no_work = record { reads = 0; bytes_read = 0; writes = 0; bytes_written = 0; longest_write = 0 }
