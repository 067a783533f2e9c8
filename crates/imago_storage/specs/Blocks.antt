-- SPDX-License-Identifier: MIT
use Rattle.std.specs.Prelude.{◌≡◌, ℕ, ◌+◌, ◌%◌, ◌^◌, ◌<◌}
use Rattle.std.specs.Int.{next_multiple_of}
use Rattle.imago_storage.specs.Features.{Features, AreLawful, len_align}
use Rattle.imago_storage.specs.Padding.{IsPaddedRequest}

-- A request of any alignment, which is written or read as a part of a first block and then from the
-- next block's start on.
pub record IsInParts (f : Features) (block at n start len : ℕ) : Type 0 where
  pub lawful : AreLawful f
  pub is_block : block ≡ len_align f
  pub some : 0 < n
  pub padded : IsPaddedRequest f at n start len

-- Bytes that are written or read from a block's start on, as whole blocks and a part of a last one.
pub record IsInBlocks (f : Features) (block at n : ℕ) : Type 0 where
  pub lawful : AreLawful f
  pub is_block : block ≡ len_align f
  pub some : 0 < n
  pub start : at % f.req_align ≡ 0
  pub ends : at + next_multiple_of n block < 2 ^ 64
