-- A file of which some blocks are in memory: its bytes, and which blocks those are.
-- SPDX-License-Identifier: MIT
use Rattle.std.specs.Prelude.{◌≡◌, ℕ, ◌+◌, ◌*◌, ◌%◌, ◌/◌, ◌<◌, ◌≤◌, List, map, slice_index}
use Rattle.std.specs.Prelude.{Option, Some, None, IsSome}
use Rattle.std.specs.List.{range_with_len}
use Rattle.std.specs.declared.sync.ArcSlice.{ArcSlice}
use Rattle.std.specs.Arc.{arc_slice_items}
use Rattle.std.specs.declared.alloc.Global.{Global}
use Rattle.std.specs.BTreeMap.{get}
use Rattle.std.specs.Ordering.{nat_cmp}
use Rattle.imago_session.specs.declared.loaded.LoadedFile.{LoadedFile}

-- a byte of a block, 0 where the block isn't in memory
abbrev pub byte_in : Option (ArcSlice ℕ Global) → ℕ → ℕ
byte_in None i = 0
byte_in (Some block) i = slice_index (arc_slice_items block) i

-- how many bytes a block of a file has, and the file
abbrev pub block_length : LoadedFile → ℕ
block_length f = f.block

abbrev pub file_length : LoadedFile → ℕ
file_length f = f.length

-- the block of that number, if it is in memory
abbrev pub block_at : LoadedFile → ℕ → Option (ArcSlice ℕ Global)
block_at f n = get nat_cmp f.blocks n

-- the byte at an offset of the file
abbrev pub loaded_byte : LoadedFile → ℕ → ℕ
loaded_byte f p = byte_in (block_at f (p / f.block)) (p % f.block)

-- all of the file
abbrev pub loaded_bytes : LoadedFile → List ℕ
loaded_bytes f = map (loaded_byte f) (range_with_len 0 f.length)

-- a block, if it is in memory, has the bytes of a file that are in it
abbrev pub IsBlockOf : List ℕ → ℕ → ℕ → Option (ArcSlice ℕ Global) → Type 0
IsBlockOf file length n None = Unit {0}
IsBlockOf file length n (Some block) =
    (i : ℕ) → i < length → slice_index (arc_slice_items block) i ≡ slice_index file (n * length + i)

-- what is in memory are bytes of that file
abbrev pub HasBytesOf : List ℕ → LoadedFile → Type 0
HasBytesOf file f = (n : ℕ) → IsBlockOf file f.block n (block_at f n)

-- the block of that number is in memory
abbrev pub IsThere : LoadedFile → ℕ → Type 0
IsThere f n = IsSome (block_at f n)

-- the blocks in which the n bytes from an offset on lie are in memory
abbrev pub AreThere : LoadedFile → ℕ → ℕ → Type 0
AreThere f at n = (p : ℕ) → at ≤ p → p < at + n → IsThere f (p / f.block)

-- Nothing that was in memory is let go, and the file has the same length, and the same blocks.
pub record Keeps (old new : LoadedFile) : Type 0 where
  pub len : new.length ≡ old.length
  pub block : new.block ≡ old.block
  pub kept : (n : ℕ) → IsThere old n → IsThere new n

-- the block of that number is loaded
pub record Loads (old new : LoadedFile) (n : ℕ) : Type 0 where
  pub keeps : Keeps old new
  pub there : IsThere new n
