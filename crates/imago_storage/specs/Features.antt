-- SPDX-License-Identifier: MIT
use Rattle.std.specs.Prelude.{◌≡◌, ◌≢◌, ℕ, ◌+◌, ◌%◌, ◌^◌, ◌<◌, ◌⊎◌, Bool, IsTrue, List, Option, max}
use Rattle.std.specs.Int.{IsPowerOfTwo}
use Rattle.imago_storage.specs.declared.options.ZeroKind.{ZeroKind}
use Rattle.imago_storage.specs.declared.options.ZeroKind.TheVariants as Kind

-- how a storage zeroes a range
pub data ZeroSupport : Type 0 where
  -- by itself, with no buffer
  InPlace : ZeroSupport
  -- by writing zeroes, where the range's length is a multiple of the memory alignment
  AsData : ZeroSupport
  -- it may refuse any range
  NotOffered : ZeroSupport

-- when a call takes memory
pub data MemoryUse : Type 0 where
  Never : MemoryUse
  ForGrowth : MemoryUse
  Any : MemoryUse

-- a call up to that end may run out of memory, on a storage of that length
abbrev pub MayRunOut : MemoryUse → ℕ → ℕ → Type 0
MayRunOut Never len end = ⊥
MayRunOut ForGrowth len end = len < end
MayRunOut Any len end = Unit {0}

-- What never changes in a storage. Alignments are in bytes.
pub record Features : Type 0 where
  -- the name that it can be opened by, if it has one
  pub filename : Option (List ℕ)
  pub mem_align : ℕ
  pub req_align : ℕ
  pub zero_align : ℕ
  pub discard_align : ℕ
  -- what is written stays, and is told
  pub keeps_data : Bool
  -- reads give the bytes that contracts name; where it doesn't, as over a file of the system, they
  -- name a length alone
  pub tells_bytes : Bool
  -- the device never fails
  pub is_reliable : Bool
  -- a refused write changes nothing
  pub atomic : Bool
  pub zeroes : ZeroSupport
  pub allocated_zeroes : ZeroSupport
  pub offers_discard : Bool
  pub offers_resize : Bool
  -- a resize adds zeroes in every mode
  pub grows_by_zeroes : Bool
  -- it tells what a relative name stands for
  pub resolves_paths : Bool
  pub read_memory : MemoryUse
  pub write_memory : MemoryUse
  pub zero_memory : MemoryUse
  pub resize_memory : MemoryUse
  pub other_memory : MemoryUse

-- The alignments are powers of two, and those of zero writes and discards are multiples of that of
-- requests. Data that is kept is told.
pub record AreLawful (f : Features) : Type 0 where
  pub mem : IsPowerOfTwo f.mem_align
  pub req : IsPowerOfTwo f.req_align
  pub zero : IsPowerOfTwo f.zero_align
  pub discard : IsPowerOfTwo f.discard_align
  pub zero_whole : f.zero_align % f.req_align ≡ 0
  pub discard_whole : f.discard_align % f.req_align ≡ 0
  pub told : IsTrue f.keeps_data → IsTrue f.tells_bytes

-- what a read's or write's length has to be a multiple of
abbrev pub len_align : Features → ℕ
len_align f = max f.req_align f.mem_align

-- how many zeroes are written as data at once: 1 MiB, or one block where that is more
abbrev pub zero_piece : Features → ℕ
zero_piece f = max (len_align f) 1048576

-- a read or write that the storage takes as it is
pub record IsAlignedRequest (f : Features) (at n : ℕ) : Type 0 where
  pub start : at % f.req_align ≡ 0
  pub whole : n % len_align f ≡ 0
  pub ends : at + n < 2 ^ 64

-- a zero write or discard that the storage takes as it is
pub record IsAlignedTo (align at n : ℕ) : Type 0 where
  pub start : at % align ≡ 0
  pub whole : n % align ≡ 0
  pub ends : at + n < 2 ^ 64

-- how zero writes of that kind are done
abbrev pub zero_support : Features → ZeroKind → ZeroSupport
zero_support f Kind.Any = f.zeroes
zero_support f Kind.Allocated = f.allocated_zeroes

-- a zero write of that many bytes may be refused as unsupported
pub record MayBeUnsupported (z : ZeroSupport) (mem_align n : ℕ) : Type 0 where
  pub not_in_place : z ≢ InPlace
  pub as_data : z ≡ AsData → n % mem_align ≢ 0

-- a read or write up to that end may run out of memory of the storage's own
abbrev pub RequestMayRunOut : Features → ℕ → ℕ → Type 0
RequestMayRunOut f len end = MayRunOut f.read_memory len end ⊎ MayRunOut f.write_memory len end

-- a call that is no read, write, zero write or resize may run out of memory
abbrev pub OthersMayRunOut : Features → Type 0
OthersMayRunOut f = MayRunOut f.other_memory 0 0

-- a zero write up to that end may do so, with its reads and writes
abbrev pub ZeroesMayRunOut : Features → ℕ → ℕ → Type 0
ZeroesMayRunOut f len end = RequestMayRunOut f len end ⊎ MayRunOut f.zero_memory len end
