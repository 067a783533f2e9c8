-- SPDX-License-Identifier: MIT
use Rattle.std.specs.Prelude.{◌≡◌, ◌≢◌, ℕ, ◌+◌, ◌-◌, ◌%◌, ◌<◌, ◌≤◌, ◌⊎◌, ◌^◌, List, ◌++◌, length}
use Rattle.std.specs.Prelude.{min}
use Rattle.std.specs.Prelude.{replicate, Result, Ok, Err, IsOk, IsErrOf}
use Rattle.imago_storage.specs.declared.error.Error.{Error}
use Rattle.imago_storage.specs.Bytes.{splice, zero_extended, WriteOutcome}
use Rattle.imago_storage.specs.declared.error.Error.TheVariants.{Unsupported, Memory, WrapAround}
use Rattle.imago_storage.specs.declared.options.ZeroKind.{ZeroKind}
use Rattle.imago_storage.specs.Features.{Features, ZeroSupport, InPlace, AsData, NotOffered}
use Rattle.imago_storage.specs.Features.{MayBeUnsupported, len_align, zero_piece}
use Rattle.imago_storage.specs.IoCount.{IoCount, IsInPieces, IsEdgedWork}
use Rattle.imago_storage.specs.Maintenance.{Maintenance}
use Rattle.imago_storage.specs.Padding.{Wraps, RangeWraps, aligned_start, aligned_end}
use Rattle.imago_storage.specs.Steps.{write_steps, IsMadeInSteps, IsPureWrite, AreMadeInOrder}
use Rattle.imago_storage.specs.Steps.{some_range, pieces_of, one_piece_or_more, head_of}

-- Zeroes stand in the range, or the write of them was refused on the way. What grew ends by less
-- than an alignment past the range.
pub record HasZeroed {T : Type 0} (f : Features) (old : List ℕ) (at n : ℕ) (now : List ℕ)
    (result : Result T Error) : Type 0 where
  pub end : ℕ
  pub covers : at + n ≤ end
  pub near : end < at + n + len_align f
  pub written : WriteOutcome f.keeps_data old (zero_extended (splice old at (replicate n 0)) end)
      now result

-- The same of a range that may be empty: then nothing changed, and nothing was refused.
pub record ZeroedPart {T : Type 0} (f : Features) (old : List ℕ) (at n : ℕ) (now : List ℕ)
    (result : Result T Error) : Type 0 where
  pub some : 0 < n → HasZeroed f old at n now result
  pub none : n ≡ 0 → IsOk result × (now ≡ old)

-- The buffer holds zeroes alone, and that many of them at least.
pub record HasZeroes (n : ℕ) (buffer : List ℕ) : Type 0 where
  pub zeroes : buffer ≡ replicate (length buffer) 0
  pub enough : n ≤ length buffer

-- Some bytes, from a multiple of the request alignment on, are cut into pieces of whole blocks.
pub record IsCutInPieces (f : Features) (piece at n : ℕ) : Type 0 where
  pub positive : 0 < piece
  pub whole : piece % len_align f ≡ 0
  pub start : at % f.req_align ≡ 0
  pub some : 0 < n
  pub ends : at + n < 2 ^ 64

-- of a range with an aligned part, what stands before that part or behind it wraps around once it
-- is padded
abbrev pub EdgeWraps : Features → ℕ → ℕ → Type 0
EdgeWraps f at n = Wraps f at (aligned_start f.zero_align at - at)
    ⊎ Wraps f (aligned_end f.zero_align at n) (at + n - aligned_end f.zero_align at n)

-- The range as data wraps around: what stands before its first multiple of the request alignment,
-- or what follows.
abbrev pub DataWraps : Features → ℕ → ℕ → Type 0
DataWraps f at n = Wraps f at (min n (aligned_start f.req_align at - at))
    ⊎ Wraps f (aligned_start f.req_align at) (at + n - aligned_start f.req_align at)

-- The first bytes of a range, up to its first multiple of the request alignment where it doesn't
-- start on one. Where they or the rest wrap around once padded, the whole does as data; where
-- neither does, the whole doesn't.
pub record IsHead (f : Features) (at n first : ℕ) : Type 0 where
  pub positive : 0 < first
  pub within : first ≤ n
  pub rest_start : first < n → (at + first) % f.req_align ≡ 0
  pub wraps : Wraps f at first → DataWraps f at n
  pub fits : first ≡ n → ¬ Wraps f at first → ¬ DataWraps f at n
  pub rest_wraps : first < n → Wraps f (at + first) (n - first) → DataWraps f at n
  pub rest_fits : first < n → ¬ Wraps f at first → ¬ Wraps f (at + first) (n - first)
      → ¬ DataWraps f at n

-- the range has a part that is aligned for zero writes
abbrev pub HasPart : Features → ℕ → ℕ → Type 0
HasPart f at n = aligned_start f.zero_align at < aligned_end f.zero_align at n

abbrev pub part_length : Features → ℕ → ℕ → ℕ
part_length f at n = aligned_end f.zero_align at n - aligned_start f.zero_align at

-- a pure zero write of so many bytes isn't refused as unsupported for certain: as data it takes
-- whole multiples alone
abbrev pub MayBeOffered : ZeroSupport → ℕ → ℕ → Type 0
MayBeOffered z mem len = z ≡ AsData → len % mem ≡ 0

-- A zero write of the range may wrap around: the range does, or its edges, or the range as data
-- where it is made so.
pub record MayWrap (f : Features) (z : ZeroSupport) (at n : ℕ) : Type 0 where
  pub some : 0 < n
  pub why : RangeWraps f.zero_align at n
      ⊎ (HasPart f at n × MayBeOffered z f.mem_align (part_length f at n) × EdgeWraps f at n)
      ⊎ (((¬ HasPart f at n) ⊎ MayBeUnsupported z f.mem_align (part_length f at n))
      × DataWraps f at n)

-- A zero write of the range that succeeded didn't wrap around: nothing of it did that had to be
-- written.
pub record FitsZeroes (f : Features) (z : ZeroSupport) (at n : ℕ) : Type 0 where
  pub range : ¬ RangeWraps f.zero_align at n
  pub no_part : (¬ HasPart f at n) → ¬ DataWraps f at n
  pub in_place : HasPart f at n → z ≡ InPlace → ¬ EdgeWraps f at n
  pub whole_data : HasPart f at n → z ≡ AsData → part_length f at n % f.mem_align ≡ 0
      → ¬ EdgeWraps f at n
  pub odd_data : HasPart f at n → z ≡ AsData → part_length f at n % f.mem_align ≢ 0
      → ¬ DataWraps f at n
  pub either : HasPart f at n → z ≡ NotOffered → (¬ EdgeWraps f at n) ⊎ (¬ DataWraps f at n)

-- Zeroes are written to a range as data, by the steps of a write of them. A range that wraps around
-- once it is padded is refused, and nothing is called.
pub record IsZeroesWritten {S : Type 0} (features_of : S → Features) (bytes_of : S → List ℕ)
    (calls : Maintenance S) (at n : ℕ) (old new : S) (result : Result (Unit {0}) Error) : Type 0
  where
    pub made : (¬ Wraps (features_of old) at n)
        → IsMadeInSteps features_of bytes_of calls (len_align (features_of old))
        (write_steps (features_of old) at (replicate n 0)) old new result
    pub wraps : Wraps (features_of old) at n → (new ≡ old) × (result ≡ Err WrapAround)

-- An aligned range is zeroed as data: by pure writes of pieces, one after the other; or nothing is
-- called, where it is unsupported or there is no memory for the zeroes.
pub record IsZeroedAsData {S : Type 0} (features_of : S → Features) (bytes_of : S → List ℕ)
    (calls : Maintenance S) (work_of : S → IoCount) (f : Features) (at n : ℕ) (old new : S)
    (result : Result (Unit {0}) Error) : Type 0 where
  pub work : IsInPieces (zero_piece f) n (work_of old) (work_of new)
  pub performed : ((new ≡ old) × (IsErrOf result Unsupported ⊎ IsErrOf result Memory))
      ⊎ AreMadeInOrder
      (λ start count. IsPureWrite features_of bytes_of calls start (replicate count 0))
      (one_piece_or_more (zero_piece f) at n) old new result

-- An aligned zero write is the storage's own of that kind; or one in place, which isn't refused as
-- unsupported; or one in place that is, and then zeroes as data, behind which nothing else is
-- called.
abbrev pub IsAlignedZeroing : {S : Type 0} → (S → Features) → (S → List ℕ) → Maintenance S
    → (S → IoCount) → Features → ZeroKind → ℕ → ℕ → S → S → Result (Unit {0}) Error → Type 0
IsAlignedZeroing {S} features_of bytes_of calls work_of f kind at n old new result =
    calls.zeroed kind at n old new result
    ⊎ (calls.zeroed_in_place kind at n old new result × (result ≢ Err Unsupported))
    ⊎ ((mid : S) × calls.zeroed_in_place kind at n old mid (Err Unsupported)
    × IsZeroedAsData features_of bytes_of calls work_of f at n mid new result)

-- what stands before the part from `start` to `end` of a range, and what behind it
abbrev pub edge_ranges : ℕ → ℕ → ℕ → ℕ → List (ℕ × ℕ)
edge_ranges at n start end = some_range at (start - at) ++ some_range end (at + n - end)

-- A range that is written as data: up to its first multiple of the request alignment, and then in
-- pieces.
abbrev pub data_ranges : Features → ℕ → ℕ → List (ℕ × ℕ)
data_ranges f at n = some_range at (head_of f at n)
    ++ pieces_of (zero_piece f) (at + head_of f at n) (n - head_of f at n)

-- The aligned part of a range, from `start` to `end`, is zeroed by one aligned zero write of that
-- kind, before anything else. Its refusal is the answer; behind its success the edges are written
-- as data, which isn't unsupported.
pub record IsPartAndEdges {S : Type 0} (features_of : S → Features) (bytes_of : S → List ℕ)
    (calls : Maintenance S) (work_of : S → IoCount) (f : Features) (kind : ZeroKind)
    (at n start end : ℕ) (old new : S) (result : Result (Unit {0}) Error) : Type 0 where
  pub answer : Result (Unit {0}) Error
  pub between : S
  pub part : IsAlignedZeroing features_of bytes_of calls work_of f kind start (end - start) old
      between answer
  pub refused : (e : Error) → answer ≡ Err e → (new ≡ between) × (result ≡ Err e)
  pub edges : answer ≡ Ok tt → IsEdgedWork 2 (len_align f) (zero_piece f)
      (start - at + (at + n - end)) (work_of between) (work_of new) × (result ≢ Err Unsupported)
  pub edges_made : answer ≡ Ok tt → AreMadeInOrder (IsZeroesWritten features_of bytes_of calls)
      (edge_ranges at n start end) between new result

-- Where the zero write of the aligned part is unsupported, the whole range is written as data; or
-- nothing more is called, where there is no memory for the zeroes.
pub record IsPartThenData {S : Type 0} (features_of : S → Features) (bytes_of : S → List ℕ)
    (calls : Maintenance S) (work_of : S → IoCount) (f : Features) (kind : ZeroKind)
    (at n start end : ℕ) (old new : S) (result : Result (Unit {0}) Error) : Type 0 where
  pub between : S
  pub part : IsAlignedZeroing features_of bytes_of calls work_of f kind start (end - start) old
      between (Err Unsupported)
  pub data_work : IsEdgedWork 2 (len_align f) (zero_piece f) n (work_of between) (work_of new)
  pub data_made : ((new ≡ between) × IsErrOf result Memory)
      ⊎ AreMadeInOrder (IsZeroesWritten features_of bytes_of calls) (data_ranges f at n) between new
      result

-- A zero write of any range is made of its aligned part and the edges, or, that part being
-- unsupported, of data; of data alone, where it has no such part; or of nothing, where there is no
-- memory for the zeroes. Nothing else is called.
abbrev pub IsZeroedInParts : {S : Type 0} → (S → Features) → (S → List ℕ) → Maintenance S
    → (S → IoCount) → Features → ZeroKind → ℕ → ℕ → S → S → Result (Unit {0}) Error → Type 0
IsZeroedInParts features_of bytes_of calls work_of f kind at n old new result =
    ((new ≡ old) × IsErrOf result Memory)
    ⊎ (HasPart f at n × IsPartAndEdges features_of bytes_of calls work_of f kind at n
    (aligned_start f.zero_align at) (aligned_end f.zero_align at n) old new result)
    ⊎ (HasPart f at n × IsPartThenData features_of bytes_of calls work_of f kind at n
    (aligned_start f.zero_align at) (aligned_end f.zero_align at n) old new result)
    ⊎ ((¬ HasPart f at n) × IsEdgedWork 2 (len_align f) (zero_piece f) n (work_of old) (work_of new)
    × AreMadeInOrder (IsZeroesWritten features_of bytes_of calls) (data_ranges f at n) old new
    result)
