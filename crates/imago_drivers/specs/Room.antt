-- SPDX-License-Identifier: MIT
use Rattle.std.specs.Prelude.{ℕ, ◌+◌, ◌^◌, ◌≤◌, max}
use Rattle.imago_storage.specs.Features.{Features, len_align}
use Rattle.imago_drivers.specs.Operation.{Operation, Map, Read, Write, Zero, DiscardToZero}
use Rattle.imago_drivers.specs.Operation.{DiscardToAny, DiscardToBacking, Grow, Shrink, Flush}

-- The range ends at least one alignment before the greatest offset, so nothing of it wraps around
-- when it is padded.
abbrev pub HasRoom : Features → ℕ → ℕ → Type 0
HasRoom f o n = o + n + max (len_align f) f.zero_align ≤ 2 ^ 64

-- the operation reads, writes or zeroes a range of a storage, which is padded to the alignments
abbrev pub IsPadded : Operation → Type 0
IsPadded Read = Unit {0}
IsPadded Write = Unit {0}
IsPadded Zero = Unit {0}
IsPadded DiscardToZero = Unit {0}
IsPadded DiscardToBacking = Unit {0}
IsPadded DiscardToAny = ⊥
IsPadded Map = ⊥
IsPadded (Grow mode) = ⊥
IsPadded Shrink = ⊥
IsPadded Flush = ⊥
