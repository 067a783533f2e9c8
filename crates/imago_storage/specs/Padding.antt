-- SPDX-License-Identifier: MIT
use Rattle.std.specs.Prelude.{◌≡◌, ℕ, ◌+◌, ◌-◌, ◌%◌, ◌^◌, ◌<◌, ◌≤◌, ◌⊎◌, ◌↔◌}
use Rattle.std.specs.Int.{next_multiple_of}
use Rattle.imago_storage.specs.Features.{Features, AreLawful, IsAlignedRequest, IsAlignedTo}
use Rattle.imago_storage.specs.Features.{len_align}

-- The padded range of a request is the one that an aligned request covers it with. It starts on the
-- request alignment.
abbrev pub padded_start : Features → ℕ → ℕ
padded_start f at = at - at % f.req_align

-- the padded range's length, from its start up to the request's end and on to a multiple
abbrev pub padded_length : Features → ℕ → ℕ → ℕ
padded_length f at n = next_multiple_of (at % f.req_align + n) (len_align f)

abbrev pub padded_end : Features → ℕ → ℕ → ℕ
padded_end f at n = padded_start f at + padded_length f at n

-- the padded range of a request that isn't empty passes the greatest offset
abbrev pub Wraps : Features → ℕ → ℕ → Type 0
Wraps f at n = (0 < n) × (2 ^ 64 ≤ padded_end f at n)

-- A padded request is refused where the end, the end rounded up, or the padded end passes the
-- greatest offset.
abbrev pub WrapCauses : Type 0
WrapCauses = (f : Features) → AreLawful f → (at n : ℕ) → 0 < n
    → Wraps f at n ↔ ((2 ^ 64 ≤ at + n) ⊎ (2 ^ 64 ≤ next_multiple_of (at + n) f.req_align)
    ⊎ (2 ^ 64 ≤ padded_end f at n))

-- An aligned request at `start` covers the one at `at` by less than an alignment on each side, or
-- is that one itself.
pub record IsPaddedRequest (f : Features) (at n start len : ℕ) : Type 0 where
  pub is_start : start ≡ padded_start f at
  pub is_len : len ≡ padded_length f at n
  pub aligned : IsAlignedRequest f start len
  pub before : start ≤ at
  pub near : at < start + f.req_align
  pub covers : at + n ≤ start + len
  pub small : len < at - start + n + len_align f
  pub same_start : IsAlignedRequest f at n → start ≡ at
  pub same_len : IsAlignedRequest f at n → len ≡ n

-- The aligned part of a range starts where it is rounded up, and ends where its end is rounded
-- down.
abbrev pub aligned_start : ℕ → ℕ → ℕ
aligned_start align at = next_multiple_of at align

abbrev pub aligned_end : ℕ → ℕ → ℕ → ℕ
aligned_end align at n = at + n - (at + n) % align

-- the range's end, or its start rounded up, passes the greatest offset
abbrev pub RangeWraps : ℕ → ℕ → ℕ → Type 0
RangeWraps align at n = (2 ^ 64 ≤ at + n) ⊎ (2 ^ 64 ≤ aligned_start align at)

-- From `start` to `end` is the aligned part of the range, which doesn't wrap around. It is empty
-- where it ends by its start.
pub record IsAlignedPart (align at n start end : ℕ) : Type 0 where
  pub is_start : start ≡ aligned_start align at
  pub is_end : end ≡ aligned_end align at n
  pub range_ends : at + n < 2 ^ 64
  pub start_fits : start < 2 ^ 64
  pub before : at ≤ start
  pub behind : end ≤ at + n
  pub aligned : start ≤ end → IsAlignedTo align start (end - start)

-- The aligned part of the range holds some bytes.
pub record IsSomePart (align at n start end : ℕ) : Type 0 where
  pub part : IsAlignedPart align at n start end
  pub some : start < end
