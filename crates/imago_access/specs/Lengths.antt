-- SPDX-License-Identifier: MIT
use Rattle.std.specs.Prelude.{◌≡◌, ℕ, ◌⊎◌, max, min}
use Rattle.imago_drivers.specs.Operation.{Map}
use Rattle.imago_drivers.specs.Place.{Place, Stored, Zeroed, Special, Lower, Refused, End}
use Rattle.imago_drivers.specs.View.{View}
use Rattle.imago_access.specs.declared.access.FormatAccess.{FormatAccess, FormatAccess'}
use Rattle.imago_access.specs.declared.access.FormatAccess.{Held-FormatAccess-backing, None', Some'}
use Rattle.imago_access.specs.declared.mapping.Mapping.{Mapping}
use Rattle.imago_access.specs.Resolved.{IsEndOfImage}

-- How much of a range one mapping of a driver is for: at the end all of it, else what the driver
-- answers, cut to the range.
pub record IsOwnLength {St : Type 0} (v : View St) (o most n : ℕ) : Type 0 where
  pub at_end : v.place o ≡ End → n ≡ most
  pub inside : (v.place o ≡ End → ⊥) → (k : ℕ) × v.limits.answers Map o most o k × (n ≡ min k most)

-- a length of n at a reference to the layer below is followed there; at any other place it stays
abbrev pub is_followed : (ℕ → ℕ → ℕ → Type 0) → Place → ℕ → ℕ → Type 0
is_followed lower (Lower offset writable) k n = lower offset k n
is_followed lower (Stored byte storage offset writable) k n = n ≡ k
is_followed lower (Zeroed explicit) k n = n ≡ k
is_followed lower (Special byte offset) k n = n ≡ k
is_followed lower (Refused e) k n = n ≡ k
is_followed lower End k n = n ≡ k

abbrev mutual
  -- n bytes of the range of an image are resolved at once: each driver on the way maps so much of
  -- what the one above it does
  pub IsResolvedLength : {D St : Type 0} → (D → View St) → FormatAccess D → ℕ → ℕ → ℕ → Type 0
  IsResolvedLength view (FormatAccess' below inner) o most n = (k : ℕ)
      × IsOwnLength (view inner) o most k × length_below view below ((view inner).place o) k n

  pub length_below : {D St : Type 0} → (D → View St) → Held-FormatAccess-backing D → Place → ℕ → ℕ
      → Type 0
  length_below view None' place k n = n ≡ k
  length_below view (Some' h x) place k n = is_followed (IsResolvedLength view x) place k n

-- a mapping is as long as the drivers let it be, or is the end of the image; where nothing is asked
-- for it looks at one byte
abbrev pub IsFullLength : {D St : Type 0} → (D → View St) → FormatAccess D → ℕ → ℕ → Mapping → ℕ
    → Type 0
IsFullLength view x o most m n = IsEndOfImage m
    ⊎ ((k : ℕ) × IsResolvedLength view x o (max most 1) k × (n ≡ min k most))
