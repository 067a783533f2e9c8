-- SPDX-License-Identifier: MIT
use Rattle.std.specs.Prelude.{◌≡◌, ℕ, ◌<◌, ◌≤◌, ◌⊎◌}
use Rattle.imago_storage.specs.Features.{Features}
use Rattle.imago_drivers.specs.View.{View}
use Rattle.imago_access.specs.declared.access.FormatAccess.{FormatAccess, FormatAccess'}
use Rattle.imago_access.specs.declared.access.FormatAccess.{Held-FormatAccess-backing, None', Some'}
use Rattle.imago_access.specs.declared.alignments.Alignment.{Alignment}
use Rattle.imago_access.specs.declared.alignments.Alignment.TheVariants as A

-- that alignment of a storage, in bytes
abbrev pub align_of : Alignment → Features → ℕ
align_of A.Request f = f.req_align
align_of A.Memory f = f.mem_align

-- one of so many storages has that alignment
abbrev pub HasStorage : (Features → ℕ) → (ℕ → Features) → ℕ → ℕ → Type 0
HasStorage of features count align = (index : ℕ) × (index < count) × (of (features index) ≡ align)

abbrev mutual
  -- a storage of the top layer, or of a layer below, has that alignment
  pub has_align : {D St : Type 0} → (D → View St) → (Features → ℕ) → FormatAccess D → ℕ → Type 0
  has_align view of (FormatAccess' below inner) align =
      HasStorage of (view inner).stores.features (view inner).stores.count align
      ⊎ has_align_below view of below align

  pub has_align_below : {D St : Type 0} → (D → View St) → (Features → ℕ)
      → Held-FormatAccess-backing D → ℕ → Type 0
  has_align_below view of None' align = ⊥
  has_align_below view of (Some' k x) align = has_align view of x align

-- The greatest of these alignments, each of which is at least 1, and 1 where there is none.
pub record IsGreatest (among : ℕ → Type 0) (n : ℕ) : Type 0 where
  pub above : (align : ℕ) → among align → align ≤ n
  pub positive : 0 < n
  pub reached : (n ≡ 1) ⊎ among n
