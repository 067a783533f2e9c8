-- Which parts of a space of bytes are stored.
-- SPDX-License-Identifier: MIT
use Rattle.std.specs.Prelude.{◌≡◌, ℕ, ◌+◌, ◌-◌, ◌%◌, ◌<◌, ◌≤◌, Bool, true, false, List, [], ◌∷◌}
use Rattle.std.specs.Prelude.{if◌then◌else◌, nat_lt}
use Rattle.std.specs.Coded.{×_prop, le_prop}
use Rattle.std.proofs.Math.Nat.{ℕ_set}
use Rattle.imago_qcow2_new.specs.declared.extent.Extent.{Extent}
use Rattle.imago_qcow2_new.specs.declared.extent.Part.{Part}

-- an extent that begins there or behind, before which so many bytes are stored: it isn't empty,
-- and consists of whole units
abbrev pub IsExtentAt : ℕ → ℕ → ℕ → Extent → Type 0
IsExtentAt unit from before r =
    (from ≤ r.start) × ((0 < r.count) × ((r.before ≡ before)
    × ((r.start % unit ≡ 0) × (r.count % unit ≡ 0))))

-- extents in order from an offset on, which end at another one, before and behind which so many
-- bytes are stored
abbrev pub AreExtents : ℕ → ℕ → ℕ → ℕ → ℕ → List Extent → Type 0
AreExtents unit end stored from before [] = (from ≡ end) × (before ≡ stored)
AreExtents unit end stored from before (r ∷ rs) =
    IsExtentAt unit from before r
    × AreExtents unit end stored (r.start + r.count) (before + r.count) rs

extent-prop : (unit from before : ℕ) (r : Extent) → IsProp (IsExtentAt unit from before r)
extent-prop unit from before r =
    ×_prop le_prop (×_prop le_prop (×_prop (ℕ_set r.before before)
    (×_prop (ℕ_set (r.start % unit) 0) (ℕ_set (r.count % unit) 0))))

pub AreExtents-prop : (unit end stored from before : ℕ) (rs : List Extent)
    → IsProp (AreExtents unit end stored from before rs)
AreExtents-prop unit end stored from before [] = ×_prop (ℕ_set from end) (ℕ_set before stored)
AreExtents-prop unit end stored from before (r ∷ rs) = ×_prop (extent-prop unit from before r)
    (AreExtents-prop unit end stored (r.start + r.count) (before + r.count) rs)

-- whether an offset is stored, and how many bytes are stored before it
pub record Spot : Type 0 where
  pub stored : Bool
  pub before : ℕ

-- what an offset of a space is, of which these extents are stored, and so many bytes in all
abbrev pub spot : ℕ → List Extent → ℕ → Spot
spot all [] p = record { stored = false; before = all }
spot all (r ∷ rs) p =
    if nat_lt p r.start then record { stored = false; before = r.before } else
    (if nat_lt p (r.start + r.count)
    then record { stored = true; before = r.before + (p - r.start) } else spot all rs p)

-- What stands from an offset of a space on: so many bytes are all stored, or none of them is.
pub record IsPart (all : ℕ) (rs : List Extent) (p : ℕ) (part : Part) : Type 0 where
  pub kind : (i : ℕ) → i < part.count → (spot all rs (p + i)).stored ≡ part.is_stored
  pub reached : (i : ℕ) → i ≤ part.count
      → (spot all rs (p + i)).before ≡ (if part.is_stored then part.before + i else part.before)
