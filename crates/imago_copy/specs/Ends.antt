-- What is known of a disk from where its storages end.
-- SPDX-License-Identifier: MIT
use Rattle.std.specs.Prelude.{◌≡◌, ℕ, ◌+◌, ◌<◌, ◌≤◌, Bool, IsTrue}
use Rattle.imago_drivers.specs.Place.{Value, Byte, Stored}
use Rattle.imago_drivers.specs.View.{View}
use Rattle.imago_access.specs.declared.access.FormatAccess.{FormatAccess}
use Rattle.imago_access.specs.Chain.{driver, tells_bytes}
use Rattle.imago_access.specs.Target.{Target, target}

-- A storage of the layer of that depth ends at n: what an offset leads to there, from n on, is 0.
abbrev pub IsEndOf : (ℕ → Target) → ℕ → ℕ → ℕ → Type 0
IsEndOf leads depth storage n =
    (p b o : ℕ) (w : Bool) → (leads p).depth ≡ depth
    → (leads p).place ≡ Stored b storage o w → n ≤ o → b ≡ 0

-- What offsets of an image lead to at that depth, a layer has itself, at an offset of its own; and
-- it tells its bytes where the image does.
abbrev pub IsLayerAt :
    {D St : Type 0} → (D → View St) → FormatAccess D → ℕ → FormatAccess D → Type 0
IsLayerAt view x depth y =
    ((p : ℕ) → (target view x p).depth ≡ depth
    → (q : ℕ) × ((view (driver y)).place q ≡ (target view x p).place))
    × (IsTrue (tells_bytes view x) → IsTrue (view (driver y)).abilities.tells_bytes)

-- of the n bytes of a disk from the offset o on, those behind the first m are zero
abbrev pub AreZeroBehind : (ℕ → Value) → ℕ → ℕ → ℕ → Type 0
AreZeroBehind at o m n = (i : ℕ) → m ≤ i → i < n → at (o + i) ≡ Byte 0
