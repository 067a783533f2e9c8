-- How a range of an image's disk leads down to one of its layers.
-- SPDX-License-Identifier: MIT
use Rattle.std.specs.Prelude.{◌≡◌, ℕ, ◌+◌, ◌<◌, Bool, None}
use Rattle.imago_drivers.specs.View.{View}
use Rattle.imago_drivers.specs.declared.mapping.ShallowMapping.{ShallowMapping}
use Rattle.imago_drivers.specs.declared.mapping.ShallowMapping.TheVariants as S
use Rattle.imago_access.specs.declared.access.FormatAccess.{FormatAccess}
use Rattle.imago_access.specs.Chain.{backing}
use Rattle.imago_access.specs.Target.{target, deeper}

-- What the n offsets of an image from o on lead to is, so many layers further down, what those of
-- that layer from p on lead to.
abbrev pub LeadAlong :
    {D St : Type 0} → (D → View St) → FormatAccess D → ℕ → FormatAccess D → ℕ → ℕ → ℕ → Bool
    → Type 0
LeadAlong view x o layer hops p n writable =
    (i : ℕ) → i < n → target view x (o + i) ≡ deeper hops writable (target view layer (p + i))

-- what a mapping leaves to the layer below is left to none
abbrev pub IsLast : {D : Type 0} → ShallowMapping → FormatAccess D → Type 0
IsLast (S.Indirect offset writable) layer = backing layer ≡ None
IsLast (S.Raw storage offset writable) layer = Unit {0}
IsLast (S.Zero explicit) layer = Unit {0}
IsLast S.Eof layer = Unit {0}
IsLast (S.Special offset) layer = Unit {0}
