-- What is seen of the way down to a layer.
-- SPDX-License-Identifier: MIT
use Rattle.std.specs.Prelude.{◌≡◌, ℕ, Bool}
use Rattle.imago_drivers.specs.Place.{Place}
use Rattle.imago_drivers.specs.View.{View}
use Rattle.imago_drivers.specs.declared.mapping.ShallowMapping.{ShallowMapping}
use Rattle.imago_access.specs.declared.access.FormatAccess.{FormatAccess}
use Rattle.imago_access.specs.Chain.{driver}
use Rattle.imago_access.specs.Target.{told_depth}
use Rattle.imago_copy.specs.declared.way.Way.{Way}
use Rattle.imago_copy.specs.Ways.{LeadAlong, IsLast}

-- where its range begins on the disk
abbrev pub at_of : {D : Type 0} → Way D → ℕ
at_of w = w.at

-- where it begins in the layer
abbrev pub offset_of : {D : Type 0} → Way D → ℕ
offset_of w = w.offset

-- how many bytes the range has
abbrev pub count_of : {D : Type 0} → Way D → ℕ
count_of w = w.count

-- what stands at each offset of the layer
abbrev pub place_of : {D St : Type 0} → (D → View St) → Way D → ℕ → Place
place_of view w = (view (driver w.layer.now)).place

-- the range of an image's disk leads to the layer, at that depth
abbrev pub IsWayIn : {D St : Type 0} → (D → View St) → FormatAccess D → Way D → Type 0
IsWayIn view x w = (hops : ℕ) × (writable : Bool) × (w.depth ≡ told_depth hops)
    × LeadAlong view x w.at w.layer.now hops w.offset w.count writable

-- a mapping of the layer is followed no further
abbrev pub EndsAt : {D : Type 0} → ShallowMapping → Way D → Type 0
EndsAt m w = IsLast m w.layer.now
