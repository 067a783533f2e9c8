-- The runs of a disk, each of one layer.
-- SPDX-License-Identifier: MIT
use Rattle.std.specs.Prelude.{◌≡◌, ℕ, ◌+◌, ◌≤◌, true, List, [], ◌∷◌, Option, Some, None}
use Rattle.imago_drivers.specs.View.{View}
use Rattle.imago_access.specs.declared.access.FormatAccess.{FormatAccess}
use Rattle.imago_access.specs.Chain.{driver}
use Rattle.imago_access.specs.Target.{Target, target}
use Rattle.imago_copy.specs.declared.layers.LayerRun.{LayerRun}
use Rattle.imago_copy.specs.declared.layers.LayerRuns.{LayerRuns}
use Rattle.imago_copy.specs.Allocations.{AreAllocated}
use Rattle.imago_copy.specs.Runs.{IsRunAt, goes_on}
use Rattle.imago_copy.specs.WayOf.{IsWayIn}

-- a run that begins at p, of which the layer that is told has each byte, or none has one
abbrev pub IsLayerRunAt : (ℕ → Target) → ℕ → LayerRun → Type 0
IsLayerRunAt leads p r =
    IsRunAt leads p r.run × AreAllocated leads p r.run.count r.allocation

-- such runs, one behind the other, from one offset to another
abbrev pub AreLayerRuns : (ℕ → Target) → ℕ → List LayerRun → ℕ → Type 0
AreLayerRuns leads p [] q = p ≡ q
AreLayerRuns leads p (r ∷ rs) q =
    IsLayerRunAt leads p r × AreLayerRuns leads (p + r.run.count) rs q

-- A run goes on as the one that is next on the disk: as its kind does, and the same layer has both,
-- or none has.
abbrev pub GoesOn : LayerRun → LayerRun → Type 0
GoesOn r next = (goes_on r.run.kind r.run.count next.run.kind ≡ true)
    × (next.allocation ≡ r.allocation)

-- such a run begins at an offset, if the disk of that size doesn't end there
abbrev pub IsLayerRestFrom : (ℕ → Target) → ℕ → ℕ → Option LayerRun → Type 0
IsLayerRestFrom leads size p None = size ≤ p
IsLayerRestFrom leads size p (Some r) = IsLayerRunAt leads p r × (p + r.run.count ≤ size)

-- the same of an image
abbrev pub IsLayerRestOf :
    {D St : Type 0} → (D → View St) → FormatAccess D → ℕ → Option LayerRun → Type 0
IsLayerRestOf view x p r = IsLayerRestFrom (target view x) (view (driver x)).size p r

-- the next one of a disk from an offset on, and where it ends: none where the disk ends there
abbrev pub IsNextLayerRun :
    {D St : Type 0} → (D → View St) → FormatAccess D → ℕ → Option LayerRun → ℕ → Type 0
IsNextLayerRun view x p None q = ((view (driver x)).size ≤ p) × (q ≡ p)
IsNextLayerRun view x p (Some r) q = IsLayerRunAt (target view x) p r × (q ≡ p + r.run.count)
    × (q ≤ (view (driver x)).size)

-- the image
abbrev pub image_of : {D : Type 0} → LayerRuns D → FormatAccess D
image_of r = r.image.now

-- where the next one begins
abbrev pub at_of : {D : Type 0} → LayerRuns D → ℕ
at_of r = r.at

-- the first mapping of the next one, if the disk doesn't end before it
abbrev pub next_of : {D : Type 0} → LayerRuns D → Option LayerRun
next_of r = r.next

-- what is at hand is the next mapping of the image, and the way is one in it
abbrev pub AreReady : {D St : Type 0} → (D → View St) → LayerRuns D → Type 0
AreReady view r = IsLayerRestOf view r.image.now r.at r.next
    × (r.at ≤ (view (driver r.image.now)).size) × IsWayIn view r.image.now r.way
