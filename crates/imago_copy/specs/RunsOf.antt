-- What is seen of the runs that are left.
-- SPDX-License-Identifier: MIT
use Rattle.std.specs.Prelude.{ℕ, ◌≤◌, Option}
use Rattle.imago_drivers.specs.View.{View}
use Rattle.imago_access.specs.declared.access.FormatAccess.{FormatAccess}
use Rattle.imago_access.specs.Chain.{driver}
use Rattle.imago_copy.specs.declared.runs.Run.{Run}
use Rattle.imago_copy.specs.declared.runs.Runs.{Runs}
use Rattle.imago_copy.specs.Runs.{IsRestOf}
use Rattle.imago_copy.specs.WayOf.{IsWayIn}

-- the image
abbrev pub image_of : {D : Type 0} → Runs D → FormatAccess D
image_of r = r.image.now

-- where the next one begins
abbrev pub at_of : {D : Type 0} → Runs D → ℕ
at_of r = r.at

-- the first mapping of the next run, if the disk doesn't end before it
abbrev pub next_of : {D : Type 0} → Runs D → Option Run
next_of r = r.next

-- what is at hand is the next mapping of the image, and the way is one in it
abbrev pub IsReady : {D St : Type 0} → (D → View St) → Runs D → Type 0
IsReady view r = IsRestOf view r.image.now r.at r.next
    × (r.at ≤ (view (driver r.image.now)).size) × IsWayIn view r.image.now r.way
