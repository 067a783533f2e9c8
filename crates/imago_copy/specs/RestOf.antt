-- What is left of a disk that is compared.
-- SPDX-License-Identifier: MIT
use Rattle.std.specs.Prelude.{◌≡◌, ℕ, ◌+◌, ◌-◌, ◌^◌, ◌≤◌, ◌⊎◌, Option, Some, None}
use Rattle.imago_drivers.specs.View.{View}
use Rattle.imago_access.specs.declared.access.FormatAccess.{FormatAccess}
use Rattle.imago_access.specs.Chain.{driver}
use Rattle.imago_access.specs.Disk.{disk}
use Rattle.imago_access.specs.ReaderOf.{image_of as read_by, IsKeeping}
use Rattle.imago_access.specs.Target.{target}
use Rattle.imago_copy.specs.declared.runs.Run.{Run}
use Rattle.imago_copy.specs.Runs.{IsRunAt}
use Rattle.imago_copy.specs.declared.compare.Rest.{Rest}
use Rattle.imago_copy.specs.RunsOf.{image_of, at_of, IsReady}
use Rattle.imago_copy.specs.Compared.{IsZeroIn}

-- the image whose disk it is
abbrev pub disk_of : {D : Type 0} → Rest D → FormatAccess D
disk_of r = image_of r.runs

-- where the run at hand ends
abbrev pub end_of : {D : Type 0} → Rest D → ℕ
end_of r = r.end

-- a run of an image is at hand, which begins no later than that offset and ends at the other; or
-- none is
abbrev pub IsAtHand :
    {D St : Type 0} → (D → View St) → FormatAccess D → ℕ → ℕ → Option Run → Type 0
IsAtHand view x p end None = Unit {0}
IsAtHand view x p end (Some run) = IsRunAt (target view x) run.at run × (run.at ≤ p)
    × (run.at + run.count ≡ end) × (end ≤ (view (driver x)).size)

-- The run at hand ends where the next one begins, or behind the disk never, and not before that
-- offset; it is zero behind its data.
abbrev pub HasPart : {D St : Type 0} → (D → View St) → ℕ → Rest D → Type 0
HasPart view p r =
    IsReady view r.runs × ((r.end ≡ at_of r.runs) ⊎ (r.end ≡ 2 ^ 64 - 1)) × (p ≤ r.end)
    × (r.data_end ≤ r.end) × IsZeroIn (disk view (disk_of r)) r.data_end r.end
    × IsKeeping view r.reader × (read_by r.reader ≡ disk_of r)
    × IsAtHand view (disk_of r) p r.end r.run
