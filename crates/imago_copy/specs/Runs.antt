-- What the runs of a disk are.
-- SPDX-License-Identifier: MIT
use Rattle.std.specs.Prelude.{◌≡◌, ℕ, ◌+◌, ◌<◌, ◌≤◌, ◌&&◌, ◌==◌, Bool, true, false}
use Rattle.std.specs.Prelude.{Option, Some, None}
use Rattle.imago_drivers.specs.Place.{Value, Stored, Special}
use Rattle.imago_drivers.specs.View.{View}
use Rattle.imago_access.specs.declared.access.FormatAccess.{FormatAccess}
use Rattle.imago_access.specs.Chain.{driver}
use Rattle.imago_access.specs.Resolved.{LeadsToZero}
use Rattle.imago_access.specs.Target.{Target, target, told_depth}
use Rattle.imago_copy.specs.declared.runs.Kind.{Kind}
use Rattle.imago_copy.specs.declared.runs.Kind.TheVariants as K
use Rattle.imago_copy.specs.declared.runs.Run.{Run}

-- the i-th byte of a kind is what that offset of the disk leads to
abbrev pub Stands : Kind → ℕ → Target → Type 0
Stands K.Zero i t = (explicit : Bool) × LeadsToZero explicit t
Stands (K.Stored layer storage offset) i t =
    (layer ≡ told_depth t.depth)
    × ((b : ℕ) × (v : Bool) × (t.place ≡ Stored b storage (offset + i) v))
Stands (K.Special layer offset) i t = (layer ≡ told_depth t.depth)
    × ((b : Value) × (t.place ≡ Special b (offset + i)))

-- a run that begins at p: it isn't empty, and each of its bytes is what that offset leads to
abbrev pub IsRunAt : (ℕ → Target) → ℕ → Run → Type 0
IsRunAt leads p run =
    (run.at ≡ p) × (0 < run.count)
    × ((i : ℕ) → i < run.count → Stands run.kind i (leads (p + i)))

-- whether what is next goes on as n bytes of that kind
abbrev pub goes_on : Kind → ℕ → Kind → Bool
goes_on K.Zero n K.Zero = true
goes_on (K.Stored layer storage offset) n (K.Stored next_layer next_storage next_offset) =
    (layer == next_layer) && (storage == next_storage) && (offset + n == next_offset)
goes_on _ n _ = false

-- a run begins at an offset, if the disk of that size doesn't end there
abbrev pub IsRestFrom : (ℕ → Target) → ℕ → ℕ → Option Run → Type 0
IsRestFrom leads size p None = size ≤ p
IsRestFrom leads size p (Some run) = IsRunAt leads p run × (p + run.count ≤ size)

-- the same of an image
abbrev pub IsRestOf : {D St : Type 0} → (D → View St) → FormatAccess D → ℕ → Option Run → Type 0
IsRestOf view x p run = IsRestFrom (target view x) (view (driver x)).size p run

-- The next run of a disk from an offset on, and where it ends: none where the disk ends there.
abbrev pub IsNextRun :
    {D St : Type 0} → (D → View St) → FormatAccess D → ℕ → Option Run → ℕ → Type 0
IsNextRun view x p None q = ((view (driver x)).size ≤ p) × (q ≡ p)
IsNextRun view x p (Some run) q =
    IsRunAt (target view x) p run × (q ≡ p + run.count) × (q ≤ (view (driver x)).size)
