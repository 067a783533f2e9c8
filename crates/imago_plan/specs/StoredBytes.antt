-- SPDX-License-Identifier: MIT
use Rattle.std.specs.Prelude.{ℕ, List}
use Rattle.imago_drivers.specs.Place.{Value, Byte, shown}
use Rattle.imago_drivers.specs.View.{View}
use Rattle.imago_access.specs.declared.access.FormatAccess.{FormatAccess}
use Rattle.imago_access.specs.Chain.{driver}
use Rattle.imago_access.specs.Disk.{values_from}
use Rattle.imago_access.specs.Target.{Target, target}
use Rattle.imago_vmdk.specs.Disk.{with_bytes}

-- what stands there is read as, where the storages of each layer have these bytes
abbrev pub target_value : (ℕ → ℕ → List ℕ) → Target → Value
target_value bytes t = shown (λ (q : ℕ). Byte 0) (with_bytes (bytes t.depth) t.place)

-- The disk of an image, as a list, where the storages of each layer have these bytes: each offset
-- leads where it does.
abbrev pub disk_with :
    {D St : Type 0} → (D → View St) → FormatAccess D → (ℕ → ℕ → List ℕ) → List Value
disk_with view x bytes =
    values_from (λ p. target_value bytes (target view x p)) 0 (view (driver x)).size
