-- SPDX-License-Identifier: MIT
use Rattle.std.specs.Prelude.{◌≡◌, ℕ, ◌+◌, ◌^◌, ◌<◌, ◌≤◌, ◌⊎◌, Bool, IsTrue, Result, IsErrOf}
use Rattle.imago_storage.specs.declared.error.Error.{Error}
use Rattle.imago_storage.specs.declared.error.Error.TheVariants.{Device}

-- a count of faults rose, or stands at its greatest value
abbrev pub RoseOrSaturated : ℕ → ℕ → Type 0
RoseOrSaturated before now = (before < now) ⊎ (2 ^ 64 ≤ now + 1)

-- The count of faults doesn't fall, that of a reliable storage stays, and a refusal for the device
-- raises it.
pub record CountsFaults {T : Type 0} (is_reliable : Bool) (before now : ℕ) (result : Result T Error)
    : Type 0 where
  pub later : before ≤ now
  pub reliable : IsTrue is_reliable → now ≡ before
  pub device : IsErrOf result Device → RoseOrSaturated before now
