-- SPDX-License-Identifier: MIT
use Rattle.std.specs.Prelude.{◌≡◌, ◌≢◌, ℕ, ◌-◌, ◌⊎◌, List, ◌++◌, ◌∷◌, [], map, option_map, Result}
use Rattle.std.specs.Prelude.{Err}
use Rattle.std.specs.String.{string_bytes}
use Rattle.imago_storage.specs.declared.error.Error.{Error}
use Rattle.imago_storage.specs.declared.error.Error.TheVariants.{Denied, Memory}
use Rattle.imago_storage.specs.Options.{OpenOptions}
use Rattle.imago_drivers.specs.Opening.{Opening}
use Rattle.imago_test_drivers.specs.declared.gates.Asked.{Asked}
use Rattle.imago_test_drivers.specs.declared.gates.RecordingGate.{RecordingGate}
use Rattle.imago_test_drivers.specs.declared.gates.NthGate.{NthGate}

abbrev pub asked_options : Asked → OpenOptions
asked_options a = record {
  filename = option_map string_bytes a.filename;
  writable = a.writable;
  direct = a.direct;
}

abbrev pub gate_in : {G : Type 0} → RecordingGate G → G
gate_in g = g.inner

-- what a gate was asked, the first opening first
abbrev pub openings : {G : Type 0} → RecordingGate G → List OpenOptions
openings g = map asked_options g.asked.items

-- The opening is kept, and is that of the gate inside; without memory to keep it, it isn't passed
-- on.
abbrev pub IsRecorded : {G S : Type 0} → Opening G S → Opening (RecordingGate G) S
IsRecorded opened options old new result =
    (opened options (gate_in old) (gate_in new) result
    × (openings new ≡ openings old ++ options ∷ []))
    ⊎ ((result ≡ Err Memory) × (gate_in new ≡ gate_in old) × (openings new ≡ openings old))

abbrev pub refusing : {G : Type 0} → NthGate G → G
refusing g = g.inner

-- how many openings are left, with the one that is refused
abbrev pub openings_left : {G : Type 0} → NthGate G → ℕ
openings_left g = g.left

-- The last of the openings that are left is refused, and each other is that of the gate inside.
pub record IsNthOpening {G S : Type 0} (opened : Opening G S) (options : OpenOptions)
    (old new : NthGate G) (result : Result S Error) : Type 0 where
  pub refused : openings_left old ≡ 1 → (result ≡ Err Denied) × (refusing new ≡ refusing old)
  pub passed_on : openings_left old ≢ 1 → opened options (refusing old) (refusing new) result
  pub counted : openings_left new ≡ openings_left old - 1
