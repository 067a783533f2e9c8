-- SPDX-License-Identifier: MIT
use Rattle.std.specs.Prelude.{◌≡◌, Result, Err}
use Rattle.imago_storage.specs.declared.error.Error.{Error}
use Rattle.imago_storage.specs.declared.error.Error.TheVariants.{Denied}
use Rattle.imago_storage.specs.Options.{OpenOptions}
use Rattle.imago_storage.specs.Openings.{Openings}

-- What an opening by a gate is: a relation of the options, the gate before, the gate after, and the
-- answer.
abbrev pub Opening : Type 0 → Type 0 → Type 1
Opening Gate S = OpenOptions → Gate → Gate → Result S Error → Type 0

-- no storage is opened
abbrev pub IsDenied : {Gate S : Type 0} → Opening Gate S
IsDenied options old new result = (result ≡ Err Denied) × (new ≡ old)

-- The answer is that of the storage's own opening by these options; the gate isn't changed.
abbrev pub IsPassedOn : {Gate S : Type 0} → Openings S → Opening Gate S
IsPassedOn openings options old new result = openings.opened options result × (new ≡ old)
