-- SPDX-License-Identifier: MIT
use Rattle.std.specs.Prelude.{◌≡◌, ℕ, true}
use Rattle.imago_storage.specs.Features.{Features}

-- the devices of a type of storages never fail, and none counts a fault
abbrev pub IsFaultless : {S : Type 0} → (S → Features) → (S → ℕ) → Type 0
IsFaultless {S} features fault_count = (s : S) → ((features s).is_reliable ≡ true)
    × (fault_count s ≡ 0)
