-- SPDX-License-Identifier: MIT
use Rattle.std.specs.Prelude.{◌≡◌, ℕ, zero, suc, ◌⊎◌, List, Result, Ok}
use Rattle.imago_storage.specs.declared.error.Error.{Error}
use Rattle.imago_storage.specs.Features.{Features}
use Rattle.imago_drivers.specs.View.{Stores}

-- what that index names: the first, or the second for any other
abbrev pub at_index : {A : Type 0} → A → A → ℕ → A
at_index first second zero = first
at_index first second (suc i) = second

-- two storages of these features and bytes
abbrev pub pair_stores : Features → Features → List ℕ → List ℕ → Stores
pair_stores f g first second = record {
  count = 2;
  bytes = at_index first second;
  features = at_index f g;
}

-- A call of the first storage, and, where that succeeded, of the second: the first's refusal, or
-- the second's answer.
abbrev pub in_turn : {S : Type 0} → (S → S → Result Unit Error → Type 0) → S → S → S → S
    → Result Unit Error → Type 0
in_turn call first second new_first new_second result =
    (call first new_first (Ok tt) × call second new_second result)
    ⊎ ((result ≡ Ok tt → ⊥) × call first new_first result × (new_second ≡ second))
