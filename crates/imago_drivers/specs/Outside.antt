-- SPDX-License-Identifier: MIT
use Rattle.std.specs.Prelude.{◌≡◌, ℕ, ◌/◌, Bool, IsTrue}
use Rattle.imago_drivers.specs.Place.{Place, Stored, IsIn}

-- p lies in one block with one of the n offsets from o on, in blocks of so many bytes from offset
-- 0 on. For n = 0 nothing does.
abbrev pub SharesBlock : ℕ → ℕ → ℕ → ℕ → Type 0
SharesBlock block o n p = (q : ℕ) × IsIn o n q × (p / block ≡ q / block)

-- Each stored place but those that may move keeps where it stands and its mark; where the storages
-- keep data, all but those are as they were.
pub record StayBut (keeps_data : Bool) (moves : ℕ → Type 0) (old new : ℕ → Place) : Type 0 where
  pub stored : (p b s f : ℕ) (w : Bool) → (moves p → ⊥) → old p ≡ Stored b s f w
      → (c : ℕ) × (new p ≡ Stored c s f w)
  pub same : IsTrue keeps_data → (p : ℕ) → (moves p → ⊥) → new p ≡ old p

-- the places stay but those that share a block with the n from o on
abbrev pub StaysOutside : Bool → ℕ → ℕ → ℕ → (ℕ → Place) → (ℕ → Place) → Type 0
StaysOutside keeps block o n old new = StayBut keeps (SharesBlock block o n) old new
