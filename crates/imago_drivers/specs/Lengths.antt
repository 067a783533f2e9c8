-- SPDX-License-Identifier: MIT
use Rattle.std.specs.Prelude.{◌≡◌, ◌≢◌, ℕ, ◌+◌, ◌-◌, ◌<◌, ◌≤◌, length, max, if◌then◌else◌, nat_lt}
use Rattle.imago_storage.specs.Features.{Features, len_align}
use Rattle.imago_drivers.specs.View.{Stores}

-- how long a write of that range of a storage may make it: less than one alignment past the range's
-- end; an empty one, not at all
abbrev pub padded_to : Features → ℕ → ℕ → ℕ
padded_to f at n = if nat_lt 0 n then at + n + (len_align f - 1) else 0

-- A storage became no shorter, and where it grew by a call on that range, no longer than that.
pub record GrowsNear (f : Features) (at n before now : ℕ) : Type 0 where
  pub no_shorter : before ≤ now
  pub near : now ≤ max before (padded_to f at n)

-- no storage became shorter
abbrev pub AreNoShorter : Stores → Stores → Type 0
AreNoShorter old new = (index : ℕ) → length (old.bytes index) ≤ length (new.bytes index)

-- each storage became no longer than that, or is as long as it was
abbrev pub AreNoLonger : (ℕ → ℕ) → Stores → Stores → Type 0
AreNoLonger longest old new = (index : ℕ) → length (new.bytes index)
    ≤ max (length (old.bytes index)) (longest index)

-- What a call does to the lengths of the storages, if it doesn't resize: none becomes shorter, and
-- none longer than that.
pub record GrowTo (longest : ℕ → ℕ) (old new : Stores) : Type 0 where
  pub no_shorter : AreNoShorter old new
  pub no_longer : AreNoLonger longest old new

-- The n bytes of that storage from the offset on are written: it grows to less than one alignment
-- past them, and no other grows.
pub record GrowAt (storage offset n : ℕ) (old new : Stores) : Type 0 where
  pub no_shorter : AreNoShorter old new
  pub no_longer : length (new.bytes storage) ≤ max (length (old.bytes storage))
      (padded_to (old.features storage) offset n)
  pub others : (index : ℕ) → index < old.count → index ≢ storage → length (new.bytes index)
      ≡ length (old.bytes index)
