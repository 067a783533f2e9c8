-- A space of bytes of which some parts are stored in a file, one behind the other.
-- SPDX-License-Identifier: MIT
use Rattle.std.specs.Prelude.{◌≡◌, ℕ, ◌+◌, ◌/◌, ◌<◌, ◌≤◌, ◌⊎◌, List, length, slice_index, Option}
use Rattle.std.specs.Prelude.{Some, None, Bool, true, if◌then◌else◌}
use Rattle.imago_drivers.specs.Place.{Value, Byte}
use Rattle.imago_qcow2_new.specs.declared.extents.Extents.{Extents}
use Rattle.imago_qcow2_new.specs.Extents.{Spot, spot}

-- what an offset of a space is
abbrev pub spot_of : Extents → ℕ → Spot
spot_of e p = spot e.stored e.extents.items p

-- whether an offset of a space is stored
abbrev pub stores : Extents → ℕ → Bool
stores e p = (spot_of e p).stored

-- What was stored still is, and so are the bytes from one offset up to another; nothing else is.
pub record StoresMore (old new : Extents) (from to : ℕ) : Type 0 where
  pub kept : (p : ℕ) → stores old p ≡ true → stores new p ≡ true
  pub added : (p : ℕ) → from ≤ p → p < to → stores new p ≡ true
  pub only : (p : ℕ) → stores new p ≡ true → (stores old p ≡ true) ⊎ ((from ≤ p) × (p < to))

-- a byte that isn't 0 stands in the unit that an offset is in
abbrev pub HasData : ℕ → (ℕ → Value) → ℕ → Type 0
HasData unit values p =
    (q : ℕ) × (byte : ℕ) × (q / unit ≡ p / unit) × (values q ≡ Byte byte) × (0 < byte)

-- each unit that is stored has a byte that isn't 0
abbrev pub StoresData : Extents → (ℕ → Value) → Type 0
StoresData e values = (p : ℕ) → stores e p ≡ true → HasData e.unit values p

-- the byte at a spot of a space, whose stored bytes begin there in a file; 0 where none is stored
abbrev pub byte_at : ℕ → List ℕ → Spot → ℕ
byte_at start file s = if s.stored then slice_index file (start + s.before) else 0

-- The first n bytes of a space are these values, in a file that has their stored ones from the
-- start on, up to its end, behind what it had.
pub record IsFilled (e : Extents) (start : ℕ) (values : ℕ → Value) (had : List ℕ) (n : ℕ)
    (file : List ℕ) : Type 0 where
  pub kept : (p : ℕ) → p < start → slice_index file p ≡ slice_index had p
  pub inside : (p : ℕ) → p < n → values p ≡ Byte (byte_at start file (spot_of e p))
  pub len : length file ≡ start + (spot_of e n).before

-- the same of what a target has, and had where the space begins, where that is known
abbrev pub Fills : Extents → ℕ → (ℕ → Value) → Option (List ℕ) → Option (List ℕ) → ℕ → Type 0
Fills e start values None new n = Unit {0}
Fills e start values (Some had) new n = length had ≡ start
    → (file : List ℕ) × (new ≡ Some file) × IsFilled e start values had n file

-- n values from an offset on are 0
abbrev pub AreZero : (ℕ → Value) → ℕ → ℕ → Type 0
AreZero values at n = (i : ℕ) → i < n → values (at + i) ≡ Byte 0
