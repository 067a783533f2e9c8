-- SPDX-License-Identifier: MIT
use Rattle.std.specs.Prelude.{◌≡◌, ℕ, Bool, List, Option}
use Rattle.imago_storage.specs.Features.{Features}
use Rattle.imago_drivers.specs.declared.format.Format.{Format}
use Rattle.imago_drivers.specs.Operation.{Operation}
use Rattle.imago_drivers.specs.Place.{Value, Place, IsIn, End}
use Rattle.imago_drivers.specs.Causes.{Causes, Copies}
use Rattle.imago_drivers.specs.Pending.{Pending}

-- What never changes in a driver.
pub record Abilities : Type 0 where
  pub format : Format
  pub is_writable : Bool
  -- places may lead to a layer below
  pub takes_backing : Bool
  -- its device never fails
  pub is_reliable : Bool
  -- its storages keep what is written
  pub keeps_data : Bool
  -- its storages tell their bytes
  pub tells_bytes : Bool
  pub zero_granularity : Option ℕ
  pub offers : Operation → Bool
  -- in blocks of so many bytes, from offset 0 on, a change may move where bytes stand; with 1 it
  -- moves none but those of its range
  pub block : ℕ

-- A driver's storages: how many there are, and of each, by its index, the bytes and what never
-- changes in it.
pub record Stores : Type 0 where
  pub count : ℕ
  pub bytes : ℕ → List ℕ
  pub features : ℕ → Features

-- What a driver's calls may meet, take and do, by their operation and range; for a resize the new
-- size and 0.
pub record Limits : Type 1 where
  -- the refusals that are the driver's own
  pub cause : Causes
  -- what of the layer below is copied
  pub copies : Copies
  -- it takes no memory
  pub no_memory : Operation → ℕ → ℕ → Type 0
  -- the commit of a mapping with state may take memory
  pub commit_memory : Type 0
  -- the whole of the range is done at once
  pub whole : Operation → ℕ → ℕ → Type 0
  -- which part may be done: asked offset and length, then those of the part
  pub answers : Operation → ℕ → ℕ → ℕ → ℕ → Type 0
  -- how long, in bytes, the storage of that index may become, where it isn't as long already
  pub longest : Operation → ℕ → ℕ → ℕ → ℕ

-- A driver as its callers see it: a layer, which is a size and what stands at each offset, and what
-- its calls may do.
pub record View (St : Type 0) : Type 1 where
  pub abilities : Abilities
  -- the disk's size, in bytes
  pub size : ℕ
  pub place : ℕ → Place
  -- how often the device failed in exclusive calls: a count that saturates
  pub fault_count : ℕ
  pub stores : Stores
  -- what it makes up at an offset: a byte, or the refusal of it
  pub special : ℕ → Value
  pub limits : Limits
  -- the prepared mapping with state that isn't spent
  pub pending : Option (Pending St)

-- the layer's list of places ends inside the range
abbrev pub EndsIn : (ℕ → Place) → ℕ → ℕ → Type 0
EndsIn place o n = (p : ℕ) × IsIn o n p × (place p ≡ End)
