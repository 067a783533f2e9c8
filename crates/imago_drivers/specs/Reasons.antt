-- SPDX-License-Identifier: MIT
use Rattle.imago_storage.specs.declared.error.Error.{Error}
use Rattle.imago_storage.specs.declared.error.Error.TheVariants as E

-- Why a call may be refused: a field for each kind of refusal, ⊥ where the call has none of it.
pub record Reasons : Type 1 where
  pub read_only : Type 0
  pub beyond_disk : Type 0
  pub range_overflow : Type 0
  -- a wrap-around, invalid data, no access, or what isn't offered
  pub cause : Error → Type 0
  pub device : Type 0
  pub memory : Type 0
  pub foreign_mapping : Type 0

-- no refusal at all
abbrev pub none : Reasons
none = record {
  read_only = ⊥;
  beyond_disk = ⊥;
  range_overflow = ⊥;
  cause = λ _. ⊥;
  device = ⊥;
  memory = ⊥;
  foreign_mapping = ⊥;
}

-- that refusal has one of these reasons; no call of a driver answers the last two
abbrev pub allowed : Reasons → Error → Type 0
allowed r E.ReadOnly = r.read_only
allowed r E.BeyondDisk = r.beyond_disk
allowed r E.RangeOverflow = r.range_overflow
allowed r E.WrapAround = r.cause Error.WrapAround
allowed r E.InvalidData = r.cause Error.InvalidData
allowed r E.Unsupported = r.cause Error.Unsupported
allowed r E.NoAccess = r.cause Error.NoAccess
allowed r E.Device = r.device
allowed r E.Memory = r.memory
allowed r E.ForeignMapping = r.foreign_mapping
allowed r E.Denied = ⊥
allowed r E.NotFound = ⊥
