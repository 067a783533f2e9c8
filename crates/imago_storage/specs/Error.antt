-- SPDX-License-Identifier: MIT
use Rattle.std.specs.Prelude.{◌≡◌, ◌⊎◌}
use Rattle.imago_storage.specs.declared.error.Error.{Error}
use Rattle.imago_storage.specs.declared.error.Error.TheVariants.{ReadOnly, BeyondDisk}
use Rattle.imago_storage.specs.declared.error.Error.TheVariants.{RangeOverflow, WrapAround}
use Rattle.imago_storage.specs.declared.error.Error.TheVariants.{InvalidData, Unsupported, NoAccess}
use Rattle.imago_storage.specs.declared.error.Error.TheVariants.{Device, Memory, ForeignMapping}
use Rattle.imago_storage.specs.declared.error.Error.TheVariants.{Denied, NotFound}
use Rattle.imago_storage.specs.declared.error.ErrorKind.{ErrorKind}
use Rattle.imago_storage.specs.declared.error.ErrorKind.TheVariants as Kind

-- the kind of each refusal
abbrev pub kind_of : Error → ErrorKind
kind_of ReadOnly = Kind.Other
kind_of BeyondDisk = Kind.UnexpectedEof
kind_of RangeOverflow = Kind.InvalidInput
kind_of WrapAround = Kind.Other
kind_of InvalidData = Kind.InvalidData
kind_of Unsupported = Kind.Unsupported
kind_of NoAccess = Kind.Other
kind_of Device = Kind.Other
kind_of Memory = Kind.OutOfMemory
kind_of ForeignMapping = Kind.InvalidInput
kind_of Denied = Kind.PermissionDenied
kind_of NotFound = Kind.NotFound

-- what each call of a storage may be refused for
abbrev pub IsDeviceOrMemory : Error → Type 0
IsDeviceOrMemory e = (e ≡ Device) ⊎ (e ≡ Memory)

-- what the calls of a storage that it may not offer are refused for
abbrev pub IsPureRefusal : Error → Type 0
IsPureRefusal e = (e ≡ Unsupported) ⊎ (e ≡ Device) ⊎ (e ≡ Memory)

-- What telling which name a relative one stands for is refused for: also a name that isn't there,
-- isn't one, or mustn't be seen.
abbrev pub IsNameRefusal : Error → Type 0
IsNameRefusal e = IsPureRefusal e ⊎ (e ≡ NotFound) ⊎ (e ≡ InvalidData) ⊎ (e ≡ Denied)

-- what a request of any alignment is refused for
abbrev pub IsExtRefusal : Error → Type 0
IsExtRefusal e = (e ≡ WrapAround) ⊎ (e ≡ Device) ⊎ (e ≡ Memory)

-- what zeroing a part and its edges is refused for
abbrev pub IsZeroRefusal : Error → Type 0
IsZeroRefusal e = (e ≡ Unsupported) ⊎ IsExtRefusal e
