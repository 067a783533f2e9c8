-- SPDX-License-Identifier: MIT
use Rattle.std.specs.Prelude.{Result, Ok, Err}
use Rattle.imago_storage.specs.declared.error.Error.{Error}
use Rattle.imago_qcow2.specs.declared.fault.HeaderFault.{HeaderFault}
use Rattle.imago_qcow2.specs.declared.fault.HeaderFault.TheVariants as F
use Rattle.imago_qcow2.specs.declared.fault.OpenFault.{OpenFault}
use Rattle.imago_qcow2.specs.declared.fault.OpenFault.TheVariants as O

-- what the opening of an image answers for that fault of its header
abbrev pub error_of : HeaderFault → Error
error_of F.NoImage = Error.InvalidData
error_of (F.Version v) = Error.Unsupported
error_of F.Encryption = Error.Unsupported
error_of (F.Features f) = Error.Unsupported
error_of (F.ClusterBits b) = Error.InvalidData
error_of F.OwnLength = Error.InvalidData
error_of F.RefcountWidth = Error.InvalidData
error_of (F.CompressionType t) = Error.Unsupported
error_of F.Compression = Error.InvalidData
error_of F.BackingName = Error.InvalidData
error_of F.ShortTable = Error.InvalidData
error_of F.UnevenTable = Error.InvalidData
error_of F.TableBehindEnd = Error.InvalidData

-- a result with its fault as what the opening answers for it
abbrev pub answer_of : {A : Type 0} → Result A HeaderFault → Result A Error
answer_of (Ok x) = Ok x
answer_of (Err f) = Err (error_of f)

-- what holds of a refusal of the driver, and what where the tables are too large
abbrev pub by_fault : (Error → Type 0) → Type 0 → OpenFault → Type 0
by_fault of_driver of_tables (O.Driver e) = of_driver e
by_fault of_driver of_tables O.TablesTooLarge = of_tables
