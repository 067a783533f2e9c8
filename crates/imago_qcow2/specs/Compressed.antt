-- What compressed clusters hold. Each is a stream of its own.
-- SPDX-License-Identifier: MIT
use Rattle.std.specs.Prelude.{◌≡◌, ◌⊎◌, ℕ, Bool, true, false, List, slice_index}
use Rattle.std.specs.Prelude.{Result, Ok, Err, IsOk, IsErr, Option, Some, None}
use Rattle.imago_storage.specs.Bytes.{bytes_at}
use Rattle.imago_storage.specs.declared.error.Error.{Error}
use Rattle.imago_drivers.specs.Place.{Value, Byte, Unreadable, HasValues}
use Rattle.imago_inflate.specs.declared.fault.InflateError.{InflateError}
use Rattle.imago_inflate.specs.Inflate.{inflated}
use Rattle.imago_qcow2.specs.declared.header.Compression.{Compression}
use Rattle.imago_qcow2.specs.declared.header.Compression.TheVariants as By

-- what stands at an index of what a stream puts out: nothing that can be read where it is faulty
abbrev pub value_in : Result (List ℕ) InflateError → ℕ → Value
value_in (Ok out) i = Byte (slice_index out i)
value_in (Err fault) i = Unreadable Error.InvalidData

-- What stands at an index of a compressed cluster of that length, whose stream has n bytes of the
-- file from an offset on: the byte that the stream puts out, where the file tells its bytes. In a
-- file that doesn't tell them, any compressed cluster may turn out to be faulty, and so counts as
-- one here; what a read gives or refuses there follows from the bytes that it reads
-- (`IsSpecialRead`). The frames of Zstandard aren't read, and have no bytes but zeroes here.
abbrev pub packed_value : Bool → Compression → List ℕ → ℕ → ℕ → ℕ → ℕ → Value
packed_value tells By.Zstd bytes cluster at n i = Byte 0
packed_value true By.Deflate bytes cluster at n i =
    value_in (inflated (bytes_at bytes at n) cluster) i
packed_value false By.Deflate bytes cluster at n i = Unreadable Error.InvalidData

-- the fault of a stream that puts this out
abbrev pub fault_in : Result (List ℕ) InflateError → Option InflateError
fault_in (Ok out) = None
fault_in (Err fault) = Some fault

-- A stream that puts this out filled the output; or it is faulty, and refused so.
abbrev pub IsPutOut : Result (List ℕ) InflateError → List ℕ → Result (Unit {0}) Error → Type 0
IsPutOut put out (Ok done) = put ≡ Ok out
IsPutOut put out (Err e) = (e ≡ Error.InvalidData) × IsErr put

-- The output holds what stands from an index on in what a stream puts out; or the stream is faulty,
-- and refused so; or memory is.
abbrev pub IsUnpacked : Result (List ℕ) InflateError → ℕ → List ℕ → Result (Unit {0}) Error
    → Type 0
IsUnpacked put rest out (Ok done) = IsOk put × HasValues (value_in put) rest out
IsUnpacked put rest out (Err e) = ((e ≡ Error.InvalidData) × IsErr put) ⊎ (e ≡ Error.Memory)
