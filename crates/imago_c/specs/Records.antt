-- SPDX-License-Identifier: MIT
use Rattle.std.specs.Prelude.{ℕ, ◌+◌, Bool, true, false, List, [], ◌∷◌, length, Result, Ok, Err}
use Rattle.std.specs.List.{flat_map}
use Rattle.imago_storage.specs.declared.error.Error.{Error}
use Rattle.imago_vmdk.specs.declared.line.Extent.{Extent}
use Rattle.imago_c.specs.declared.record.ExtentRecord.{ExtentRecord}

-- the name of an extent's file; none is empty
abbrev pub name_of : Extent (List ℕ) → List ℕ
name_of (Extent.Zero sectors) = []
name_of (Extent.NoAccess sectors) = []
name_of (Extent.Flat sectors name offset writable vmfs) = name

-- a truth as a number
abbrev pub number_of : Bool → ℕ
number_of false = 0
number_of true = 1

-- the record of an extent without a file, of that kind
abbrev pub record_without_file : ℕ → ℕ → ℕ → ExtentRecord
record_without_file start kind sectors = record {
  sectors = sectors;
  offset = 0;
  name_start = start;
  name_length = 0;
  kind = kind;
  writable = 0;
}

-- the record of an extent whose name begins there in the text of names
abbrev pub record_of : ℕ → Extent (List ℕ) → ExtentRecord
record_of start (Extent.Zero sectors) = record_without_file start 0 sectors
record_of start (Extent.NoAccess sectors) = record_without_file start 1 sectors
record_of start (Extent.Flat sectors name offset writable vmfs) = record {
  sectors = sectors;
  offset = offset;
  name_start = start;
  name_length = length name;
  kind = 2;
  writable = number_of writable;
}

-- the records of extents one after another, whose names follow one another from that place on
abbrev pub records_from : ℕ → List (Extent (List ℕ)) → List ExtentRecord
records_from start [] = []
records_from start (extent ∷ extents) =
    record_of start extent ∷ records_from (start + length (name_of extent)) extents

-- what is told of a descriptor's reading: the records of its extents, and the text of their names
abbrev pub told_of :
    Result (List (Extent (List ℕ)) × ℕ) Error → Result (List ExtentRecord × List ℕ) Error
told_of (Ok (extents, size)) = Ok (records_from 0 extents, flat_map name_of extents)
told_of (Err e) = Err e
