-- Which tables a qcow2 file may have: how many bytes of them are permitted.
-- SPDX-License-Identifier: MIT
use Rattle.std.specs.Prelude.{◌≡◌, ◌<◌, ◌≤◌, ◌^◌, ◌⊎◌, ℕ, List, length, Err}
use Rattle.imago_storage.specs.declared.error.Error.{Error}
use Rattle.imago_vmdk.specs.declared.line.Accepted.{Accepted}
use Rattle.imago_qcow2.specs.Header.{header_of}
use Rattle.imago_qcow2.specs.Limit.{file_tables, l1_length}
use Rattle.imago_session.specs.declared.permitted.Permitted.{Permitted}

-- what is permitted unless whoever opens an image says otherwise: tables of 256 MiB
abbrev pub usual : Accepted → Permitted
usual accepted = record { accepted = accepted; tables = 2 ^ 28 }

-- The L1 table has at most 32 MiB, by the header, and the tables that the disk needs have no more
-- than so many bytes.
abbrev pub HasFewTables : ℕ → List ℕ → Type 0
HasFewTables most bytes = (l1_length bytes ≤ 2 ^ 25) × (file_tables bytes ≤ most)

-- one of them has more
abbrev pub HasManyTables : ℕ → List ℕ → Type 0
HasManyTables most bytes = (2 ^ 25 < l1_length bytes) ⊎ (most < file_tables bytes)

-- why a header of a file of that length isn't taken: it has that fault, or says a longer L1 table
abbrev pub IsHeadFault : List ℕ → ℕ → Error → Type 0
IsHeadFault head file e =
    (header_of head file ≡ Err e) ⊎ ((2 ^ 25 < l1_length head) × (e ≡ Error.Unsupported))

-- why tables aren't loaded: the header has that fault, or there are too many of them
abbrev pub IsTableFault : ℕ → List ℕ → Error → Type 0
IsTableFault most bytes e =
    (header_of bytes (length bytes) ≡ Err e) ⊎ (HasManyTables most bytes × (e ≡ Error.Unsupported))
