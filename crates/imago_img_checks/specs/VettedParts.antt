-- What the entries of a file's tables are looked at by, which of them can be read, and which
-- refusals tell of a file.
-- SPDX-License-Identifier: MIT
use Rattle.std.specs.Prelude.{◌≡◌, ℕ, ◌+◌, ◌*◌, ◌/◌, ◌<◌, Bool, true, false, List}
use Rattle.imago_storage.specs.declared.error.Error.{Error}
use Rattle.imago_qcow2.specs.declared.entry.L2Table.{L2Table}
use Rattle.imago_qcow2.specs.declared.entry.L2Table.TheVariants as T
use Rattle.imago_qcow2.specs.Numbers.{be64}
use Rattle.imago_qcow2.specs.Entry.{cluster_in_entry, table_in_entry}
use Rattle.imago_images.specs.declared.failure.OpenError.{OpenError}
use Rattle.imago_images.specs.declared.failure.Reason.{Reason}
use Rattle.imago_img_checks.specs.declared.vet_tables.Shape.{Shape}
use Rattle.imago_img_checks.specs.Vetted.{IsSafeCluster}

-- an L2 entry can be read
abbrev pub IsEntrySafe : Shape → ℕ → Type 0
IsEntrySafe s entry = IsSafeCluster s.file s.cluster s.compression
    (cluster_in_entry s.version s.cluster entry)

-- each entry of an L2 table can be, if there is one
abbrev pub IsTableSafe : Shape → List ℕ → L2Table → Type 0
IsTableSafe s bytes T.Absent = Unit {0}
IsTableSafe s bytes (T.Stored at) =
    (j : ℕ) → j < s.cluster / 8 → IsEntrySafe s (be64 bytes (at + 8 * j))
IsTableSafe s bytes T.Invalid = ⊥

-- the same of the L2 tables that the first L1 entries name
abbrev pub AreEntriesSafe : Shape → List ℕ → List ℕ → ℕ → Type 0
AreEntriesSafe s bytes entries count = (i : ℕ) → i < count
    → IsTableSafe s bytes (table_in_entry s.file s.cluster (be64 entries (8 * i)))

-- whether an answer of a driver tells of the file's bytes
abbrev pub is_of_file : Error → Bool
is_of_file Error.InvalidData = true
is_of_file Error.Unsupported = true
is_of_file error = false

-- whether a reason does for which a file isn't opened
abbrev pub is_told : Reason → Bool
is_told (Reason.Another said found) = true
is_told (Reason.Recognised found) = true
is_told Reason.Sparse = true
is_told (Reason.TwoFormats found other) = true
is_told (Reason.DiskTooLong size most) = true
is_told (Reason.Header fault) = true
is_told (Reason.Image error) = is_of_file error
is_told reason = false

abbrev pub IsTold : OpenError → Type 0
IsTold (OpenError.OfFile path reason) = is_told reason ≡ true
IsTold OpenError.Memory = ⊥
