-- What is known of the tables of a qcow2 file.
-- SPDX-License-Identifier: MIT
use Rattle.std.specs.Prelude.{◌≡◌, ℕ, ◌*◌, List, Option, Some, None, min}
use Rattle.imago_qcow2.specs.Entry.{cluster_length, l1_start}
use Rattle.imago_qcow2.specs.Opening.{table_count}
use Rattle.imago_storage.specs.Bytes.{bytes_at}
use Rattle.imago_session.specs.declared.loaded.LoadedFile.{LoadedFile}
use Rattle.imago_session.specs.Loaded.{file_length, AreThere}
use Rattle.imago_session.specs.Limits.{HasFewTables}
use Rattle.imago_session.specs.Tables.{AreLoaded}
use Rattle.imago_session.specs.declared.loading.Tables.{Tables}

-- What is known of a qcow2 file's tables is so: the header's say of the L1 table, and its entries.
-- There are no more of them than so many bytes. The front of the file is in memory, the L1 table,
-- and the L2 tables before the index.
pub record AreTablesOf (most : ℕ) (bytes : List ℕ) (f : LoadedFile) (t : Tables) : Type 0 where
  pub head : (head : List ℕ) × (head ≡ bytes_at bytes 0 112) × (t.table.start ≡ l1_start head)
      × (t.table.count ≡ table_count head) × (t.table.cluster ≡ cluster_length head)
  pub entries : t.entries.items ≡ bytes_at bytes t.table.start (8 * t.table.count)
  pub few : HasFewTables most bytes
  pub first : AreThere f 0 (min t.table.cluster (file_length f))
  pub l1 : AreThere f t.table.start (8 * t.table.count)
  pub l2 : AreLoaded t.entries.items t.table.cluster (file_length f) t.index f

-- the same, if anything is known
abbrev pub AreKnownOf : ℕ → List ℕ → LoadedFile → Option Tables → Type 0
AreKnownOf most bytes f None = Unit {0}
AreKnownOf most bytes f (Some t) = AreTablesOf most bytes f t
