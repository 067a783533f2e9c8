-- Which L2 tables of a qcow2 file are in memory.
-- SPDX-License-Identifier: MIT
use Rattle.std.specs.Prelude.{◌≡◌, ℕ, ◌*◌, ◌<◌, List}
use Rattle.imago_qcow2.specs.declared.entry.L2Table.{L2Table}
use Rattle.imago_qcow2.specs.Numbers.{be64}
use Rattle.imago_qcow2.specs.Entry.{table_in_entry}
use Rattle.imago_session.specs.declared.loaded.LoadedFile.{LoadedFile}
use Rattle.imago_session.specs.Loaded.{AreThere}

-- the L2 tables that the first n of these L1 entries name are in memory
abbrev pub AreLoaded : List ℕ → ℕ → ℕ → ℕ → LoadedFile → Type 0
AreLoaded entries cluster file n f = (i : ℕ) (at : ℕ) → i < n
    → table_in_entry file cluster (be64 entries (8 * i)) ≡ L2Table.Stored at
    → AreThere f at cluster
