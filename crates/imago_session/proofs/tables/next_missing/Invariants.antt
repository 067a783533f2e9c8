-- SPDX-License-Identifier: MIT
use Rattle.std.proofs.Common.{◌-◌, List, ℕ}
use Rattle.imago_session.specs.Blocks.{IsPartOf}
use Rattle.imago_session.specs.Known.{AreTablesOf}
use Rattle.imago_session.proofs.tables.next_missing.Given as goal

abbrev pub invariant-loop-tables : goal.invariant-loop-tables
invariant-loop-tables l = (most : ℕ) (bytes : List ℕ) → IsPartOf bytes l.file → AreTablesOf most bytes l.file l.initial.tables → AreTablesOf most bytes l.file l.tables

abbrev pub decreases-loop-tables : goal.decreases-loop-tables
decreases-loop-tables l = l.tables.table.count - l.tables.index
