-- Which guest clusters are known to be absent without a look at the entry of each.
-- SPDX-License-Identifier: MIT
use Rattle.std.specs.Prelude.{◌≡◌, ℕ, suc, ◌+◌, ◌-◌, ◌*◌, ◌%◌, ◌^◌, ◌<◌, ◌≤◌, List, length}
use Rattle.std.specs.Prelude.{slice_get, Option, Some, None, IfSome}
use Rattle.std.specs.declared.sync.ArcSlice.{ArcSlice}
use Rattle.std.specs.declared.vec.Vec.{Vec}
use Rattle.std.specs.Arc.{arc_slice_items}
use Rattle.std.specs.declared.alloc.Global.{Global}
use Rattle.imago_qcow2.specs.declared.entry.GuestCluster.{GuestCluster}
use Rattle.imago_qcow2.specs.declared.absent.AbsentRuns.{AbsentRuns}
use Rattle.imago_qcow2.specs.Numbers.{be64}
use Rattle.imago_qcow2.specs.Tables.{LoadedImage, held_cluster, loaded_cluster}

-- The entries of an L2 table from one index on, up to another one, say in either version that their
-- guest clusters are absent: all of their bits are 0, but for bit 63, which says nothing.
abbrev pub AreAbsentEntries : List ℕ → ℕ → ℕ → Type 0
AreAbsentEntries table from end = (e : ℕ) → from ≤ e → e < end
    → be64 table (8 * e) % 2 ^ 63 ≡ 0

-- entry e of an L2 table, if it is in memory, says so
abbrev pub IsAbsentEntry : Option (ArcSlice ℕ Global) → ℕ → Type 0
IsAbsentEntry None e = ⊥
IsAbsentEntry (Some table) e = be64 (arc_slice_items table) (8 * e) % 2 ^ 63 ≡ 0

-- where runs of absent entries end, for so many groups of 16 of them, the last group first
abbrev pub AreEnds : List ℕ → ℕ → List ℕ → Type 0
AreEnds table groups ends = (i : ℕ) → IfSome (slice_get ends i)
    (λ end. AreAbsentEntries table (16 * (groups - suc i)) end)

-- the same of each L2 table
abbrev pub AreEndsOf : List (ArcSlice ℕ Global) → List (Vec ℕ Global) → Type 0
AreEndsOf l2 ends = (i : ℕ) → IfSome (slice_get ends i)
    (λ of_table. IfSome (slice_get l2 i)
    (λ table. AreEnds (arc_slice_items table) (length of_table.items) of_table.items))

-- n guest clusters from k on are absent
abbrev pub AreAbsent : LoadedImage → ℕ → ℕ → Type 0
AreAbsent loaded k n = (j : ℕ) → j < n → loaded_cluster loaded (k + j) ≡ GuestCluster.Absent

-- for each L1 entry, the last one first: how many L2 tables from its own on are wholly absent
abbrev pub AreTableRuns : LoadedImage → List ℕ → Type 0
AreTableRuns loaded runs = (i : ℕ) → IfSome (slice_get runs i)
    (λ n. (j k : ℕ) → j < n
    → held_cluster loaded k (slice_get loaded.l1 (length loaded.l1 - suc i + j))
    ≡ GuestCluster.Absent)

-- the runs are those of what was loaded
abbrev pub IsAbsentIndex : LoadedImage → AbsentRuns → Type 0
IsAbsentIndex loaded runs =
    AreEndsOf loaded.l2 runs.ends.items × AreTableRuns loaded runs.tables.items
