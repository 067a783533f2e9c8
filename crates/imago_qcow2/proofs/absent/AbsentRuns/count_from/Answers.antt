-- SPDX-License-Identifier: MIT
use Rattle.std.proofs.Common.{◌≡◌, ◌+◌, ◌-◌, ◌*◌, ◌<◌, ◌≤◌, arith}
use Rattle.imago_qcow2.specs.Tables.{loaded_of}
use Rattle.imago_qcow2.specs.Absent.{AreAbsent}
use Rattle.imago_qcow2.proofs.AbsentSteps.{in_table, past_table, joined, read_at}
use Rattle.imago_qcow2.proofs.absent.AbsentRuns.count_from.Goals as goal

pub returns-then-end-entries : goal.returns-then-end-entries
returns-then-end-entries c = λ header cluster e known.
    let l1 = c.args.tables.now.l1.items in
    let loaded = loaded_of header cluster c.args.tables.now in
    let entries = c.args.entries in
    let there = read_at l1 c.args.table c.index.result.now c.requires.table c.index.ensures in
    let end = c.held_end-end.result in
    let n = c.saturating_sub.result in
    let some : 0 < entries = omega (arith, c.requires.index) in
    let fits : c.args.index + n ≤ entries = omega (arith, c.saturating_sub.ensures, c.if-end-entries.true, c.requires.index) in
    in_table loaded entries e some c.args.table c.args.index n fits
    (λ k above below. rw there (c.held_end-end.ensures header cluster k e above (omega (arith, above, below, c.saturating_sub.ensures))))

pub returns : goal.returns
returns c = λ header cluster e known.
    let l1 = c.args.tables.now.l1.items in
    let loaded = loaded_of header cluster c.args.tables.now in
    let entries = c.args.entries in
    let there = read_at l1 c.args.table c.index.result.now c.requires.table c.index.ensures in
    let some : 0 < entries = omega (arith, c.requires.index) in
    let own : AreAbsent loaded (c.args.table * entries + c.args.index) (entries - c.args.index) =
    in_table loaded entries e some c.args.table c.args.index (entries - c.args.index) (omega (arith, c.requires.index))
    (λ k above below. rw there (c.held_end-end.ensures header cluster k e above (omega (arith, below, c.if-end-entries.false, c.requires.index)))) in
    let start : c.args.table * entries + c.args.index + (entries - c.args.index) ≡ c.args.table * entries + entries = omega (arith, c.requires.index) in
    let rest : AreAbsent loaded (c.args.table * entries + entries) (c.tables_behind.result * entries) = past_table loaded entries e some c.args.table c.tables_behind.result (c.tables_behind.ensures.absent header cluster (known.1)) in
    let behind : AreAbsent loaded (c.args.table * entries + c.args.index + (entries - c.args.index)) (c.tables_behind.result * entries) = rw start rest in
    joined loaded (c.args.table * entries + c.args.index) (entries - c.args.index) (c.tables_behind.result * entries) own behind
