-- SPDX-License-Identifier: MIT
use Rattle.std.proofs.Common.{◌+◌, ◌*◌, ◌/◌, ◌%◌, ◌≤◌, sym, ap, ◌∙◌, Some, arith}
use Rattle.imago_qcow2.specs.Tables.{loaded_of, header_cluster}
use Rattle.imago_qcow2.proofs.HeldSteps.{held_there, all_absent, all_invalid, by_entry, index_fits, loaded_there, table_there, within_there}
use Rattle.imago_qcow2.proofs.qcow2.Qcow2.cluster_at.Goals as goal

pub returns-in-Absent-clause-same : goal.returns-in-Absent-clause-same
returns-in-Absent-clause-same g c = λ i near.
    let s = c.args.self.now in
    let span = s.cluster.length / 8 * s.cluster.length in
    let there = held_there s.tables.l1.items (c.args.offset / span) c.l1_index.result c.index.result.now c.l1_index.ensures.value c.l1_index.ensures.within c.index.ensures ∙ ap Some c.in-Absent.is in
    let left = c.left_of_table.ensures in
    all_absent (loaded_of s.header s.cluster.length s.tables) s.cluster.shortest c.args.offset i (omega (arith, near, left)) there

pub returns-in-Invalid-clause-same : goal.returns-in-Invalid-clause-same
returns-in-Invalid-clause-same g c = λ i near.
    let s = c.args.self.now in
    let span = s.cluster.length / 8 * s.cluster.length in
    let there = held_there s.tables.l1.items (c.args.offset / span) c.l1_index.result c.index.result.now c.l1_index.ensures.value c.l1_index.ensures.within c.index.ensures ∙ ap Some c.in-Invalid.is in
    let left = c.left_of_table-in-Invalid.ensures in
    all_invalid (loaded_of s.header s.cluster.length s.tables) s.cluster.shortest c.args.offset i (omega (arith, near, left)) there

pub entry_at-entry-requires-clause-loaded : goal.entry_at-entry-requires-clause-loaded
entry_at-entry-requires-clause-loaded g c =
    let s = c.args.self.now in
    let span = s.cluster.length / 8 * s.cluster.length in
    let there = held_there s.tables.l1.items (c.args.offset / span) c.l1_index.result c.index.result.now c.l1_index.ensures.value c.l1_index.ensures.within c.index.ensures ∙ ap Some c.in-Loaded.is in
    rw c.deref.ensures.value (loaded_there (g.S.Storage.features s.storage) (g.S.Storage.bytes s.storage) s.header s.tables (c.args.offset / span) c.in-Loaded.number there s.loaded)

pub entry_at-entry-requires-clause-within : goal.entry_at-entry-requires-clause-within
entry_at-entry-requires-clause-within g c =
    let s = c.args.self.now in
    let span = s.cluster.length / 8 * s.cluster.length in
    let index = c.args.offset / s.cluster.length % (s.cluster.length / 8) in
    let there = held_there s.tables.l1.items (c.args.offset / span) c.l1_index.result c.index.result.now c.l1_index.ensures.value c.l1_index.ensures.within c.index.ensures ∙ ap Some c.in-Loaded.is in
    let fits : 8 * index + 8 ≤ header_cluster s.header = omega (arith, index_fits (loaded_of s.header s.cluster.length s.tables) s.cluster.shortest c.args.offset, s.cluster_is) in
    rw (c.deref.ensures.value, c.l2_index.ensures.value) (within_there (g.S.Storage.features s.storage) (g.S.Storage.bytes s.storage) s.header s.tables (c.args.offset / span) c.in-Loaded.number there index fits s.loaded)

pub returns-in-Loaded-clause-same : goal.returns-in-Loaded-clause-same
returns-in-Loaded-clause-same g c = λ i near.
    let s = c.args.self.now in
    let span = s.cluster.length / 8 * s.cluster.length in
    let there = held_there s.tables.l1.items (c.args.offset / span) c.l1_index.result c.index.result.now c.l1_index.ensures.value c.l1_index.ensures.within c.index.ensures ∙ ap Some c.in-Loaded.is in
    let some = table_there (g.S.Storage.features s.storage) (g.S.Storage.bytes s.storage) s.header s.tables (c.args.offset / span) c.in-Loaded.number there s.loaded in
    by_entry (loaded_of s.header s.cluster.length s.tables) s.cluster.shortest c.args.offset i c.in-Loaded.number c.entry_at-entry.result (omega (arith, near, c.rest.ensures.value)) there some (rw (c.deref.ensures.value, c.l2_index.ensures.value) at c.entry_at-entry.ensures) ∙ sym c.cluster_in.ensures.says
