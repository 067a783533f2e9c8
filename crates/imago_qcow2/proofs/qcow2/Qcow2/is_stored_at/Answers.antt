-- SPDX-License-Identifier: MIT
use Rattle.std.proofs.Common.{◌+◌, ◌*◌, ◌/◌, ◌%◌, ◌≤◌, sym, ap, ◌∙◌, Some, arith}
use Rattle.imago_qcow2.specs.Tables.{loaded_of, header_cluster}
use Rattle.imago_qcow2.proofs.HeldSteps.{held_there, none_stored, by_entry_here, index_fits, loaded_there, table_there, within_there}
use Rattle.imago_qcow2.proofs.qcow2.Qcow2.is_stored_at.Goals as goal

pub entry_at-entry-requires-clause-loaded : goal.entry_at-entry-requires-clause-loaded
entry_at-entry-requires-clause-loaded g c =
    let s = c.args.self.now in
    let span = s.cluster.length / 8 * s.cluster.length in
    let there = held_there s.tables.l1.items (c.args.offset / span) c.l1_index.result c.index.result.now c.l1_index.ensures.value c.l1_index.ensures.within c.index.ensures ∙ ap Some c.in-Loaded.is in
    rw c.deref.ensures.value (loaded_there (g.S.Storage.features s.storage) (g.S.Storage.bytes s.storage) s.header s.tables (c.args.offset / span) c.in-Loaded.number there s.loaded)

pub entry_at-entry-requires-clause-within : goal.entry_at-entry-requires-clause-within
entry_at-entry-requires-clause-within g c =
    let s = c.args.self.now in
    let span = s.cluster.length / 8 * s.cluster.length in
    let index = c.args.offset / s.cluster.length % (s.cluster.length / 8) in
    let there = held_there s.tables.l1.items (c.args.offset / span) c.l1_index.result c.index.result.now c.l1_index.ensures.value c.l1_index.ensures.within c.index.ensures ∙ ap Some c.in-Loaded.is in
    let fits : 8 * index + 8 ≤ header_cluster s.header = omega (arith, index_fits (loaded_of s.header s.cluster.length s.tables) s.cluster.shortest c.args.offset, s.cluster_is) in
    rw (c.deref.ensures.value, c.l2_index.ensures.value) (within_there (g.S.Storage.features s.storage) (g.S.Storage.bytes s.storage) s.header s.tables (c.args.offset / span) c.in-Loaded.number there index fits s.loaded)

pub returns-in-Loaded-clause-yes : goal.returns-in-Loaded-clause-yes
returns-in-Loaded-clause-yes g c = λ yes.
    let s = c.args.self.now in
    let span = s.cluster.length / 8 * s.cluster.length in
    let loaded = loaded_of s.header s.cluster.length s.tables in
    let there = held_there s.tables.l1.items (c.args.offset / span) c.l1_index.result c.index.result.now c.l1_index.ensures.value c.l1_index.ensures.within c.index.ensures ∙ ap Some c.in-Loaded.is in
    let some = table_there (g.S.Storage.features s.storage) (g.S.Storage.bytes s.storage) s.header s.tables (c.args.offset / span) c.in-Loaded.number there s.loaded in
    let said = by_entry_here loaded s.cluster.shortest c.args.offset c.in-Loaded.number c.entry_at-entry.result there some (rw (c.deref.ensures.value, c.l2_index.ensures.value) at c.entry_at-entry.ensures) in
    said ∙ c.says_stored.ensures.yes yes s.header.version

pub returns-in-Loaded-clause-no : goal.returns-in-Loaded-clause-no
returns-in-Loaded-clause-no g c = λ no is.
    let s = c.args.self.now in
    let span = s.cluster.length / 8 * s.cluster.length in
    let loaded = loaded_of s.header s.cluster.length s.tables in
    let there = held_there s.tables.l1.items (c.args.offset / span) c.l1_index.result c.index.result.now c.l1_index.ensures.value c.l1_index.ensures.within c.index.ensures ∙ ap Some c.in-Loaded.is in
    let some = table_there (g.S.Storage.features s.storage) (g.S.Storage.bytes s.storage) s.header s.tables (c.args.offset / span) c.in-Loaded.number there s.loaded in
    let said = by_entry_here loaded s.cluster.shortest c.args.offset c.in-Loaded.number c.entry_at-entry.result there some (rw (c.deref.ensures.value, c.l2_index.ensures.value) at c.entry_at-entry.ensures) in
    c.says_stored.ensures.no no s.header.version (sym said ∙ is)

pub returns-in-Absent : goal.returns-in-Absent
returns-in-Absent g c =
    let s = c.args.self.now in
    let span = s.cluster.length / 8 * s.cluster.length in
    let there = held_there s.tables.l1.items (c.args.offset / span) c.l1_index.result c.index.result.now c.l1_index.ensures.value c.l1_index.ensures.within c.index.ensures in
    record {
      yes = λ x. let z : ⊥ = cc in absurd z;
      no = λ _. none_stored (loaded_of s.header s.cluster.length s.tables) s.cluster.shortest c.args.offset c.args.at c.index.result.now c.in-Absent.is there;
    }
