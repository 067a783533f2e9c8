-- SPDX-License-Identifier: MIT
use Rattle.std.proofs.Common.{◌+◌, ◌-◌, ◌*◌, ◌/◌, ◌<◌, ◌≤◌, length, Some, ap, ◌∙◌, arith}
use Rattle.std.specs.Prelude.{slice_get, IfSome}
use Rattle.std.specs.Arc.{arc_slice_items}
use Rattle.imago_qcow2.specs.declared.entry.GuestCluster.{GuestCluster}
use Rattle.imago_qcow2.specs.declared.table.HeldTable.{HeldTable}
use Rattle.imago_qcow2.specs.Numbers.{be64}
use Rattle.imago_qcow2.specs.Entry.{cluster_in_entry}
use Rattle.imago_qcow2.specs.Sound.{IsSoundIn}
use Rattle.imago_qcow2.specs.Tables.{header_cluster, loaded_of}
use Rattle.imago_qcow2.proofs.AbsentSteps.{read_at}
use Rattle.imago_qcow2.proofs.HeldSteps.{loaded_there, within_there}
use Rattle.imago_qcow2.proofs.SoundSteps.{sound_by, sound_so, by_table, by_bytes}
use Rattle.imago_qcow2.proofs.qcow2.Qcow2.is_table_sound.Goals as goal

pub index-requires-in-Loaded : goal.index-requires-in-Loaded
index-requires-in-Loaded g c =
    let s = c.args.self.now in
    let there = read_at s.tables.l1.items c.args.table c.index.result.now c.requires.table c.index.ensures ∙ ap Some c.in-Loaded.is in
    rw s.tables.l2.ok.0 (loaded_there (g.S.Storage.features s.storage) (g.S.Storage.bytes s.storage) s.header s.tables c.args.table c.in-Loaded.number there s.loaded)

pub are_entries_sound-requires : goal.are_entries_sound-requires
are_entries_sound-requires g c =
    let s = c.args.self.now in
    let there = read_at s.tables.l1.items c.args.table c.index.result.now c.requires.table c.index.ensures ∙ ap Some c.in-Loaded.is in
    let loaded = loaded_there (g.S.Storage.features s.storage) (g.S.Storage.bytes s.storage) s.header s.tables c.args.table c.in-Loaded.number there s.loaded in
    let is = read_at s.tables.l2.items c.in-Loaded.number c.index-in-Loaded.result.now loaded c.index-in-Loaded.ensures in
    let fits : 8 * (c.args.end - 1) + 8 ≤ header_cluster s.header = omega (arith, c.requires.some, c.requires.end, s.cluster_is) in
    let known : IfSome (slice_get s.tables.l2.items c.in-Loaded.number) (λ table. 8 * (c.args.end - 1) + 8 ≤ length (arc_slice_items table)) = within_there (g.S.Storage.features s.storage) (g.S.Storage.bytes s.storage) s.header s.tables c.args.table c.in-Loaded.number there (c.args.end - 1) fits s.loaded in
    let whole : 8 * (c.args.end - 1) + 8 ≤ length (arc_slice_items c.index-in-Loaded.result.now) = rw is at known in
    rw c.deref.ensures.value (omega (arith, whole, c.requires.some))

pub returns-in-Absent-clause-sound : goal.returns-in-Absent-clause-sound
returns-in-Absent-clause-sound g c = λ all e above below.
    let s = c.args.self.now in
    let loaded = loaded_of s.header s.cluster.length s.tables in
    let there = read_at s.tables.l1.items c.args.table c.index.result.now c.requires.table c.index.ensures ∙ ap Some c.in-Absent.is in
    let inside : e < s.cluster.length / 8 = omega (arith, below, c.requires.end) in
    sound_by loaded c.args.file (c.args.table * (s.cluster.length / 8) + e) GuestCluster.Absent (by_table loaded c.args.table e inside HeldTable.Absent there) tt

pub returns-in-Loaded-clause-sound : goal.returns-in-Loaded-clause-sound
returns-in-Loaded-clause-sound g c = λ all e above below.
    let s = c.args.self.now in
    let loaded = loaded_of s.header s.cluster.length s.tables in
    let there = read_at s.tables.l1.items c.args.table c.index.result.now c.requires.table c.index.ensures ∙ ap Some c.in-Loaded.is in
    let within = loaded_there (g.S.Storage.features s.storage) (g.S.Storage.bytes s.storage) s.header s.tables c.args.table c.in-Loaded.number there s.loaded in
    let table = c.index-in-Loaded.result.now in
    let is = read_at s.tables.l2.items c.in-Loaded.number table within c.index-in-Loaded.ensures in
    let inside : e < s.cluster.length / 8 = omega (arith, below, c.requires.end) in
    let sound : IsSoundIn s.header s.cluster.length c.args.file (arc_slice_items table) e = rw c.deref.ensures.value at c.are_entries_sound.ensures.sound all e above below in
    sound_by loaded c.args.file (c.args.table * (s.cluster.length / 8) + e) (cluster_in_entry s.header.version s.cluster.length (be64 (arc_slice_items table) (8 * e)))
    (by_bytes loaded c.args.table e inside c.in-Loaded.number table there is) sound

pub returns-in-Loaded-clause-unsound : goal.returns-in-Loaded-clause-unsound
returns-in-Loaded-clause-unsound g c = λ no.
    let s = c.args.self.now in
    let loaded = loaded_of s.header s.cluster.length s.tables in
    let there = read_at s.tables.l1.items c.args.table c.index.result.now c.requires.table c.index.ensures ∙ ap Some c.in-Loaded.is in
    let within = loaded_there (g.S.Storage.features s.storage) (g.S.Storage.bytes s.storage) s.header s.tables c.args.table c.in-Loaded.number there s.loaded in
    let table = c.index-in-Loaded.result.now in
    let is = read_at s.tables.l2.items c.in-Loaded.number table within c.index-in-Loaded.ensures in
    let found = c.are_entries_sound.ensures.unsound no in
    let e = found.0 in
    let inside : e < s.cluster.length / 8 = omega (arith, found.2, c.requires.end) in
    let unsound : IsSoundIn s.header s.cluster.length c.args.file (arc_slice_items table) e → ⊥ = rw c.deref.ensures.value at found.3 in (
      e,
      found.1,
      found.2,
      λ sound. unsound (sound_so loaded c.args.file (c.args.table * (s.cluster.length / 8) + e) (cluster_in_entry s.header.version s.cluster.length (be64 (arc_slice_items table) (8 * e)))
          (by_bytes loaded c.args.table e inside c.in-Loaded.number table there is) sound),
    )

pub returns-in-Invalid-clause-unsound : goal.returns-in-Invalid-clause-unsound
returns-in-Invalid-clause-unsound g c = λ no.
    let s = c.args.self.now in
    let loaded = loaded_of s.header s.cluster.length s.tables in
    let there = read_at s.tables.l1.items c.args.table c.index.result.now c.requires.table c.index.ensures ∙ ap Some c.in-Invalid.is in
    let e = c.args.first in
    let inside : e < s.cluster.length / 8 = omega (arith, c.requires.some, c.requires.end) in (
      e,
      (let x : e ≤ e = omega arith in x),
      c.requires.some,
      λ sound. sound_so loaded c.args.file (c.args.table * (s.cluster.length / 8) + e) GuestCluster.Invalid (by_table loaded c.args.table e inside HeldTable.Invalid there) sound,
    )
