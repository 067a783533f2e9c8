-- SPDX-License-Identifier: MIT
use Rattle.std.proofs.Common.{◌≡◌, ◌+◌, ◌*◌, ◌/◌, ◌%◌, ◌<◌, ◌≤◌, sym, ap, subst, arith}
use Rattle.std.proofs.lemmas.Nat.{div-add-mod'}
use Rattle.imago_qcow2.specs.declared.entry.GuestCluster.{GuestCluster}
use Rattle.imago_qcow2.specs.Absent.{AreAbsent}
use Rattle.imago_qcow2.specs.Sound.{IsSoundAt}
use Rattle.imago_qcow2.specs.Tables.{loaded_of}
use Rattle.imago_qcow2.proofs.SoundSteps.{sound_by}
use Rattle.imago_qcow2.proofs.qcow2.Qcow2.sound_from.Goals as goal

pub returns-then-absent-gt0-clause-sound : goal.returns-then-absent-gt0-clause-sound
returns-then-absent-gt0-clause-sound g c = λ j h.
    let s = c.args.self.now in
    let loaded = loaded_of s.header s.cluster.length s.tables in
    let entries = c.entries-entries.result in
    let known : AreAbsent loaded (c.args.guest / entries * entries + c.args.guest % entries) c.count_from-absent.result = c.count_from-absent.ensures s.header s.cluster.length (sym c.entries-entries.ensures.value) s.absent_runs in
    let is = div-add-mod' c.args.guest entries in
    let run : AreAbsent loaded c.args.guest c.count_from-absent.result = rw is at known in
    sound_by loaded c.args.file (c.args.guest + j) GuestCluster.Absent (run j h) tt

pub returns-then-is_table_sound-clause-sound : goal.returns-then-is_table_sound-clause-sound
returns-then-is_table_sound-clause-sound g c = λ j h.
    let s = c.args.self.now in
    let loaded = loaded_of s.header s.cluster.length s.tables in
    let entries = c.entries-entries.result in
    let first = c.args.guest % entries in
    let is = div-add-mod' c.args.guest entries in
    let e = ap (λ x. c.args.guest / entries * x) c.entries-entries.ensures.value in
    let at : c.args.guest / entries * (s.cluster.length / 8) + (first + j) ≡ c.args.guest + j = omega (arith, is, e) in
    let above : first ≤ first + j = omega arith in
    let below : first + j < first + c.min-count.result = omega (arith, h) in
    subst (IsSoundAt loaded c.args.file) at (c.is_table_sound.ensures.sound c.if-is_table_sound.true (first + j) above below)

pub returns-else-is_table_sound-clause-unsound : goal.returns-else-is_table_sound-clause-unsound
returns-else-is_table_sound-clause-unsound g c = λ none.
    let s = c.args.self.now in
    let entries = c.entries-entries.result in
    let first = c.args.guest % entries in
    let is = div-add-mod' c.args.guest entries in
    let e = ap (λ x. c.args.guest / entries * x) c.entries-entries.ensures.value in
    let found = c.is_table_sound.ensures.unsound c.if-is_table_sound.false in
    let inside : c.args.guest / entries * (s.cluster.length / 8) + found.0 < c.args.total = omega (arith, is, e, found.2, c.min-count.ensures, c.requires.inside) in (
      c.args.guest / entries * (s.cluster.length / 8) + found.0,
      inside,
      found.3,
    )
