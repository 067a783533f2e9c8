-- SPDX-License-Identifier: MIT
use Rattle.std.proofs.Common.{◌<◌, sym, ◌∙◌, arith}
use Rattle.imago_qcow2.specs.Numbers.{be64}
use Rattle.imago_qcow2.proofs.BackingSteps.{read_moved}
use Rattle.imago_qcow2.proofs.ToldSteps.{name_start_told, name_length_told}
use Rattle.imago_qcow2.proofs.qcow2.Qcow2.backing_file.Goals as goal

pub returns-then-self-eq0-clause-name : goal.returns-then-self-eq0-clause-name
returns-then-self-eq0-clause-name g c = λ told.
    let s = c.args.self.now in
    sym (name_start_told (g.S.Storage.features s.storage) (g.S.Storage.bytes s.storage) told s.header s.tables s.cluster.length s.cluster_is s.loaded) ∙ c.if-self-eq0.true

pub returns-clause-name : goal.returns-clause-name
returns-clause-name g c = λ told.
    let s = c.args.self.now in
    let F = g.S.Storage.features s.storage in
    let B = g.S.Storage.bytes s.storage in
    let start = name_start_told F B told s.header s.tables s.cluster.length s.cluster_is s.loaded in
    let count = name_length_told F B told s.header s.tables s.cluster.length s.cluster_is s.loaded in
    let some : 0 < be64 B 8 = omega (arith, start, c.if-self-eq0.false) in
    (some, c.in_ok-read_bytes.ensures.whole ∙ count, read_moved B c.in_ok-read_bytes.field-0.items s.header.name_start (be64 B 8) start (c.in_ok-read_bytes.ensures.read told))
