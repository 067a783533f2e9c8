-- SPDX-License-Identifier: MIT
use Rattle.imago_qcow2.proofs.BackingSteps.{end_unnamed, end_named}
use Rattle.imago_qcow2.proofs.ToldSteps.{name_start_told, cluster_told}
use Rattle.imago_qcow2.proofs.qcow2.Qcow2.extensions_end.Goals as goal

pub returns-then-self-eq0-clause-value : goal.returns-then-self-eq0-clause-value
returns-then-self-eq0-clause-value g c = λ told.
    let s = c.args.self.now in
    let F = g.S.Storage.features s.storage in
    let B = g.S.Storage.bytes s.storage in
    end_unnamed B s.header.name_start s.cluster.length (name_start_told F B told s.header s.tables s.cluster.length s.cluster_is s.loaded) (cluster_told F B told s.header s.tables s.cluster.length s.cluster_is s.loaded) c.if-self-eq0.true

pub returns-clause-value : goal.returns-clause-value
returns-clause-value g c = λ told.
    let s = c.args.self.now in
    let F = g.S.Storage.features s.storage in
    let B = g.S.Storage.bytes s.storage in
    end_named B s.header.name_start s.cluster.length c.min.result (name_start_told F B told s.header s.tables s.cluster.length s.cluster_is s.loaded) (cluster_told F B told s.header s.tables s.cluster.length s.cluster_is s.loaded) c.if-self-eq0.false c.min.ensures
