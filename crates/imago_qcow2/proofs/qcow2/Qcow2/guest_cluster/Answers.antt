-- SPDX-License-Identifier: MIT
use Rattle.std.proofs.Common.{Some, ap, sym, ◌∙◌, arith}
use Rattle.imago_qcow2.specs.Tables.{loaded_of}
use Rattle.imago_qcow2.proofs.CompressedSteps.{first_cluster}
use Rattle.imago_qcow2.proofs.ToldSteps.{size_told, guest_cluster_told}
use Rattle.imago_qcow2.proofs.qcow2.Qcow2.guest_cluster.Goals as goal

pub returns-then-offset-self-clause-told : goal.returns-then-offset-self-clause-told
returns-then-offset-self-clause-told g c = λ told below.
    let s = c.args.self.now in
    let size = size_told (g.S.Storage.features s.storage) (g.S.Storage.bytes s.storage) told s.header s.tables s.cluster.length s.cluster_is s.loaded in
    absurd (omega (arith, below, size, c.if-offset-self.true))

pub returns-clause-inside : goal.returns-clause-inside
returns-clause-inside g c = λ inside.
    let s = c.args.self.now in
    ap Some (sym (first_cluster (loaded_of s.header s.cluster.length s.tables) c.args.offset c.cluster_at.result.1 c.cluster_at.result.0 c.cluster_at.ensures.same c.cluster_at.ensures.some))

pub returns-clause-told : goal.returns-clause-told
returns-clause-told g c = λ told below.
    let s = c.args.self.now in
    let first = first_cluster (loaded_of s.header s.cluster.length s.tables) c.args.offset c.cluster_at.result.1 c.cluster_at.result.0 c.cluster_at.ensures.same c.cluster_at.ensures.some in
    ap Some (sym first ∙ guest_cluster_told (g.S.Storage.features s.storage) (g.S.Storage.bytes s.storage) told s.header s.tables s.cluster.length s.cluster_is s.loaded s.cluster.shortest s.covers c.args.offset below)
