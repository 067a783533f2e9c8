-- SPDX-License-Identifier: MIT
use Rattle.std.proofs.Math.Path.{fun_ext}
use Rattle.imago_qcow2.proofs.ToldSteps.{places_told, size_told, header_told, name_start_told, name_length_told, header_cluster_told}
use Rattle.imago_qcow2.proofs.laws.image_of_bytes.Goals as goal

pub returns-clause-size : goal.returns-clause-size
returns-clause-size g c = λ told.
    let s = c.args.image.now in
    size_told (g.S.Storage.features s.storage) (g.S.Storage.bytes s.storage) told s.header s.tables s.cluster.length s.cluster_is s.loaded

pub returns-clause-header : goal.returns-clause-header
returns-clause-header g c = λ told.
    let s = c.args.image.now in
    header_told (g.S.Storage.features s.storage) (g.S.Storage.bytes s.storage) told s.header s.tables s.cluster.length s.cluster_is s.loaded

pub returns-clause-name_start : goal.returns-clause-name_start
returns-clause-name_start g c = λ told.
    let s = c.args.image.now in
    name_start_told (g.S.Storage.features s.storage) (g.S.Storage.bytes s.storage) told s.header s.tables s.cluster.length s.cluster_is s.loaded

pub returns-clause-name_length : goal.returns-clause-name_length
returns-clause-name_length g c = λ told.
    let s = c.args.image.now in
    name_length_told (g.S.Storage.features s.storage) (g.S.Storage.bytes s.storage) told s.header s.tables s.cluster.length s.cluster_is s.loaded

pub returns-clause-cluster : goal.returns-clause-cluster
returns-clause-cluster g c = λ told.
    let s = c.args.image.now in
    header_cluster_told (g.S.Storage.features s.storage) (g.S.Storage.bytes s.storage) told s.header s.tables s.cluster.length s.cluster_is s.loaded

pub returns-clause-places : goal.returns-clause-places
returns-clause-places g c = λ told.
    let s = c.args.image.now in
    fun_ext (λ p. places_told (g.S.Storage.features s.storage) (g.S.Storage.bytes s.storage) told s.header s.tables s.cluster.length s.cluster_is s.loaded s.cluster.shortest s.covers p)
