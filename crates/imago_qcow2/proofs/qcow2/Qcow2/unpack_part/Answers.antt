-- SPDX-License-Identifier: MIT
use Rattle.std.proofs.Common.{◌≡◌, ◌/◌, ◌%◌, ◌<◌, length, sym, ◌∙◌, arith}
use Rattle.std.proofs.lemmas.Result.{err_from_is_err_and}
use Rattle.imago_qcow2.specs.Tables.{loaded_of, loaded_cluster}
use Rattle.imago_qcow2.proofs.CompressedSteps.{first_cluster, other_cluster, cluster_unpacked, cluster_unread, part_values}
use Rattle.imago_qcow2.proofs.qcow2.Qcow2.unpack_part.Goals as goal

pub returns-in_err-stream-clause-answered : goal.returns-in_err-stream-clause-answered
returns-in_err-stream-clause-answered g c =
    let s = c.args.self.now in
    let loaded = loaded_of s.header s.cluster.length s.tables in
    let p = err_from_is_err_and c.from_residual.result c.from_residual.ensures.1 in
    let is = first_cluster loaded c.args.offset c.cluster_at-cluster.result.1 c.cluster_at-cluster.result.0 c.cluster_at-cluster.ensures.same c.cluster_at-cluster.ensures.some in
    rw (p.1, p.2) (cluster_unread (g.S.Storage.features s.storage) (g.S.Storage.bytes s.storage) c.in-Some.at c.in-Some.count s.cluster.length (loaded_cluster loaded (c.args.offset / s.cluster.length)) c.in_err-stream.field-0.0 (is ∙ c.in-Some.ensures.yes) c.in_err-stream.ensures.refusals)

pub returns-clause-bytes : goal.returns-clause-bytes
returns-clause-bytes g c = λ told.
    let s = c.args.self.now in
    let loaded = loaded_of s.header s.cluster.length s.tables in
    let is = first_cluster loaded c.args.offset c.cluster_at-cluster.result.1 c.cluster_at-cluster.result.0 c.cluster_at-cluster.ensures.same c.cluster_at-cluster.ensures.some ∙ c.in-Some.ensures.yes in
    let some : 0 < s.cluster.length = omega (arith, s.cluster.shortest) in
    let len : length c.unpack.new.out ≡ length c.args.out.now = c.unpack.auto.out in
    let stream = c.in_ok-stream.stream in
    part_values (g.S.Storage.features s.storage) (g.S.Storage.bytes s.storage) loaded c.args.offset c.in-Some.at c.in-Some.count stream.items c.unpack.new.out c.unpack.result told some c.requires.deflated is
    (omega (arith, len, c.requires.inside)) (omega (arith, len, c.requires.within)) c.in_ok-stream.ensures.whole c.in_ok-stream.ensures.read
    (rw (c.deref.ensures.value, c.rest.ensures.value) at c.unpack.ensures)

pub returns-clause-answered : goal.returns-clause-answered
returns-clause-answered g c =
    let s = c.args.self.now in
    let loaded = loaded_of s.header s.cluster.length s.tables in
    let is = first_cluster loaded c.args.offset c.cluster_at-cluster.result.1 c.cluster_at-cluster.result.0 c.cluster_at-cluster.ensures.same c.cluster_at-cluster.ensures.some ∙ c.in-Some.ensures.yes in
    cluster_unpacked (g.S.Storage.features s.storage) (g.S.Storage.bytes s.storage) c.in-Some.at c.in-Some.count s.cluster.length (c.args.offset % s.cluster.length) (loaded_cluster loaded (c.args.offset / s.cluster.length)) c.in_ok-stream.stream.items c.unpack.new.out c.unpack.result is
    (record { len = c.in_ok-stream.ensures.whole; read = c.in_ok-stream.ensures.read })
    (rw (c.deref.ensures.value, c.rest.ensures.value) at c.unpack.ensures)

pub returns-in_default-clause-answered : goal.returns-in_default-clause-answered
returns-in_default-clause-answered g c =
    let s = c.args.self.now in
    let loaded = loaded_of s.header s.cluster.length s.tables in
    let is = first_cluster loaded c.args.offset c.cluster_at-cluster.result.1 c.cluster_at-cluster.result.0 c.cluster_at-cluster.ensures.same c.cluster_at-cluster.ensures.some in
    other_cluster (g.S.Storage.features s.storage) (g.S.Storage.bytes s.storage) s.cluster.length (loaded_cluster loaded (c.args.offset / s.cluster.length)) (λ at n e. c.stream.ensures.no c.in_default.is at n (sym is ∙ e))
