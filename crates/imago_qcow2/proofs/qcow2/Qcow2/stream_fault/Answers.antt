-- SPDX-License-Identifier: MIT
use Rattle.std.proofs.Common.{◌/◌, sym, ◌∙◌, inr}
use Rattle.std.proofs.lemmas.Result.{err_from_is_err_and}
use Rattle.imago_qcow2.specs.Tables.{loaded_of, loaded_cluster}
use Rattle.imago_qcow2.proofs.CompressedSteps.{first_cluster, other_fault, all_known, fault_unknown, no_room}
use Rattle.imago_qcow2.proofs.qcow2.Qcow2.stream_fault.Goals as goal

pub returns-in_default-clause-inside : goal.returns-in_default-clause-inside
returns-in_default-clause-inside g c = λ inside.
    let s = c.args.self.now in
    let loaded = loaded_of s.header s.cluster.length s.tables in
    let k = c.cluster_at-cluster in
    let is = first_cluster loaded c.args.offset k.result.1 k.result.0 k.ensures.same k.ensures.some in
    other_fault (g.S.Storage.features s.storage) (g.S.Storage.bytes s.storage) s.cluster.length (loaded_cluster loaded (c.args.offset / s.cluster.length)) (λ at n e. c.stream.ensures.no c.in_default.is at n (sym is ∙ e))

pub returns-in_err-stream-clause-refusals : goal.returns-in_err-stream-clause-refusals
returns-in_err-stream-clause-refusals g c =
    let s = c.args.self.now in
    let loaded = loaded_of s.header s.cluster.length s.tables in
    let k = c.cluster_at-cluster in
    let p = err_from_is_err_and c.from_residual.result c.from_residual.ensures.1 in
    let is = first_cluster loaded c.args.offset k.result.1 k.result.0 k.ensures.same k.ensures.some ∙ c.in-Some.ensures.yes in
    rw (p.1, p.2) (fault_unknown (g.S.Storage.features s.storage) (g.S.Storage.bytes s.storage) c.in-Some.at c.in-Some.count s.header.compression (loaded_cluster loaded (c.args.offset / s.cluster.length)) c.in_err-stream.field-0.0 is (inr c.in_err-stream.ensures.refusals))

pub returns-clause-inside : goal.returns-clause-inside
returns-clause-inside g c = λ inside.
    let s = c.args.self.now in
    let loaded = loaded_of s.header s.cluster.length s.tables in
    let k = c.cluster_at-cluster in
    let is = first_cluster loaded c.args.offset k.result.1 k.result.0 k.ensures.same k.ensures.some ∙ c.in-Some.ensures.yes in
    all_known (g.S.Storage.features s.storage) (g.S.Storage.bytes s.storage) c.in-Some.at c.in-Some.count s.cluster.length (loaded_cluster loaded (c.args.offset / s.cluster.length)) c.in_ok-stream.stream.items c.fault_of.result is
    (record { len = c.in_ok-stream.ensures.whole; read = c.in_ok-stream.ensures.read })
    (rw c.deref.ensures.value at c.fault_of.ensures.fault)

pub returns-clause-refusals : goal.returns-clause-refusals
returns-clause-refusals g c =
    let s = c.args.self.now in
    let loaded = loaded_of s.header s.cluster.length s.tables in
    let k = c.cluster_at-cluster in
    let is = first_cluster loaded c.args.offset k.result.1 k.result.0 k.ensures.same k.ensures.some ∙ c.in-Some.ensures.yes in
    no_room (g.S.Storage.features s.storage) (g.S.Storage.bytes s.storage) c.in-Some.at c.in-Some.count s.header.compression (loaded_cluster loaded (c.args.offset / s.cluster.length)) c.fault_of.result is c.fault_of.ensures.refusals
