-- SPDX-License-Identifier: MIT
use Rattle.std.proofs.Common.{◌≡◌, ◌+◌, ◌/◌, ◌<◌, ◌∙◌, arith}
use Rattle.std.proofs.lemmas.Result.{err_from_is_err_and}
use Rattle.imago_qcow2.specs.declared.entry.GuestCluster.{GuestCluster}
use Rattle.imago_qcow2.specs.Tables.{loaded_of, loaded_cluster}
use Rattle.imago_qcow2.proofs.MapSteps.{place_of, packed_bytes}
use Rattle.imago_qcow2.proofs.qcow2.Qcow2.part_at.Goals as goal

pub returns-clause-names : goal.returns-clause-names
returns-clause-names g c = λ i h.
    let s = c.args.self.now in
    let B = g.S.Storage.bytes s.storage in
    let r = c.run_at-cluster in
    let near : i < r.result.1 = omega (arith, h, c.min.ensures) in
    let under : c.args.offset + i < s.header.size = omega (arith, h, c.min.ensures, c.requires) in
    rw (place_of (g.S.Storage.features s.storage) B (loaded_of s.header s.cluster.length s.tables) c.args.offset (omega (arith, s.cluster.shortest)) r.result.0 i (r.ensures.same i near) (λ at e. omega (arith, near, (r.ensures.stored at e).1)) (λ at n e. omega (arith, near, r.ensures.packed at n e)) under)
    (rw c.rest.ensures.value at c.in_ok-mapping.ensures.names (packed_bytes (g.S.Storage.features s.storage) B (loaded_of s.header s.cluster.length s.tables) c.args.offset) B i)

pub returns-in_err-mapping-clause-refused : goal.returns-in_err-mapping-clause-refused
returns-in_err-mapping-clause-refused g c =
    let s = c.args.self.now in
    let B = g.S.Storage.bytes s.storage in
    let F = g.S.Storage.features s.storage in
    let loaded = loaded_of s.header s.cluster.length s.tables in
    let r = c.run_at-cluster in
    let p = err_from_is_err_and c.from_residual.result c.from_residual.ensures.1 in
    let why = c.in_err-mapping.ensures.refused in
    let e : c.args.offset + 0 ≡ c.args.offset = omega arith in
    let under : c.args.offset + 0 < s.header.size = omega (arith, c.requires) in
    let is : loaded_cluster loaded ((c.args.offset + 0) / s.cluster.length) ≡ GuestCluster.Invalid = r.ensures.same 0 r.ensures.some ∙ why.1 in
    let here = place_of F B loaded c.args.offset (omega (arith, s.cluster.shortest)) GuestCluster.Invalid 0 is (λ at x. let z : ⊥ = cc in absurd z) (λ at n x. let z : ⊥ = cc in absurd z) under in
    rw (p.1, p.2, why.0) (rw e at here)
