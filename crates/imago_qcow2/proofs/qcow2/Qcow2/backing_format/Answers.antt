-- SPDX-License-Identifier: MIT
use Rattle.std.proofs.Common.{◌≡◌, sym, ap, ◌∙◌, Ok, Some, arith}
use Rattle.std.proofs.lemmas.Result.{err_from_is_err_and}
use Rattle.imago_qcow2.specs.Backing.{format_of}
use Rattle.imago_qcow2.specs.Tables.{header_cluster}
use Rattle.imago_qcow2.proofs.BackingSteps.{format_here, refusal_here}
use Rattle.imago_qcow2.proofs.ToldSteps.{own_told}
use Rattle.imago_qcow2.proofs.qcow2.Qcow2.backing_format.Goals as goal

pub returns-in_err-found-clause-refusals : goal.returns-in_err-found-clause-refusals
returns-in_err-found-clause-refusals g c =
    let s = c.args.self.now in
    let F = g.S.Storage.features s.storage in
    let B = g.S.Storage.bytes s.storage in
    let p = err_from_is_err_and c.from_residual.result c.from_residual.ensures.1 in
    rw (p.1, p.2) (refusal_here F B s.header.own_length c.extensions_end-end.result (header_cluster s.header) c.in_err-found.field-0.0 (λ told. own_told F B told s.header s.tables s.cluster.length s.cluster_is s.loaded)
    c.extensions_end-end.ensures.value (omega (arith, c.extensions_end-end.ensures.inside, s.cluster_is)) c.in_err-found.ensures.refusals)

pub returns-in_default-clause-name : goal.returns-in_default-clause-name
returns-in_default-clause-name g c = λ told.
    let s = c.args.self.now in
    let F = g.S.Storage.features s.storage in
    let B = g.S.Storage.bytes s.storage in
    let here = format_here B s.header.own_length c.extensions_end-end.result (own_told F B told s.header s.tables s.cluster.length s.cluster_is s.loaded) (c.extensions_end-end.ensures.value told) in
    sym here ∙ c.in_ok-found.ensures.found told ∙ ap Ok c.in_default.is

pub returns-clause-name : goal.returns-clause-name
returns-clause-name g c = λ told.
    let s = c.args.self.now in
    let F = g.S.Storage.features s.storage in
    let B = g.S.Storage.bytes s.storage in
    let here = format_here B s.header.own_length c.extensions_end-end.result (own_told F B told s.header s.tables s.cluster.length s.cluster_is s.loaded) (c.extensions_end-end.ensures.value told) in
    let e : format_of B ≡ Ok (Some (c.in-Some.at, c.in-Some.count)) = sym here ∙ c.in_ok-found.ensures.found told ∙ ap Ok c.in-Some.is in
    (c.in-Some.at, rw c.in_ok-read_bytes.ensures.whole e, c.in_ok-read_bytes.ensures.read told)
