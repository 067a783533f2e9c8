-- SPDX-License-Identifier: MIT
use Rattle.std.proofs.Common.{◌≡◌, ◌+◌, ◌<◌, ◌++◌, ◌∷◌, [], take, length, sym, ap, ◌∙◌, arith}
use Rattle.std.specs.String.{string_bytes}
use Rattle.std.proofs.lemmas.List.{take_more, take_all}
use Rattle.std.proofs.lemmas.Result.{err_from_is_err_and}
use Rattle.imago_vmdk.proofs.Opened.{opened_more, refused_here}
use Rattle.imago_vmdk.proofs.vmdk.open_extents.Goals as goal

pub loop-extent-preserved : goal.loop-extent-preserved
loop-extent-preserved g c =
    let l = c.loop-extent in
    let o = c.in_ok-open_extent.ensures.opened in
    let more : take (l.extent-index + 1) c.args.extents.now ≡ take l.extent-index c.args.extents.now ++ c.extent-item.result ∷ [] = take_more c.args.extents.now l.extent-index c.extent-item.result (omega arith) ∙ ap (λ x. take l.extent-index c.args.extents.now ++ x ∷ []) (sym c.extent-item.is) in
    rw (more, o.2) (opened_more g.G.ImplicitOpenGate.opened (λ n. g.S.Storage.openings.resolved c.args.descriptor.now (string_bytes n)) c.args.direct (take l.extent-index c.args.extents.now) c.extent-item.result c.args.gate.now l.gate c.open_extent.new.gate l.storages.items o.0 l.invariant o.1)

pub returns-in_err-open_extent-clause-refused : goal.returns-in_err-open_extent-clause-refused
returns-in_err-open_extent-clause-refused g c =
    let l = c.loop-extent in
    let p = err_from_is_err_and c.from_residual.result c.from_residual.ensures.1 in
    let some : l.extent-index < length c.args.extents.now = omega arith in
    rw (p.1, p.2) (refused_here g.G.ImplicitOpenGate.opened (λ n. g.S.Storage.openings.resolved c.args.descriptor.now (string_bytes n)) c.args.direct (g.S.Storage.features c.args.descriptor.now) c.args.extents.now l.extent-index c.extent-item.result c.args.gate.now l.gate c.open_extent.new.gate l.storages.items _ some c.extent-item.is l.invariant c.in_err-open_extent.ensures.refused)

pub returns-clause-opened : goal.returns-clause-opened
returns-clause-opened g c =
    let l = c.loop-extent in
    let all : take l.extent-index c.args.extents.now ≡ c.args.extents.now = take_all l.extent-index c.args.extents.now (omega arith) in
    rw all at l.invariant
