-- SPDX-License-Identifier: MIT
use Rattle.std.proofs.Common.{◌≡◌, ◌+◌, ◌-◌, ◌≤◌, length, arith, inl, inr, refl}
use Rattle.std.proofs.lemmas.Result.{err_from_is_err_and}
use Rattle.imago_storage.specs.Features.{len_align}
use Rattle.imago_storage.proofs.Outcomes.{OnOk_map, RequestMayRunOut_more, ZeroesMayRunOut_more, same_refusal}
use Rattle.imago_storage.proofs.Padding.{len_positive}
use Rattle.imago_storage.proofs.ZeroCalls.{part_alone}
use Rattle.imago_storage.proofs.ZeroRanges.{HasZeroed_refused, HasZeroed_unchanged}
use Rattle.imago_storage.proofs.ZeroWraps.{no_edges}
use Rattle.imago_storage.proofs.zeroes.zero_part_and_edges.Goals as goal

pub returns-in_err-stock-clause-written : goal.returns-in_err-stock-clause-written
returns-in_err-stock-clause-written g c =
    let p = err_from_is_err_and c.from_residual.result c.from_residual.ensures.1 in
    HasZeroed_unchanged _ _ _ _ _ _ (len_positive _ (g.met.S.Storage.lawful c.args.storage.now)) p.1

pub returns-in_err-zero_aligned-clause-written : goal.returns-in_err-zero_aligned-clause-written
returns-in_err-zero_aligned-clause-written g c =
    let f = g.S.Storage.features c.args.storage.now in
    let p = err_from_is_err_and c.from_residual-in_err-zero_aligned.result c.from_residual-in_err-zero_aligned.ensures.1 in
    HasZeroed_refused f _ _ c.args.range.start (c.args.range.end - c.args.range.start) c.args.range.offset c.args.range.count _ _ _ _ c.zero_aligned-2.ensures.written c.in_err-zero_aligned.was p.1 (omega (arith, c.requires.part.before)) (omega (arith, c.requires.part.behind, c.requires.some))

pub returns-in_err-zero_aligned-clause-early : goal.returns-in_err-zero_aligned-clause-early
returns-in_err-zero_aligned-clause-early g c = λ m none.
    let f = g.S.Storage.features c.args.storage.now in
    let xs = g.S.Storage.bytes c.args.storage.now in
    let p = err_from_is_err_and c.from_residual-in_err-zero_aligned.result c.from_residual-in_err-zero_aligned.ensures.1 in
    let longer : length xs ≤ length xs = omega arith in
    let end : c.args.range.start + (c.args.range.end - c.args.range.start) ≤ c.args.range.offset + c.args.range.count + (len_align f - 1) = omega (arith, c.requires.part.behind, c.requires.some) in
    c.zero_aligned-2.ensures.early (same_refusal _ _ _ _ _ c.in_err-zero_aligned.was p.1 p.2 m) (λ may. none (ZeroesMayRunOut_more f _ _ _ _ longer end may))

pub returns-clause-written : goal.returns-clause-written
returns-clause-written g c =
    let part = rw c.in_ok-zero_aligned.was at c.zero_aligned-2.ensures.written in
    let edges = rw c.in_ok-zero_aligned.ensures.features at c.zero_edges.ensures.written in
    edges _ part

pub returns-clause-early : goal.returns-clause-early
returns-clause-early g c = λ m none.
    let f = g.S.Storage.features c.args.storage.now in
    let longer = c.zero_aligned-2.ensures.written.written.no_shorter in
    let may = rw c.in_ok-zero_aligned.ensures.features at (c.zero_edges.ensures.memory m) in
    let end : c.args.range.offset + c.args.range.count + (len_align f - 1) ≤ c.args.range.offset + c.args.range.count + (len_align f - 1) = omega arith in
    absurd (none (inl (RequestMayRunOut_more f f _ _ _ _ refl longer end may)))

pub returns-then-range-2-clause-written : goal.returns-then-range-2-clause-written
returns-then-range-2-clause-written g c =
    let last : c.args.range.end ≡ c.args.range.offset + c.args.range.count = cc in
    let all : c.args.range.end - c.args.range.start ≡ c.args.range.count = omega (arith, last) in
    rw c.if-range.true at (rw all at c.zero_aligned.ensures.written)

pub returns-then-range-2-clause-fits : goal.returns-then-range-2-clause-fits
returns-then-range-2-clause-fits g c =
    let f = g.S.Storage.features c.args.storage.now in
    let last : c.args.range.end ≡ c.args.range.offset + c.args.range.count = cc in
    OnOk_map c.zero_aligned.result (λ _. no_edges f c.args.range.offset c.args.range.count c.args.range.start c.args.range.end c.requires.part c.if-range.true last) c.zero_aligned.ensures.written.written.len

pub returns-then-range-2-clause-performed : goal.returns-then-range-2-clause-performed
returns-then-range-2-clause-performed g c =
    let last : c.args.range.end ≡ c.args.range.offset + c.args.range.count = cc in
    inr (part_alone _ _ _ _ _ _ _ _ _ _ c.requires.part _ _ _ c.if-range.true last c.zero_aligned.ensures.performed)
