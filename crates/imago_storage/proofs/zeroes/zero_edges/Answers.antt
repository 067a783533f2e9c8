-- SPDX-License-Identifier: MIT
use Rattle.std.proofs.Common.{◌≡◌, ◌+◌, ◌-◌, ◌≤◌, length, arith, inl, inr, refl, ap}
use Rattle.std.proofs.lemmas.Result.{err_from_is_err_and}
use Rattle.imago_storage.specs.Features.{len_align, zero_piece}
use Rattle.imago_storage.specs.Padding.{Wraps}
use Rattle.imago_storage.proofs.Outcomes.{RequestMayRunOut_more, same_refusal, not_refused, fits_where_ok}
use Rattle.imago_storage.proofs.Work.{write_loose, edge_alone, both_edges}
use Rattle.imago_storage.proofs.ZeroRanges.{HasZeroed_refused, HasZeroed_before, HasZeroed_behind, ZeroedPart_longer}
use Rattle.imago_storage.proofs.ZeroWraps.{edge_wraps, edge_fits}
use Rattle.imago_storage.proofs.Outcomes.{CountsFaults_then}
use Rattle.imago_storage.proofs.Steps.{passed_on}
use Rattle.imago_storage.proofs.Orders.{both_made, first_refused, zeroed_range}
use Rattle.imago_storage.proofs.zeroes.zero_edges.Goals as goal

pub returns-in_err-zero_from-clause-written : goal.returns-in_err-zero_from-clause-written
returns-in_err-zero_from-clause-written g c = λ old part.
    let f = g.S.Storage.features c.args.storage.now in
    let p = err_from_is_err_and c.from_residual.result c.from_residual.ensures.1 in
    let head = c.args.range.start - c.args.range.offset in
    let here : c.args.range.offset + head ≡ c.args.range.start = omega (arith, c.requires.part.part.before) in
    let both = HasZeroed_before f old _ _ c.args.range.offset head c.args.range.start (c.args.range.end - c.args.range.start) _ here part c.zero_from.ensures.written in
    HasZeroed_refused f old _ c.args.range.offset (head + (c.args.range.end - c.args.range.start)) c.args.range.offset c.args.range.count _ _ _ _ both c.in_err-zero_from.was p.1 (omega arith) (omega (arith, c.requires.part.part.before, c.requires.part.part.behind, c.requires.part.some))

pub returns-in_err-zero_from-clause-wraps : goal.returns-in_err-zero_from-clause-wraps
returns-in_err-zero_from-clause-wraps g c = λ wraps.
    let f = g.S.Storage.features c.args.storage.now in
    let p = err_from_is_err_and c.from_residual.result c.from_residual.ensures.1 in
    edge_wraps f _ _ _ _ c.requires.part.part (inl (c.zero_from.ensures.wraps.0 (same_refusal _ _ _ _ _ c.in_err-zero_from.was p.1 p.2 wraps)))

pub returns-clause-written : goal.returns-clause-written
returns-clause-written g c = λ old part.
    let f = g.S.Storage.features c.args.storage.now in
    let head = c.args.range.start - c.args.range.offset in
    let middle = c.args.range.end - c.args.range.start in
    let tail = c.args.range.offset + c.args.range.count - c.args.range.end in
    let here : c.args.range.offset + head ≡ c.args.range.start = omega (arith, c.requires.part.part.before) in
    let there : c.args.range.offset + (head + middle) ≡ c.args.range.end = omega (arith, c.requires.part.part.before, c.requires.part.some) in
    let all : head + middle + tail ≡ c.args.range.count = omega (arith, c.requires.part.part.before, c.requires.part.part.behind, c.requires.part.some) in
    let both = HasZeroed_before f old _ _ c.args.range.offset head c.args.range.start middle _ here part c.zero_from.ensures.written in
    rw all at (HasZeroed_behind f old _ _ c.args.range.offset (head + middle) c.args.range.end tail _ there (rw c.in_ok-zero_from.was at both) (rw c.in_ok-zero_from.ensures.features at c.zero_from-2.ensures.written))

pub returns-clause-wraps : goal.returns-clause-wraps
returns-clause-wraps g c = λ wraps.
    let f = g.S.Storage.features c.args.storage.now in
    edge_wraps f _ _ _ _ c.requires.part.part (inr (rw c.in_ok-zero_from.ensures.features at (c.zero_from-2.ensures.wraps.0 wraps)))

pub returns-clause-fits : goal.returns-clause-fits
returns-clause-fits g c =
    let f = g.S.Storage.features c.args.storage.now in
    let head = λ (w : Wraps f c.args.range.offset (c.args.range.start - c.args.range.offset)). not_refused _ _ _ c.in_ok-zero_from.was (c.zero_from.ensures.wraps.1 w) in
    fits_where_ok c.zero_from-2.result _ _ (λ w. c.zero_from-2.ensures.wraps.1 (rw c.in_ok-zero_from.ensures.features w)) (λ tail. edge_fits f _ _ _ _ c.requires.part.part head tail)

pub returns-in_err-zero_from-clause-memory : goal.returns-in_err-zero_from-clause-memory
returns-in_err-zero_from-clause-memory g c = λ m.
    let f = g.S.Storage.features c.args.storage.now in
    let xs = g.S.Storage.bytes c.args.storage.now in
    let p = err_from_is_err_and c.from_residual.result c.from_residual.ensures.1 in
    let longer : length xs ≤ length xs = omega arith in
    let end : c.args.range.offset + (c.args.range.start - c.args.range.offset) + (len_align f - 1) ≤ c.args.range.offset + c.args.range.count + (len_align f - 1) = omega (arith, c.requires.part.part.behind, c.requires.part.some) in
    RequestMayRunOut_more f f _ _ _ _ refl longer end (c.zero_from.ensures.memory (same_refusal _ _ _ _ _ c.in_err-zero_from.was p.1 p.2 m))

pub returns-clause-memory : goal.returns-clause-memory
returns-clause-memory g c = λ m.
    let f = g.S.Storage.features c.args.storage.now in
    let longer = ZeroedPart_longer f _ _ _ _ _ c.zero_from.ensures.written in
    let end : c.args.range.end + (c.args.range.offset + c.args.range.count - c.args.range.end) + (len_align f - 1) ≤ c.args.range.offset + c.args.range.count + (len_align f - 1) = omega (arith, c.requires.part.part.behind) in
    RequestMayRunOut_more f f _ _ _ _ refl longer end (rw c.in_ok-zero_from.ensures.features at (c.zero_from-2.ensures.memory m))

pub returns-in_err-zero_from-clause-work : goal.returns-in_err-zero_from-clause-work
returns-in_err-zero_from-clause-work g c =
    let f = g.S.Storage.features c.args.storage.now in
    let lawful = g.met.S.Storage.lawful c.args.storage.now in
    edge_alone (len_align f) (zero_piece f) _ (c.args.range.start - c.args.range.offset) (omega arith) (omega arith) (write_loose f c.args.range.offset (c.args.range.start - c.args.range.offset) lawful c.zero_from.ensures.work)

pub returns-clause-work : goal.returns-clause-work
returns-clause-work g c =
    let f = g.S.Storage.features c.args.storage.now in
    let lawful = g.met.S.Storage.lawful c.args.storage.now in
    let head = c.args.range.start - c.args.range.offset in
    let tail = c.args.range.offset + c.args.range.count - c.args.range.end in
    let second = rw c.in_ok-zero_from.ensures.features at c.zero_from-2.ensures.work in
    both_edges (len_align f) (zero_piece f) head tail (omega arith) (write_loose f c.args.range.offset head lawful c.in_ok-zero_from.ensures.work) (write_loose f c.args.range.end tail lawful second)

pub returns-clause-cause : goal.returns-clause-cause
returns-clause-cause g c = CountsFaults_then _ _ _ _ _ _ _ (ap (λ f. f.is_reliable) c.in_ok-zero_from.ensures.features) c.zero_from.ensures.cause c.zero_from-2.ensures.cause

pub returns-in_err-zero_from-clause-performed : goal.returns-in_err-zero_from-clause-performed
returns-in_err-zero_from-clause-performed g c =
    let same = passed_on _ _ _ c.in_err-zero_from.was c.from_residual.ensures.1 in
    rw same (first_refused _ _ _ _ _ _ _ (zeroed_range _ _ _ _ _ c.zero_from.ensures.performed) c.in_err-zero_from.was)

pub returns-clause-performed : goal.returns-clause-performed
returns-clause-performed g c =
    both_made _ _ _ _ _ _ _ _ _ (zeroed_range _ _ _ _ _ c.zero_from.ensures.performed) c.in_ok-zero_from.was (zeroed_range _ _ _ _ _ c.zero_from-2.ensures.performed)
