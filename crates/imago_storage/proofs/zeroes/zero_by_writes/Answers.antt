-- SPDX-License-Identifier: MIT
use Rattle.std.proofs.Common.{◌≡◌, ◌+◌, ◌-◌, ◌≤◌, length, arith, refl, ap, inr, [], ◌∷◌}
use Rattle.std.proofs.lemmas.Result.{err_from_is_err_and}
use Rattle.imago_storage.specs.Features.{len_align, zero_piece}
use Rattle.imago_storage.specs.Zeroes.{IsHead, IsZeroesWritten}
use Rattle.imago_storage.proofs.Outcomes.{OnOk_map, RequestMayRunOut_more, same_refusal, not_refused}
use Rattle.imago_storage.proofs.Padding.{len_positive}
use Rattle.imago_storage.proofs.Work.{write_loose, edge_alone, edge_then_pieces}
use Rattle.imago_storage.proofs.ZeroPieces.{piece_whole, align_power}
use Rattle.imago_storage.proofs.ZeroRanges.{HasZeroed_unchanged, HasZeroed_refused, HasZeroed_next, ZeroedPart_longer}
use Rattle.imago_storage.proofs.ZeroWraps.{data_from_start}
use Rattle.imago_storage.proofs.Outcomes.{CountsFaults_then}
use Rattle.imago_storage.proofs.Steps.{passed_on}
use Rattle.imago_storage.proofs.Orders.{one_made, one_refused, both_made, data_in_pieces, data_then_pieces, data_alone}
use Rattle.imago_storage.proofs.zeroes.zero_by_writes.Goals as goal

pub returns-in_err-stock-clause-written : goal.returns-in_err-stock-clause-written
returns-in_err-stock-clause-written g c =
    let f = g.S.Storage.features c.args.storage.now in
    let p = err_from_is_err_and c.from_residual-in_err-stock.result c.from_residual-in_err-stock.ensures.1 in
    HasZeroed_unchanged f _ _ _ _ _ (len_positive f (g.met.S.Storage.lawful c.args.storage.now)) p.1

pub zero_pieces-requires-clause-pieces : goal.zero_pieces-requires-clause-pieces
zero_pieces-requires-clause-pieces g c =
    let f = g.S.Storage.features c.args.storage.now in
    record {
      positive = omega (arith, c.max-piece.ensures);
      whole = rw (c.max-piece.ensures, c.length_align-align.ensures.value) (piece_whole (len_align f) (align_power f (g.met.S.Storage.lawful c.args.storage.now)));
      start = c.head_length-first.ensures.none c.if-first-eq0.true;
      some = c.requires.some;
      ends = c.requires.ends;
    }

pub returns-in_err-zeroes-clause-written : goal.returns-in_err-zeroes-clause-written
returns-in_err-zeroes-clause-written g c =
    let f = g.S.Storage.features c.args.storage.now in
    let p = err_from_is_err_and c.from_residual.result c.from_residual.ensures.1 in
    HasZeroed_unchanged f _ _ _ _ _ (len_positive f (g.met.S.Storage.lawful c.args.storage.now)) p.1

pub zero_pieces-requires-then-first-eq0-2-clause-pieces : goal.zero_pieces-requires-then-first-eq0-2-clause-pieces
zero_pieces-requires-then-first-eq0-2-clause-pieces g c =
    let f = g.S.Storage.features c.args.storage.now in
    record {
      positive = omega (arith, c.max-piece.ensures);
      whole = rw (c.max-piece.ensures, c.length_align-align.ensures.value) (piece_whole (len_align f) (align_power f (g.met.S.Storage.lawful c.args.storage.now)));
      start = c.head_length-first.ensures.none c.if-first-eq0-2.true;
      some = c.requires.some;
      ends = c.requires.ends;
    }

pub returns-then-remainder-eq0-clause-wraps : goal.returns-then-remainder-eq0-clause-wraps
returns-then-remainder-eq0-clause-wraps g c = λ wraps.
    let f = g.S.Storage.features c.args.storage.now in
    let starts = c.head_length-first.ensures.none c.if-first-eq0.true in
    (data_from_start f c.args.offset c.args.count (g.met.S.Storage.lawful c.args.storage.now) starts).0 (c.zero_pieces.ensures.wraps wraps)

pub returns-then-remainder-eq0-clause-fits : goal.returns-then-remainder-eq0-clause-fits
returns-then-remainder-eq0-clause-fits g c =
    let f = g.S.Storage.features c.args.storage.now in
    let starts = c.head_length-first.ensures.none c.if-first-eq0.true in
    OnOk_map _ (data_from_start f c.args.offset c.args.count (g.met.S.Storage.lawful c.args.storage.now) starts).1 c.zero_pieces.ensures.fits

pub returns-then-first-eq0-2-clause-wraps : goal.returns-then-first-eq0-2-clause-wraps
returns-then-first-eq0-2-clause-wraps g c = λ wraps.
    let f = g.S.Storage.features c.args.storage.now in
    let starts = c.head_length-first.ensures.none c.if-first-eq0-2.true in
    (data_from_start f c.args.offset c.args.count (g.met.S.Storage.lawful c.args.storage.now) starts).0 (c.zero_pieces-then-first-eq0-2.ensures.wraps wraps)

pub returns-then-first-eq0-2-clause-fits : goal.returns-then-first-eq0-2-clause-fits
returns-then-first-eq0-2-clause-fits g c =
    let f = g.S.Storage.features c.args.storage.now in
    let starts = c.head_length-first.ensures.none c.if-first-eq0-2.true in
    OnOk_map _ (data_from_start f c.args.offset c.args.count (g.met.S.Storage.lawful c.args.storage.now) starts).1 c.zero_pieces-then-first-eq0-2.ensures.fits

pub returns-in_err-zero_from-clause-written : goal.returns-in_err-zero_from-clause-written
returns-in_err-zero_from-clause-written g c =
    let f = g.S.Storage.features c.args.storage.now in
    let p = err_from_is_err_and c.from_residual-in_err-zero_from.result c.from_residual-in_err-zero_from.ensures.1 in
    let h : IsHead f c.args.offset c.args.count c.head_length-first.result = c.head_length-first.ensures.some (omega arith) in
    HasZeroed_refused f _ _ c.args.offset c.head_length-first.result c.args.offset c.args.count _ _ _ _ (c.zero_from.ensures.written.some h.positive) c.in_err-zero_from.was p.1 (omega arith) (omega (arith, h.within))

pub returns-in_err-zero_from-clause-wraps : goal.returns-in_err-zero_from-clause-wraps
returns-in_err-zero_from-clause-wraps g c = λ wraps.
    let p = err_from_is_err_and c.from_residual-in_err-zero_from.result c.from_residual-in_err-zero_from.ensures.1 in
    let h = c.head_length-first.ensures.some (omega arith) in
    h.wraps (c.zero_from.ensures.wraps.0 (same_refusal _ _ _ _ _ c.in_err-zero_from.was p.1 p.2 wraps))

pub returns-then-first-count-clause-written : goal.returns-then-first-count-clause-written
returns-then-first-count-clause-written g c =
    let h = c.head_length-first.ensures.some (omega arith) in
    rw (c.if-first-count.true, c.in_ok-zero_from.was) at (c.zero_from.ensures.written.some h.positive)

pub returns-then-first-count-clause-fits : goal.returns-then-first-count-clause-fits
returns-then-first-count-clause-fits g c =
    let h = c.head_length-first.ensures.some (omega arith) in
    h.fits c.if-first-count.true (λ w. not_refused _ _ _ c.in_ok-zero_from.was (c.zero_from.ensures.wraps.1 w))

pub zero_pieces-requires-2-clause-pieces : goal.zero_pieces-requires-2-clause-pieces
zero_pieces-requires-2-clause-pieces g c =
    let f = g.S.Storage.features c.args.storage.now in
    let h = c.head_length-first.ensures.some (omega arith) in
    record {
      positive = omega (arith, c.max-piece.ensures);
      whole = rw (c.in_ok-zero_from.ensures.features, c.max-piece.ensures, c.length_align-align.ensures.value) (piece_whole (len_align f) (align_power f (g.met.S.Storage.lawful c.args.storage.now)));
      start = rw c.in_ok-zero_from.ensures.features (h.rest_start (omega (arith, h.within, c.if-first-count.false)));
      some = omega (arith, h.within, c.if-first-count.false);
      ends = omega (arith, h.within, c.requires.ends);
    }

pub returns-clause-written : goal.returns-clause-written
returns-clause-written g c =
    let f = g.S.Storage.features c.args.storage.now in
    let h = c.head_length-first.ensures.some (omega arith) in
    let first = rw c.in_ok-zero_from.was at (c.zero_from.ensures.written.some h.positive) in
    let all : c.head_length-first.result + (c.args.count - c.head_length-first.result) ≡ c.args.count = omega (arith, h.within) in
    rw all at (HasZeroed_next f _ _ _ c.args.offset c.head_length-first.result (c.args.count - c.head_length-first.result) _ first (rw c.in_ok-zero_from.ensures.features at c.zero_pieces-2.ensures.written))

pub returns-clause-wraps : goal.returns-clause-wraps
returns-clause-wraps g c = λ wraps.
    let h = c.head_length-first.ensures.some (omega arith) in
    h.rest_wraps (omega (arith, h.within, c.if-first-count.false)) (rw c.in_ok-zero_from.ensures.features at (c.zero_pieces-2.ensures.wraps wraps))

pub returns-clause-fits : goal.returns-clause-fits
returns-clause-fits g c =
    let h = c.head_length-first.ensures.some (omega arith) in
    let fits = rw c.in_ok-zero_from.ensures.features at c.zero_pieces-2.ensures.fits in
    OnOk_map _ (h.rest_fits (omega (arith, h.within, c.if-first-count.false)) (λ w. not_refused _ _ _ c.in_ok-zero_from.was (c.zero_from.ensures.wraps.1 w))) fits

pub returns-in_err-zero_from-clause-early : goal.returns-in_err-zero_from-clause-early
returns-in_err-zero_from-clause-early g c = λ m none.
    let f = g.S.Storage.features c.args.storage.now in
    let xs = g.S.Storage.bytes c.args.storage.now in
    let p = err_from_is_err_and c.from_residual-in_err-zero_from.result c.from_residual-in_err-zero_from.ensures.1 in
    let h = c.head_length-first.ensures.some (omega arith) in
    let longer : length xs ≤ length xs = omega arith in
    let end : c.args.offset + c.head_length-first.result + (len_align f - 1) ≤ c.args.offset + c.args.count + (len_align f - 1) = omega (arith, h.within) in
    absurd (none (RequestMayRunOut_more f f _ _ _ _ refl longer end (c.zero_from.ensures.memory (same_refusal _ _ _ _ _ c.in_err-zero_from.was p.1 p.2 m))))

pub returns-clause-early : goal.returns-clause-early
returns-clause-early g c = λ m none.
    let f = g.S.Storage.features c.args.storage.now in
    let h = c.head_length-first.ensures.some (omega arith) in
    let longer = ZeroedPart_longer f _ _ _ _ _ c.zero_from.ensures.written in
    let end : c.args.offset + c.head_length-first.result + (c.args.count - c.head_length-first.result) + (len_align f - 1) ≤ c.args.offset + c.args.count + (len_align f - 1) = omega (arith, h.within) in
    absurd (none (RequestMayRunOut_more f f _ _ _ _ refl longer end (rw c.in_ok-zero_from.ensures.features at (c.zero_pieces-2.ensures.memory m))))

pub returns-in_err-zero_from-clause-work : goal.returns-in_err-zero_from-clause-work
returns-in_err-zero_from-clause-work g c =
    let f = g.S.Storage.features c.args.storage.now in
    let lawful = g.met.S.Storage.lawful c.args.storage.now in
    let h = c.head_length-first.ensures.some (omega arith) in
    edge_alone (len_align f) (zero_piece f) _ c.head_length-first.result (omega arith) h.within (write_loose f c.args.offset c.head_length-first.result lawful c.zero_from.ensures.work)

pub returns-then-first-count-clause-work : goal.returns-then-first-count-clause-work
returns-then-first-count-clause-work g c =
    let f = g.S.Storage.features c.args.storage.now in
    let lawful = g.met.S.Storage.lawful c.args.storage.now in
    let h = c.head_length-first.ensures.some (omega arith) in
    edge_alone (len_align f) (zero_piece f) _ c.head_length-first.result (omega arith) h.within (write_loose f c.args.offset c.head_length-first.result lawful c.zero_from.ensures.work)

pub returns-clause-work : goal.returns-clause-work
returns-clause-work g c =
    let f = g.S.Storage.features c.args.storage.now in
    let lawful = g.met.S.Storage.lawful c.args.storage.now in
    let h = c.head_length-first.ensures.some (omega arith) in
    let piece : c.max-piece.result ≡ zero_piece f = rw (c.max-piece.ensures, c.length_align-align.ensures.value) refl in
    edge_then_pieces (len_align f) (zero_piece f) c.args.count c.head_length-first.result h.within
    (write_loose f c.args.offset c.head_length-first.result lawful c.in_ok-zero_from.ensures.work)
    (rw (c.in_ok-zero_from.ensures.features, piece) at c.zero_pieces-2.ensures.work)

pub returns-then-remainder-eq0-clause-performed : goal.returns-then-remainder-eq0-clause-performed
returns-then-remainder-eq0-clause-performed g c =
    let f = g.S.Storage.features c.args.storage.now in
    let piece : c.max-piece.result ≡ zero_piece f = rw (c.max-piece.ensures, c.length_align-align.ensures.value) refl in
    inr (rw (data_in_pieces f c.args.offset c.args.count _ c.head_length-first.ensures.exact c.if-first-eq0.true) (rw piece at c.zero_pieces.ensures.performed))

pub returns-then-first-eq0-2-clause-performed : goal.returns-then-first-eq0-2-clause-performed
returns-then-first-eq0-2-clause-performed g c =
    let f = g.S.Storage.features c.args.storage.now in
    let piece : c.max-piece.result ≡ zero_piece f = rw (c.max-piece.ensures, c.length_align-align.ensures.value) refl in
    inr (rw (data_in_pieces f c.args.offset c.args.count _ c.head_length-first.ensures.exact c.if-first-eq0-2.true) (rw piece at c.zero_pieces-then-first-eq0-2.ensures.performed))

pub returns-in_err-zero_from-clause-performed : goal.returns-in_err-zero_from-clause-performed
returns-in_err-zero_from-clause-performed g c =
    let f = g.S.Storage.features c.args.storage.now in
    let same = passed_on _ _ _ c.in_err-zero_from.was c.from_residual-in_err-zero_from.ensures.1 in
    inr (rw (data_then_pieces f c.args.offset c.args.count _ c.head_length-first.ensures.exact (omega arith)) (one_refused (IsZeroesWritten g.S.Storage.features g.S.Storage.bytes g.S.Storage.maintenance) _ _ _ c.zero_from.ensures.performed c.in_err-zero_from.was same))

pub returns-then-first-count-clause-performed : goal.returns-then-first-count-clause-performed
returns-then-first-count-clause-performed g c =
    let f = g.S.Storage.features c.args.storage.now in
    inr (rw (data_alone f c.args.offset c.args.count _ c.head_length-first.ensures.exact (omega arith) c.if-first-count.true) (one_made (IsZeroesWritten g.S.Storage.features g.S.Storage.bytes g.S.Storage.maintenance) c.args.offset c.head_length-first.result (rw c.in_ok-zero_from.was at c.zero_from.ensures.performed)))

pub returns-clause-cause : goal.returns-clause-cause
returns-clause-cause g c = CountsFaults_then _ _ _ _ _ _ _ (ap (λ f. f.is_reliable) c.in_ok-zero_from.ensures.features) c.zero_from.ensures.cause c.zero_pieces-2.ensures.cause

pub returns-clause-performed : goal.returns-clause-performed
returns-clause-performed g c =
    let f = g.S.Storage.features c.args.storage.now in
    let piece : c.max-piece.result ≡ zero_piece f = rw (c.max-piece.ensures, c.length_align-align.ensures.value) refl in
    let first = c.head_length-first.result in
    inr (rw (data_then_pieces f c.args.offset c.args.count first c.head_length-first.ensures.exact (omega arith)) (both_made (IsZeroesWritten g.S.Storage.features g.S.Storage.bytes g.S.Storage.maintenance) ((c.args.offset, first) ∷ []) _ _ _ _ _ _ _ (one_made (IsZeroesWritten g.S.Storage.features g.S.Storage.bytes g.S.Storage.maintenance) c.args.offset first c.zero_from.ensures.performed) c.in_ok-zero_from.was (rw piece at c.zero_pieces-2.ensures.performed)))
