-- SPDX-License-Identifier: MIT
use Rattle.std.proofs.Common.{rules, ◌≡◌, ◌≢◌, ◌<◌, ◌≤◌, ◌+◌, ◌-◌, ◌%◌, ◌⊎◌, arith, inl, inr, ap, refl, ◌∙◌}
use Rattle.std.proofs.lemmas.Result.{err_from_is_err_and}
use Rattle.imago_storage.specs.Features.{len_align}
use Rattle.imago_storage.proofs.Alignment.{multiple_add}
use Rattle.imago_storage.proofs.Outcomes.{CountsFaults_ok, CountsFaults_then, RequestMayRunOut_more, same_refusal, not_refused}
use Rattle.imago_storage.proofs.Work.{write_loose, edged_none, edged_next, edged_within}
use Rattle.imago_storage.proofs.ZeroRanges.{ZeroedPart_next, ZeroedPart_longer, HasZeroed_refused}
use Rattle.imago_storage.proofs.ZeroWraps.{piece_wraps, piece_aligned, piece_in_whole, last_fits, piece_kind}
use Rattle.imago_storage.specs.Zeroes.{IsZeroesWritten}
use Rattle.imago_storage.proofs.Steps.{passed_on}
use Rattle.imago_storage.proofs.Orders.{one_made, one_refused, both_made, pieces_none, pieces_split, next_range, next_pieces, left_begins}
use Rattle.std.proofs.Math.Nat.{mod-eq_of_lt}
use Rattle.imago_storage.proofs.zeroes.zero_pieces.Goals as goal

pub returns-in_err-zero_from-clause-written : goal.returns-in_err-zero_from-clause-written
returns-in_err-zero_from-clause-written g c =
    let f = g.S.Storage.features c.args.storage.now in
    let p = err_from_is_err_and c.from_residual.result c.from_residual.ensures.1 in
    let more : 0 < c.min-next.result = omega arith in
    let step = ZeroedPart_next f _ _ _ c.args.offset c.loop-done.done c.min-next.result _ more c.loop-done.invariant.zeroed (rw c.loop-done.invariant.features at c.zero_from.ensures.written) in
    HasZeroed_refused f _ _ c.args.offset (c.loop-done.done + c.min-next.result) c.args.offset c.args.count _ _ _ _ step c.in_err-zero_from.was p.1 (omega arith) (omega arith)

pub zero_from-requires-clause-block : goal.zero_from-requires-clause-block
zero_from-requires-clause-block g c =
    let f = g.S.Storage.features c.args.storage.now in
    let lawful = g.met.S.Storage.lawful c.args.storage.now in
    let left : c.loop-done.done ≢ c.args.count = omega arith in
    let whole : c.loop-done.done % len_align f ≡ 0 = elim c.loop-done.invariant.whole [ inl w ↦ w | inr e ↦ absurd (left e) ] in
    let kind : (c.min-next.result % len_align f ≡ 0) ⊎ (c.min-next.result ≡ c.args.count - c.loop-done.done) = rw c.min-next.ensures (piece_kind (len_align f) c.args.piece (c.args.count - c.loop-done.done) c.requires.pieces.whole) in
    rw c.loop-done.invariant.features (elim c.requires.block [
      | inl all ↦ inl (piece_in_whole f c.args.offset c.args.count c.loop-done.done c.min-next.result lawful c.requires.pieces.start whole (omega arith) c.requires.pieces.ends kind all)
      | inr is_block ↦ inr (search rules)
    ])

pub returns-in_err-zero_from-clause-wraps : goal.returns-in_err-zero_from-clause-wraps
returns-in_err-zero_from-clause-wraps g c = λ wraps.
    let f = g.S.Storage.features c.args.storage.now in
    let p = err_from_is_err_and c.from_residual.result c.from_residual.ensures.1 in
    let lawful = g.met.S.Storage.lawful c.args.storage.now in
    let left : c.loop-done.done ≢ c.args.count = omega arith in
    let whole : c.loop-done.done % len_align f ≡ 0 = elim c.loop-done.invariant.whole [ inl w ↦ w | inr e ↦ absurd (left e) ] in
    piece_wraps f c.args.offset c.args.count c.loop-done.done c.min-next.result lawful c.requires.pieces.start whole (omega arith) c.requires.pieces.ends
    (rw c.min-next.ensures (piece_kind (len_align f) c.args.piece (c.args.count - c.loop-done.done) c.requires.pieces.whole))
    (rw c.loop-done.invariant.features at (c.zero_from.ensures.wraps.0 (same_refusal _ _ _ _ _ c.in_err-zero_from.was p.1 p.2 wraps)))

pub loop-done-preserved : goal.loop-done-preserved
loop-done-preserved g c =
    let f = g.S.Storage.features c.args.storage.now in
    let lawful = g.met.S.Storage.lawful c.args.storage.now in
    let left : c.loop-done.done ≢ c.args.count = omega arith in
    let in_pieces : c.loop-done.done % c.args.piece ≡ 0 = elim c.loop-done.invariant.pieces [ inl w ↦ w | inr e ↦ absurd (left e) ] in
    let whole : c.loop-done.done % len_align f ≡ 0 = elim c.loop-done.invariant.whole [ inl w ↦ w | inr e ↦ absurd (left e) ] in
    let more : 0 < c.min-next.result = omega arith in
    let kind : (c.min-next.result % len_align f ≡ 0) ⊎ (c.min-next.result ≡ c.args.count - c.loop-done.done) = rw c.min-next.ensures (piece_kind (len_align f) c.args.piece (c.args.count - c.loop-done.done) c.requires.pieces.whole) in
    let step = ZeroedPart_next f _ _ _ c.args.offset c.loop-done.done c.min-next.result _ more c.loop-done.invariant.zeroed (rw c.loop-done.invariant.features at c.zero_from.ensures.written) in
    record {
      counted = omega arith;
      whole = elim kind [ inl w ↦ inl (multiple_add _ _ _ whole w) | inr e ↦ inr (omega arith) ];
      features = c.in_ok-zero_from.ensures.features ∙ c.loop-done.invariant.features;
      zeroed = record { some = λ _. rw c.in_ok-zero_from.was at step; none = λ zero. absurd (omega arith) };
      fits = λ all. last_fits f c.args.offset c.args.count c.loop-done.done c.min-next.result lawful c.requires.pieces.start whole all more (λ w. not_refused _ _ _ c.in_ok-zero_from.was (c.zero_from.ensures.wraps.1 (rw c.loop-done.invariant.features w)));
      cause = CountsFaults_ok _ _ _ _ tt (CountsFaults_then _ _ _ _ _ _ _ (ap (λ x. x.is_reliable) c.loop-done.invariant.features) c.loop-done.invariant.cause c.zero_from.ensures.cause);
      work = edged_next (len_align f) c.args.piece c.args.count c.loop-done.done c.min-next.result (omega arith) c.min-next.ensures c.loop-done.invariant.work
          (write_loose f (c.args.offset + c.loop-done.done) c.min-next.result lawful (rw c.loop-done.invariant.features at c.zero_from.ensures.work))
          (λ rest. (rw c.loop-done.invariant.features at c.zero_from.ensures.direct) (piece_aligned f c.args.offset c.args.count c.loop-done.done c.min-next.result lawful c.requires.pieces.start whole (omega arith) c.requires.pieces.ends kind rest));
      pieces = next_pieces c.args.piece c.args.count c.loop-done.done c.min-next.result c.requires.pieces.positive in_pieces (omega arith) c.min-next.ensures;
      made = rw (next_range c.args.piece c.args.offset c.loop-done.done c.min-next.result c.requires.pieces.positive in_pieces more (omega (arith, c.min-next.ensures))) (both_made (IsZeroesWritten g.S.Storage.features g.S.Storage.bytes g.S.Storage.maintenance) _ _ _ _ _ _ _ _ c.loop-done.invariant.made refl (one_made (IsZeroesWritten g.S.Storage.features g.S.Storage.bytes g.S.Storage.maintenance) (c.args.offset + c.loop-done.done) c.min-next.result (rw c.in_ok-zero_from.was at c.zero_from.ensures.performed)));
    }

pub returns-in_err-zero_from-clause-work : goal.returns-in_err-zero_from-clause-work
returns-in_err-zero_from-clause-work g c =
    let f = g.S.Storage.features c.args.storage.now in
    let lawful = g.met.S.Storage.lawful c.args.storage.now in
    let left : c.loop-done.done ≢ c.args.count = omega arith in
    let whole : c.loop-done.done % len_align f ≡ 0 = elim c.loop-done.invariant.whole [ inl w ↦ w | inr e ↦ absurd (left e) ] in
    let kind : (c.min-next.result % len_align f ≡ 0) ⊎ (c.min-next.result ≡ c.args.count - c.loop-done.done) = rw c.min-next.ensures (piece_kind (len_align f) c.args.piece (c.args.count - c.loop-done.done) c.requires.pieces.whole) in
    edged_within (len_align f) c.args.piece c.args.count (c.loop-done.done + c.min-next.result) (omega arith)
    (edged_next (len_align f) c.args.piece c.args.count c.loop-done.done c.min-next.result (omega arith) c.min-next.ensures c.loop-done.invariant.work
    (write_loose f (c.args.offset + c.loop-done.done) c.min-next.result lawful (rw c.loop-done.invariant.features at c.zero_from.ensures.work))
    (λ rest. (rw c.loop-done.invariant.features at c.zero_from.ensures.direct) (piece_aligned f c.args.offset c.args.count c.loop-done.done c.min-next.result lawful c.requires.pieces.start whole (omega arith) c.requires.pieces.ends kind rest)))

pub loop-done-init : goal.loop-done-init
loop-done-init g c =
    record {
      counted = omega arith;
      whole = search rules;
      features = refl;
      zeroed = search rules;
      fits = search rules;
      cause = search rules;
      work = edged_none _ _ _ _ c.requires.pieces.positive;
      pieces = inl (mod-eq_of_lt c.requires.pieces.positive);
      made = rw (pieces_none c.args.piece c.args.offset 0 c.requires.pieces.positive refl) (refl, refl);
    }

pub returns-clause-work : goal.returns-clause-work
returns-clause-work g c = edged_within _ _ _ _ c.loop-done.invariant.counted c.loop-done.invariant.work

pub returns-in_err-zero_from-clause-memory : goal.returns-in_err-zero_from-clause-memory
returns-in_err-zero_from-clause-memory g c = λ m.
    let f = g.S.Storage.features c.args.storage.now in
    let p = err_from_is_err_and c.from_residual.result c.from_residual.ensures.1 in
    let longer = ZeroedPart_longer f _ _ _ _ _ c.loop-done.invariant.zeroed in
    let end : c.args.offset + c.loop-done.done + c.min-next.result + (len_align f - 1) ≤ c.args.offset + c.args.count + (len_align f - 1) = omega arith in
    RequestMayRunOut_more f f _ _ _ _ refl longer end (rw c.loop-done.invariant.features at (c.zero_from.ensures.memory (same_refusal _ _ _ _ _ c.in_err-zero_from.was p.1 p.2 m)))

pub returns-in_err-zero_from-clause-cause : goal.returns-in_err-zero_from-clause-cause
returns-in_err-zero_from-clause-cause g c =
    let same = passed_on _ _ _ c.in_err-zero_from.was c.from_residual.ensures.1 in
    rw same (CountsFaults_then _ _ _ _ _ _ _ (ap (λ f. f.is_reliable) c.loop-done.invariant.features) c.loop-done.invariant.cause c.zero_from.ensures.cause)

pub returns-in_err-zero_from-clause-performed : goal.returns-in_err-zero_from-clause-performed
returns-in_err-zero_from-clause-performed g c =
    let piece = c.args.piece in
    let done = c.loop-done.done in
    let left : done ≢ c.args.count = omega arith in
    let whole : done % piece ≡ 0 = elim c.loop-done.invariant.pieces [ inl w ↦ w | inr e ↦ absurd (left e) ] in
    let more : 0 < c.args.count - done = omega arith in
    let split = pieces_split piece c.args.offset done c.args.count c.requires.pieces.positive (inl whole) c.loop-done.invariant.counted in
    let begins = left_begins piece (c.args.offset + done) (c.args.count - done) c.min-next.result c.requires.pieces.positive more c.min-next.ensures in
    rw (split, begins) (both_made (IsZeroesWritten g.S.Storage.features g.S.Storage.bytes g.S.Storage.maintenance) _ _ _ _ _ _ _ _ c.loop-done.invariant.made refl (one_refused (IsZeroesWritten g.S.Storage.features g.S.Storage.bytes g.S.Storage.maintenance) _ _ _ c.zero_from.ensures.performed c.in_err-zero_from.was (passed_on _ _ _ c.in_err-zero_from.was c.from_residual.ensures.1)))

pub returns-clause-written : goal.returns-clause-written
returns-clause-written g c =
    let all : c.loop-done.done ≡ c.args.count = omega (arith, c.loop-done.invariant.counted, c.loop-done-test.false) in
    rw all at (c.loop-done.invariant.zeroed.some (omega (arith, all, c.requires.pieces.some)))

pub returns-clause-performed : goal.returns-clause-performed
returns-clause-performed g c =
    let all : c.loop-done.done ≡ c.args.count = omega (arith, c.loop-done.invariant.counted, c.loop-done-test.false) in
    rw all at c.loop-done.invariant.made
