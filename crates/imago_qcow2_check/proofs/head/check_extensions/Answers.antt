-- SPDX-License-Identifier: MIT
use Rattle.std.proofs.Common.{◌+◌, sym, ap, ◌∙◌, arith}
use Rattle.imago_qcow2_check.proofs.KnownSteps.{known_past, known_end, known_goes_on, last_past, last_end, last_goes_on}
use Rattle.imago_qcow2_check.proofs.head.check_extensions.Goals as goal

pub returns-then-kind-eq0-clause-known : goal.returns-then-kind-eq0-clause-known
returns-then-kind-eq0-clause-known g c = λ told.
    let B = g.S.Storage.bytes c.args.storage.now in
    let x = c.in_ok-kind in
    sym (c.loop-at.invariant.known told) ∙ known_end B c.args.end c.loop-at.at x.kind x.count (x.ensures.kind told) (x.ensures.count told) c.loop-at-test.true c.if-kind-eq0.true

pub returns-then-kind-eq0-clause-bitmaps : goal.returns-then-kind-eq0-clause-bitmaps
returns-then-kind-eq0-clause-bitmaps g c = λ told.
    let B = g.S.Storage.bytes c.args.storage.now in
    let x = c.in_ok-kind in
    sym (last_end B c.args.end c.loop-at.bitmaps c.loop-at.at x.kind x.count (x.ensures.kind told) (x.ensures.count told) c.loop-at-test.true c.if-kind-eq0.true) ∙ c.loop-at.invariant.bitmaps told

pub loop-at-preserved : goal.loop-at-preserved
loop-at-preserved g c =
    let B = g.S.Storage.bytes c.args.storage.now in
    let x = c.in_ok-kind in
    let next = ap (λ y. c.loop-at.at + (8 + y)) c.next_multiple_of.ensures.value in
    record {
      known = λ told. known_goes_on B c.args.end c.loop-at.at x.kind x.count (x.ensures.kind told) (x.ensures.count told) c.loop-at-test.true (c.loop-at.at + (8 + c.next_multiple_of.result)) next
          (omega (arith, c.if-end-at.false)) c.if-kind-eq0.false (sym c.is_known.ensures ∙ c.if-not-is_known.false) ∙ c.loop-at.invariant.known told;
      bitmaps = λ told. last_goes_on B c.args.end c.loop-at.bitmaps c.loop-at.at x.kind x.count (x.ensures.kind told) (x.ensures.count told) c.loop-at-test.true (c.loop-at.at + (8 + c.next_multiple_of.result)) c.bitmaps_by-bitmaps.result next
          c.bitmaps_by-bitmaps.ensures c.if-kind-eq0.false ∙ c.loop-at.invariant.bitmaps told;
    }

pub returns-clause-known : goal.returns-clause-known
returns-clause-known g c = λ told. sym (c.loop-at.invariant.known told) ∙ known_past (g.S.Storage.bytes c.args.storage.now) c.args.end c.loop-at.at (omega (arith, c.loop-at-test.false))

pub returns-clause-bitmaps : goal.returns-clause-bitmaps
returns-clause-bitmaps g c = λ told. sym (last_past (g.S.Storage.bytes c.args.storage.now) c.args.end c.loop-at.bitmaps c.loop-at.at (omega (arith, c.loop-at-test.false))) ∙ c.loop-at.invariant.bitmaps told
