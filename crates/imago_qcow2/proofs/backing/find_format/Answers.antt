-- SPDX-License-Identifier: MIT
use Rattle.std.proofs.Common.{◌+◌, inl, inr, refl, sym, ap, ◌∙◌, arith}
use Rattle.std.proofs.lemmas.Result.{err_from_is_err_and}
use Rattle.imago_qcow2.proofs.BackingSteps.{too_long, none_left, goes_on, none_past, name_inside, inside_refused}
use Rattle.imago_qcow2.proofs.backing.find_format.Goals as goal

pub returns-in_err-kind-clause-refusals : goal.returns-in_err-kind-clause-refusals
returns-in_err-kind-clause-refusals g c =
    let p = err_from_is_err_and c.from_residual.result c.from_residual.ensures.1 in
    rw (p.1, p.2) (inr (inside_refused (g.S.Storage.features c.args.storage.now) c.loop-at.at 8 c.args.end c.in_err-kind.field-0.0 (omega (arith, c.loop-at-test.true)) c.in_err-kind.ensures.refusals))

pub returns-then-end-at-clause-refusals : goal.returns-then-end-at-clause-refusals
returns-then-end-at-clause-refusals g c =
    let B = g.S.Storage.bytes c.args.storage.now in
    let x = c.in_ok-kind in
    inl (refl, λ told. sym (c.loop-at.invariant.last told) ∙ too_long B c.args.end c.loop-at.found c.loop-at.at x.kind x.count (x.ensures.kind told) (x.ensures.count told) c.loop-at-test.true (omega (arith, c.if-end-at.true)))

pub returns-then-kind-eq0-clause-found : goal.returns-then-kind-eq0-clause-found
returns-then-kind-eq0-clause-found g c = λ told.
    let B = g.S.Storage.bytes c.args.storage.now in
    let x = c.in_ok-kind in
    sym (c.loop-at.invariant.last told) ∙ none_left B c.args.end c.loop-at.found c.loop-at.at x.kind x.count (x.ensures.kind told) (x.ensures.count told) c.loop-at-test.true (omega (arith, c.if-end-at.false)) c.if-kind-eq0.true

pub loop-at-preserved : goal.loop-at-preserved
loop-at-preserved g c =
    let B = g.S.Storage.bytes c.args.storage.now in
    let x = c.in_ok-kind in
    record {
      last = λ told. goes_on B c.args.end c.loop-at.found c.loop-at.at x.kind x.count (x.ensures.kind told) (x.ensures.count told) c.loop-at-test.true c.name_by-found.result (c.loop-at.at + (8 + c.next_multiple_of.result)) c.name_by-found.ensures
          (ap (λ y. c.loop-at.at + (8 + y)) c.next_multiple_of.ensures.value) (omega (arith, c.if-end-at.false)) c.if-kind-eq0.false ∙ c.loop-at.invariant.last told;
      inside = rw c.name_by-found.ensures (name_inside c.loop-at.found c.loop-at.at x.kind x.count c.args.end c.loop-at-test.true (omega (arith, c.if-end-at.false)) c.loop-at.invariant.inside);
    }

pub returns-clause-found : goal.returns-clause-found
returns-clause-found g c = λ told. sym (c.loop-at.invariant.last told) ∙ none_past (g.S.Storage.bytes c.args.storage.now) c.args.end c.loop-at.found c.loop-at.at (omega (arith, c.loop-at-test.false))
