-- SPDX-License-Identifier: MIT
use Rattle.std.proofs.Common.{arith, length, refl, ◌≡◌, Ok, Err}
use Rattle.std.proofs.lemmas.Result.{err_from_is_err_and}
use Rattle.imago_drivers.specs.LayerBelow.{lent}
use Rattle.imago_access.specs.Performed.{rest_by}
use Rattle.imago_access.proofs.MadeSteps.{made_none, made_more, made_refused, made_all, rest_made}
use Rattle.imago_access.proofs.Writes.{nothing_written, wrote_next, refused_next, all_written}
use Rattle.imago_access.proofs.write.write_all.Goals as goal

pub loop-done-init : goal.loop-done-init
loop-done-init g c = (nothing_written g.D.FormatDriverInstance.view (lent g.B.LowerLayer.as_layer_below c.args.below) c.args.inner.now c.args.offset c.args.source.now (g.met.D.FormatDriverInstance.causes_lawful c.args.inner.now) c.requires.takes.spent, (λ z. refl), made_none (rest_by g.D.FormatDriverInstance.calls (lent g.B.LowerLayer.as_layer_below c.args.below) c.args.offset c.args.source.now) (length c.args.source.now) c.args.inner.now)

pub loop-done-preserved : goal.loop-done-preserved
loop-done-preserved g c = (
  wrote_next g.D.FormatDriverInstance.view (lent g.B.LowerLayer.as_layer_below c.args.below) c.args.inner.now c.args.offset c.args.source.now c.loop-done.inner c.write_first.new.inner c.loop-done.done c.loop-done.invariant.0 c.in_ok-done.field-0 c.in_ok-done.ensures.written,
  (λ z. absurd (omega (arith, c.in_ok-done.ensures.written.some.0, z))),
  made_more (rest_by g.D.FormatDriverInstance.calls (lent g.B.LowerLayer.as_layer_below c.args.below) c.args.offset c.args.source.now) (length c.args.source.now) c.args.inner.now c.loop-done.inner c.write_first.new.inner c.loop-done.done c.loop-done.invariant.2 c.in_ok-done.field-0 c.loop-done-test.true c.in_ok-done.ensures.written.some.0
      (rest_made g.D.FormatDriverInstance.calls (lent g.B.LowerLayer.as_layer_below c.args.below) c.args.offset c.loop-done.done c.args.source.now c.loop-done.inner c.write_first.new.inner (Ok c.in_ok-done.field-0) c.in_ok-done.ensures.performed),
)

pub returns-in_err-done-clause-empty : goal.returns-in_err-done-clause-empty
returns-in_err-done-clause-empty g c = λ none. absurd (omega (arith, c.loop-done-test.true, none))

pub returns-in_err-done-clause-written : goal.returns-in_err-done-clause-written
returns-in_err-done-clause-written g c =
    let p = err_from_is_err_and c.from_residual.result c.from_residual.ensures.1 in
    rw (p.1, p.2) (refused_next g.D.FormatDriverInstance.view (lent g.B.LowerLayer.as_layer_below c.args.below) c.args.inner.now c.args.offset c.args.source.now c.loop-done.inner c.write_first.new.inner c.loop-done.done c.loop-done.invariant.0 c.in_err-done.field-0.0 c.loop-done-test.true c.in_err-done.ensures.written)

pub returns-clause-empty : goal.returns-clause-empty
returns-clause-empty g c = λ none. (refl, c.loop-done.invariant.1 (omega (arith, c.loop-done.invariant.0.within, none)))

pub returns-clause-written : goal.returns-clause-written
returns-clause-written g c =
    let e : c.loop-done.done ≡ length c.args.source.now = omega (arith, c.loop-done.invariant.0.within) in
    all_written g.D.FormatDriverInstance.view (lent g.B.LowerLayer.as_layer_below c.args.below) c.args.inner.now c.args.offset c.args.source.now c.loop-done.inner c.loop-done.done e c.loop-done.invariant.0

pub overflow_add-offset : goal.overflow_add-offset
overflow_add-offset g c = omega (arith, c.loop-done.invariant.0.within)

pub returns-in_err-done-clause-performed : goal.returns-in_err-done-clause-performed
returns-in_err-done-clause-performed g c =
    let p = err_from_is_err_and c.from_residual.result c.from_residual.ensures.1 in
    let w = g.D.FormatDriverInstance.calls in
    let l = lent g.B.LowerLayer.as_layer_below c.args.below in
    rw (p.1, p.2) (made_refused (rest_by w l c.args.offset c.args.source.now) (length c.args.source.now) c.args.inner.now c.loop-done.inner c.write_first.new.inner c.loop-done.done c.loop-done.invariant.2 c.in_err-done.field-0.0 c.loop-done-test.true
    (rest_made w l c.args.offset c.loop-done.done c.args.source.now c.loop-done.inner c.write_first.new.inner (Err c.in_err-done.field-0.0) c.in_err-done.ensures.performed))

pub returns-clause-performed : goal.returns-clause-performed
returns-clause-performed g c = made_all (rest_by g.D.FormatDriverInstance.calls (lent g.B.LowerLayer.as_layer_below c.args.below) c.args.offset c.args.source.now) (length c.args.source.now) c.args.inner.now c.loop-done.inner c.loop-done.done c.loop-done.invariant.2 (omega (arith, c.loop-done-test.false))
