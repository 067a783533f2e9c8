-- SPDX-License-Identifier: MIT
use Rattle.std.proofs.Common.{arith}
use Rattle.std.proofs.lemmas.Result.{err_from_is_err_and}
use Rattle.imago_drivers.specs.Operation.{Grow}
use Rattle.imago_access.specs.Chain.{backing}
use Rattle.imago_access.proofs.Images.{lent_is}
use Rattle.imago_access.proofs.SizeSteps.{grow_image, grown_by, idle_growth, read_only_resize}
use Rattle.imago_access.proofs.Flat.{growth_listed}
use Rattle.imago_access.proofs.access.FormatAccess.resize_grow.Goals as goal

pub returns-clause-resized : goal.returns-clause-resized
returns-clause-resized g c =
    let r = c.resize_grow in
    let v = g.D.FormatDriverInstance.view in
    let x = c.args.self.now in
    grow_image v x r.new.self _ (lent_is v c.below-lower.result (backing x) c.below-lower.ensures) c.args.mode c.args.new_size r.result c.in_ok-test_writable.ensures.passed r.ensures.call.grown (λ le. omega (arith, le, c.if-new_size-size.false)) r.ensures.call.unchanged r.ensures.call.kind r.ensures.call.no_longer r.ensures.call.faults r.ensures.call.refusals

pub returns-in_err-test_writable-clause-resized : goal.returns-in_err-test_writable-clause-resized
returns-in_err-test_writable-clause-resized g c =
    let p = err_from_is_err_and c.from_residual.result c.from_residual.ensures.1 in
    rw (p.1, p.2) (read_only_resize g.D.FormatDriverInstance.view c.args.self.now (Grow c.args.mode) c.args.new_size _ c.in_err-test_writable.field-0.0 c.in_err-test_writable.ensures.failed)

pub returns-clause-performed : goal.returns-clause-performed
returns-clause-performed g c =
    let r = c.resize_grow in
    let v = g.D.FormatDriverInstance.view in
    let x = c.args.self.now in
    grown_by v g.D.FormatDriverInstance.calls x r.new.self _ (lent_is v c.below-lower.result (backing x) c.below-lower.ensures) c.args.new_size c.args.mode r.result r.ensures.performed

pub returns-then-new_size-size-clause-resized : goal.returns-then-new_size-size-clause-resized
returns-then-new_size-size-clause-resized g c = idle_growth g.D.FormatDriverInstance.view c.args.self.now c.args.mode c.args.new_size c.in_ok-test_writable.ensures.passed (omega (arith, c.if-new_size-size.true))

pub returns-clause-disk : goal.returns-clause-disk
returns-clause-disk g c = λ keeps. growth_listed g.D.FormatDriverInstance.view g.met.D.FormatDriverInstance.lawful g.met.D.FormatDriverInstance.causes_lawful _ _ _ _ _ keeps (returns-clause-resized g c)

pub returns-in_err-test_writable-clause-disk : goal.returns-in_err-test_writable-clause-disk
returns-in_err-test_writable-clause-disk g c = λ keeps. growth_listed g.D.FormatDriverInstance.view g.met.D.FormatDriverInstance.lawful g.met.D.FormatDriverInstance.causes_lawful _ _ _ _ _ keeps (returns-in_err-test_writable-clause-resized g c)

pub returns-then-new_size-size-clause-disk : goal.returns-then-new_size-size-clause-disk
returns-then-new_size-size-clause-disk g c = λ keeps. growth_listed g.D.FormatDriverInstance.view g.met.D.FormatDriverInstance.lawful g.met.D.FormatDriverInstance.causes_lawful _ _ _ _ _ keeps (returns-then-new_size-size-clause-resized g c)
