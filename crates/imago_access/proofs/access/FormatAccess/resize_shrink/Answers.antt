-- SPDX-License-Identifier: MIT
use Rattle.std.proofs.Common.{arith}
use Rattle.std.proofs.lemmas.Result.{err_from_is_err_and}
use Rattle.imago_drivers.specs.Operation.{Shrink}
use Rattle.imago_access.proofs.SizeSteps.{shrink_image, cut_by, idle_cut, read_only_resize}
use Rattle.imago_access.proofs.Flat.{cut_listed}
use Rattle.imago_access.proofs.access.FormatAccess.resize_shrink.Goals as goal

pub returns-clause-resized : goal.returns-clause-resized
returns-clause-resized g c =
    let r = c.resize_shrink in
    let v = g.D.FormatDriverInstance.view in
    shrink_image v c.args.self.now r.new.self c.args.new_size r.result c.in_ok-test_writable.ensures.passed r.ensures.call.cut (λ le. omega (arith, le, c.if-size-new_size.false)) r.ensures.call.unchanged r.ensures.call.kind r.ensures.call.no_longer r.ensures.call.faults r.ensures.call.refusals

pub returns-in_err-test_writable-clause-resized : goal.returns-in_err-test_writable-clause-resized
returns-in_err-test_writable-clause-resized g c =
    let p = err_from_is_err_and c.from_residual.result c.from_residual.ensures.1 in
    rw (p.1, p.2) (read_only_resize g.D.FormatDriverInstance.view c.args.self.now Shrink c.args.new_size _ c.in_err-test_writable.field-0.0 c.in_err-test_writable.ensures.failed)

pub returns-clause-performed : goal.returns-clause-performed
returns-clause-performed g c = cut_by g.D.FormatDriverInstance.view g.D.FormatDriverInstance.calls c.args.self.now c.resize_shrink.new.self c.args.new_size c.resize_shrink.result c.resize_shrink.ensures.performed

pub returns-then-size-new_size-clause-resized : goal.returns-then-size-new_size-clause-resized
returns-then-size-new_size-clause-resized g c = idle_cut g.D.FormatDriverInstance.view c.args.self.now c.args.new_size c.in_ok-test_writable.ensures.passed (omega (arith, c.if-size-new_size.true))

pub returns-clause-disk : goal.returns-clause-disk
returns-clause-disk g c = λ keeps. cut_listed g.D.FormatDriverInstance.view g.met.D.FormatDriverInstance.lawful g.met.D.FormatDriverInstance.causes_lawful _ _ _ _ keeps (returns-clause-resized g c)

pub returns-in_err-test_writable-clause-disk : goal.returns-in_err-test_writable-clause-disk
returns-in_err-test_writable-clause-disk g c = λ keeps. cut_listed g.D.FormatDriverInstance.view g.met.D.FormatDriverInstance.lawful g.met.D.FormatDriverInstance.causes_lawful _ _ _ _ keeps (returns-in_err-test_writable-clause-resized g c)

pub returns-then-size-new_size-clause-disk : goal.returns-then-size-new_size-clause-disk
returns-then-size-new_size-clause-disk g c = λ keeps. cut_listed g.D.FormatDriverInstance.view g.met.D.FormatDriverInstance.lawful g.met.D.FormatDriverInstance.causes_lawful _ _ _ _ keeps (returns-then-size-new_size-clause-resized g c)
