-- SPDX-License-Identifier: MIT
use Rattle.std.proofs.lemmas.Result.{err_from_is_err_and}
use Rattle.imago_access.specs.Chain.{driver}
use Rattle.imago_access.proofs.PartSteps.{discard_call, failed_discard, is_loose, never_overflows, same_tests}
use Rattle.imago_access.proofs.access.FormatAccess.discard.Goals as goal

pub returns : goal.returns
returns g c =
    let t = c.in_ok-test_end.ensures.passed in
    let e = c.discard_range.ensures in
    discard_call g.D.FormatDriverInstance.view g.D.FormatDriverInstance.calls c.args.call c.args.self.now c.discard_range.new.self c.args.offset c.args.count c.discard_range.result t.0 t.1 (never_overflows c.args.call c.args.offset c.args.count t.2) (is_loose c.args.call) e.empty e.loosened e.performed

pub returns-in_err-test_end : goal.returns-in_err-test_end
returns-in_err-test_end g c =
    let p = err_from_is_err_and c.from_residual.result c.from_residual.ensures.1 in
    rw (p.1, p.2) (failed_discard g.D.FormatDriverInstance.view g.D.FormatDriverInstance.calls c.args.call c.args.self.now c.args.offset c.args.count c.in_err-test_end.field-0.0 (same_tests (g.D.FormatDriverInstance.view (driver c.args.self.now)) c.args.call c.args.offset c.args.count c.in_err-test_end.field-0.0 c.in_err-test_end.ensures.failed) c.requires)
