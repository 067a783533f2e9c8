-- SPDX-License-Identifier: MIT
use Rattle.imago_qcow2_check.proofs.VerdictSteps.{verdict_is}
use Rattle.imago_qcow2_check.proofs.check.check.Goals as goal

pub returns-clause-verdict : goal.returns-clause-verdict
returns-clause-verdict g c = λ told.
    let r = c.in_ok-report.report in
    verdict_is (g.S.Storage.bytes c.args.storage.now) r.corruptions r.leaks (c.in_ok-report.ensures.corruptions told) (c.in_ok-report.ensures.leaks told)
