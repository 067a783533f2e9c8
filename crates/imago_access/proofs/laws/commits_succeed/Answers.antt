-- SPDX-License-Identifier: MIT
use Rattle.imago_drivers.specs.Commit.{commit_reasons}
use Rattle.imago_access.specs.Chain.{driver}
use Rattle.imago_access.proofs.Successes.{driver_succeeds}
use Rattle.imago_access.proofs.laws.commits_succeed.Goals as goal

pub returns : goal.returns
returns g c = λ old new m result ready h.
    let v = g.D.FormatDriverInstance.view (driver old) in
    driver_succeeds v (g.D.FormatDriverInstance.view (driver new)).fault_count (commit_reasons v m) result ready.device (λ z. z) (λ z. z) (λ z. z) (λ e z. ready.own (h.foreign.0 e)) ready.no_cause (λ k none. none k) h.faults h.refusals
