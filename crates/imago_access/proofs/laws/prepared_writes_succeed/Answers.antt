-- SPDX-License-Identifier: MIT
use Rattle.imago_drivers.specs.Done.{mapping_write_reasons}
use Rattle.imago_access.specs.Chain.{driver}
use Rattle.imago_access.proofs.Successes.{driver_succeeds}
use Rattle.imago_access.proofs.laws.prepared_writes_succeed.Goals as goal

pub returns : goal.returns
returns g c = λ old new m at n result ready foreign faults refusals.
    let v = g.D.FormatDriverInstance.view (driver old) in
    driver_succeeds v (g.D.FormatDriverInstance.view (driver new)).fault_count (mapping_write_reasons v m at n) result ready.device (λ z. z) (λ z. z) (λ z. z) (λ e z. ready.own (foreign.0 e)) ready.no_cause (λ k none. k none.0 none.1 none.2) faults refusals
