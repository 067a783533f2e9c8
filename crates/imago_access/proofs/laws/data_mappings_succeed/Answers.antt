-- SPDX-License-Identifier: MIT
use Rattle.imago_access.proofs.Successes.{counts_faults, mapped_succeeds}
use Rattle.imago_access.proofs.laws.data_mappings_succeed.Goals as goal

pub returns : goal.returns
returns g c = λ old new o n overwrite result ready h. mapped_succeeds g.D.FormatDriverInstance.view old new o n result ready (counts_faults _ _ _ result h.faults) h.refusals
