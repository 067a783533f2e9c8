-- SPDX-License-Identifier: MIT
use Rattle.imago_access.proofs.Successes.{mapping_succeeds}
use Rattle.imago_access.proofs.laws.mappings_succeed.Goals as goal

pub returns : goal.returns
returns g c = mapping_succeeds g.D.FormatDriverInstance.view
