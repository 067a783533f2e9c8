-- SPDX-License-Identifier: MIT
use Rattle.imago_access.proofs.Successes.{growth_succeeds}
use Rattle.imago_access.proofs.laws.growths_succeed.Goals as goal

pub returns : goal.returns
returns g c = growth_succeeds g.D.FormatDriverInstance.view
