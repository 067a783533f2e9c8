-- SPDX-License-Identifier: MIT
use Rattle.imago_access.proofs.Successes.{cut_succeeds}
use Rattle.imago_access.proofs.laws.cuts_succeed.Goals as goal

pub returns : goal.returns
returns g c = cut_succeeds g.D.FormatDriverInstance.view
