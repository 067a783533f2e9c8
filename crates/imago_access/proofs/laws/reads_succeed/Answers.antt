-- SPDX-License-Identifier: MIT
use Rattle.imago_access.proofs.Successes.{read_succeeds}
use Rattle.imago_access.proofs.laws.reads_succeed.Goals as goal

pub returns : goal.returns
returns g c = read_succeeds g.D.FormatDriverInstance.view
