-- SPDX-License-Identifier: MIT
use Rattle.imago_access.proofs.Successes.{write_succeeds}
use Rattle.imago_access.proofs.laws.writes_succeed.Goals as goal

pub returns : goal.returns
returns g c = write_succeeds g.D.FormatDriverInstance.view
