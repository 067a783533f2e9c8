-- SPDX-License-Identifier: MIT
use Rattle.imago_access.proofs.Successes.{zero_write_succeeds}
use Rattle.imago_access.proofs.laws.zero_writes_succeed.Goals as goal

pub returns : goal.returns
returns g c = zero_write_succeeds g.D.FormatDriverInstance.view
