-- SPDX-License-Identifier: MIT
use Rattle.imago_access.proofs.Successes.{discard_succeeds}
use Rattle.imago_access.proofs.laws.discards_succeed.Goals as goal

pub returns : goal.returns
returns g c = discard_succeeds g.D.FormatDriverInstance.view g.D.FormatDriverInstance.calls
