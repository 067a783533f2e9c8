-- SPDX-License-Identifier: MIT
use Rattle.imago_access.proofs.Determined.{flat_run}
use Rattle.imago_access.proofs.laws.flat_runs.Goals as goal

pub returns : goal.returns
returns g = flat_run
