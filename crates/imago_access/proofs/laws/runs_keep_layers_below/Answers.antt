-- SPDX-License-Identifier: MIT
use Rattle.imago_access.proofs.Flat.{run_kept}
use Rattle.imago_access.proofs.laws.runs_keep_layers_below.Goals as goal

pub returns : goal.returns
returns g c = run_kept g.D.FormatDriverInstance.view g.D.FormatDriverInstance.calls
