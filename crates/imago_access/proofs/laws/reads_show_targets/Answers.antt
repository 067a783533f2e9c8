-- SPDX-License-Identifier: MIT
use Rattle.imago_access.proofs.Targets.{target_shows}
use Rattle.imago_access.proofs.laws.reads_show_targets.Goals as goal

pub returns : goal.returns
returns g c = target_shows g.D.FormatDriverInstance.view
