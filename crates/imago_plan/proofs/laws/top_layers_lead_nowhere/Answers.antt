-- SPDX-License-Identifier: MIT
use Rattle.imago_plan.proofs.Layers.{top_target}
use Rattle.imago_plan.proofs.laws.top_layers_lead_nowhere.Goals as goal

pub returns : goal.returns
returns g c = top_target g.D.FormatDriverInstance.view g.met.D.FormatDriverInstance.lawful
