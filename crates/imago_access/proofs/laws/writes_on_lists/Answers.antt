-- SPDX-License-Identifier: MIT
use Rattle.imago_access.proofs.Flat.{same_write}
use Rattle.imago_access.proofs.laws.writes_on_lists.Goals as goal

pub returns : goal.returns
returns g c = same_write g.D.FormatDriverInstance.view g.met.D.FormatDriverInstance.lawful g.met.D.FormatDriverInstance.causes_lawful
