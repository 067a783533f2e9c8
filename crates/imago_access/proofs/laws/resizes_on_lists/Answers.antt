-- SPDX-License-Identifier: MIT
use Rattle.imago_access.proofs.Resizes.{same_resize}
use Rattle.imago_access.proofs.laws.resizes_on_lists.Goals as goal

pub returns : goal.returns
returns g c = same_resize g.D.FormatDriverInstance.view g.met.D.FormatDriverInstance.lawful g.met.D.FormatDriverInstance.causes_lawful
