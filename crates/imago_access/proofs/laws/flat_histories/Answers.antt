-- SPDX-License-Identifier: MIT
use Rattle.imago_access.proofs.Flat.{flat_history}
use Rattle.imago_access.proofs.laws.flat_histories.Goals as goal

pub returns : goal.returns
returns g c = flat_history g.D.FormatDriverInstance.view g.met.D.FormatDriverInstance.lawful g.met.D.FormatDriverInstance.causes_lawful g.D.FormatDriverInstance.calls
