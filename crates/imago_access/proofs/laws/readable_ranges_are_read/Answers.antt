-- SPDX-License-Identifier: MIT
use Rattle.imago_access.proofs.Successes.{readable_is_read}
use Rattle.imago_access.proofs.laws.readable_ranges_are_read.Goals as goal

pub returns : goal.returns
returns g c = readable_is_read g.D.FormatDriverInstance.view g.met.D.FormatDriverInstance.lawful g.met.D.FormatDriverInstance.causes_lawful
