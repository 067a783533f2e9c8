-- SPDX-License-Identifier: MIT
use Rattle.imago_access.proofs.Flat.{backing_listed}
use Rattle.imago_access.proofs.access.FormatAccess.discard_to_backing.Goals as goal

pub returns-clause-discarded : goal.returns-clause-discarded
returns-clause-discarded g c = c.discard.ensures

pub returns-clause-disk : goal.returns-clause-disk
returns-clause-disk g c = λ keeps. backing_listed g.D.FormatDriverInstance.view g.met.D.FormatDriverInstance.lawful g.met.D.FormatDriverInstance.causes_lawful g.D.FormatDriverInstance.calls _ _ _ _ _ keeps c.discard.ensures
