-- SPDX-License-Identifier: MIT
use Rattle.imago_drivers.proofs.Room.{not_offered_alone}
use Rattle.imago_drivers.proofs.laws.raw_images_refuse_nothing.Goals as goal

pub returns : goal.returns
returns g c = not_offered_alone _ (g.met.S.Storage.lawful _) _
