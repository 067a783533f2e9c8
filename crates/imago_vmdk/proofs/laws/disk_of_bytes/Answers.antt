-- SPDX-License-Identifier: MIT
use Rattle.std.proofs.Common.{ap, ◌∙◌}
use Rattle.imago_drivers.specs.Place.{shown}
use Rattle.imago_vmdk.proofs.Disk.{read_alone}
use Rattle.imago_vmdk.proofs.laws.disk_of_bytes.Goals as goal

pub returns : goal.returns
returns g c = λ told below p. ap (shown below) (c.places_of_bytes.ensures told p) ∙ read_alone below _ _ p
