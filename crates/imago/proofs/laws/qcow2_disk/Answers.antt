-- SPDX-License-Identifier: MIT
use Rattle.std.proofs.Common.{ap}
use Rattle.imago_drivers.specs.Place.{shown}
use Rattle.imago_qcow2.proofs.ToldSteps.{places_told}
use Rattle.imago.proofs.Qcow2Chains.{chain_says}
use Rattle.imago.proofs.laws.qcow2_disk.Goals as goal

pub returns : goal.returns
returns g c = chain_says _ _
    (λ d told below p. ap (shown below) (places_told (g.S.Storage.features d.storage) (g.S.Storage.bytes d.storage) told d.header d.tables d.cluster.length d.cluster_is d.loaded d.cluster.shortest d.covers p))
    c.args.image.now
