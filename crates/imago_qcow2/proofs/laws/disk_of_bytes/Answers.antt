-- SPDX-License-Identifier: MIT
use Rattle.std.proofs.Common.{ap}
use Rattle.imago_drivers.specs.Place.{shown}
use Rattle.imago_qcow2.proofs.ToldSteps.{places_told}
use Rattle.imago_qcow2.proofs.laws.disk_of_bytes.Goals as goal

pub returns : goal.returns
returns g c = λ told below p.
    let s = c.args.image.now in
    ap (shown below) (places_told (g.S.Storage.features s.storage) (g.S.Storage.bytes s.storage) told s.header s.tables s.cluster.length s.cluster_is s.loaded s.cluster.shortest s.covers p)
