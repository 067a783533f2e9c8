-- SPDX-License-Identifier: MIT
use Rattle.std.proofs.Common.{refl}
use Rattle.imago_qcow2.proofs.ClusterSteps.{size_exponent}
use Rattle.imago_qcow2.proofs.cluster.ClusterSize.of_length.Goals as goal

pub invariant_of-result : goal.invariant_of-result
invariant_of-result c =
    let e = size_exponent c.args.size c.requires c.ranges.size.fits in
    record { power = e.power; least = e.least; most = e.most; shortest = e.shortest; longest = e.longest; is_bits = refl }
