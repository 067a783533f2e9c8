-- SPDX-License-Identifier: MIT
use Rattle.std.proofs.Common.{rules, refl, arith}
use Rattle.imago_qcow2.proofs.ClusterSteps.{size_exponent}
use Rattle.imago_qcow2_check.proofs.shape.Shape.new.Goals as goal

pub invariant_of-result : goal.invariant_of-result
invariant_of-result c =
    let e = size_exponent c.args.cluster c.requires c.ranges.cluster.fits in
    record { power = e.power; least = e.least; most = e.most; shortest = e.shortest; longest = e.longest; is_bits = refl; all = search rules; few = omega arith }
