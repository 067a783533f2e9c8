-- SPDX-License-Identifier: MIT
use Rattle.std.proofs.Common.{refl}
use Rattle.imago_qcow2_new.proofs.Whole.{power_least, power_most}
use Rattle.imago_qcow2_new.proofs.StoredSteps.{was_not}
use Rattle.imago_qcow2_new.proofs.entries.is_empty.Goals as goal

pub has_cluster-requires-clause-least : goal.has_cluster-requires-clause-least
has_cluster-requires-clause-least c = let l = c.args.layout.now in power_least l.cluster l.header.cluster_bits l.power l.least

pub has_cluster-requires-clause-most : goal.has_cluster-requires-clause-most
has_cluster-requires-clause-most c = let l = c.args.layout.now in power_most l.cluster l.header.cluster_bits l.power l.most

pub returns : goal.returns
returns c = λ yes i lt.
    let none = c.has_cluster.ensures.none (was_not c.has_cluster.result yes) i lt in
    rw none refl
