-- SPDX-License-Identifier: MIT
use Rattle.imago_qcow2.proofs.ClusterSteps.{masked}
use Rattle.imago_qcow2.proofs.cluster.ClusterSize.rest.Goals as goal

pub returns-clause-value : goal.returns-clause-value
returns-clause-value c = masked c.args.offset c.args.self.bits c.args.self.length c.args.self.power
