-- SPDX-License-Identifier: MIT
use Rattle.imago_qcow2.proofs.ClusterSteps.{masked}
use Rattle.imago_qcow2_check.proofs.shape.Shape.rest.Goals as goal

pub returns : goal.returns
returns c = masked c.args.at c.args.self.bits c.args.self.cluster c.args.self.power
