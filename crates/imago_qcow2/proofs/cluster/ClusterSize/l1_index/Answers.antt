-- SPDX-License-Identifier: MIT
use Rattle.std.proofs.Common.{◌/◌, ap, sym}
use Rattle.imago_qcow2.proofs.ClusterSteps.{span_power}
use Rattle.imago_qcow2.proofs.cluster.ClusterSize.l1_index.Goals as goal

pub returns : goal.returns
returns c = let s = c.args.self in ap (λ x. c.args.offset / x) (sym (span_power s.bits s.length s.least s.power))
