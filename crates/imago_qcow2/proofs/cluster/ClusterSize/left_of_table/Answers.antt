-- SPDX-License-Identifier: MIT
use Rattle.std.proofs.Common.{◌-◌, ◌*◌, ◌/◌, ap, ◌∙◌, bit_and}
use Rattle.imago_qcow2.proofs.ClusterSteps.{masked, span_power}
use Rattle.imago_qcow2.proofs.cluster.ClusterSize.left_of_table.Goals as goal

pub returns : goal.returns
returns c =
    let s = c.args.self in
    let span = s.length / 8 * s.length in
    let e = ap (λ x. x * s.length) c.entries.ensures.value in
    ap (λ x. x - bit_and c.args.offset (x - 1)) e
    ∙ ap (λ x. span - x) (masked c.args.offset (2 * s.bits - 3) span (span_power s.bits s.length s.least s.power))
