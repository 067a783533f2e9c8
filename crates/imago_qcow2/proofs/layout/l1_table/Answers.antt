-- SPDX-License-Identifier: MIT
use Rattle.std.proofs.Common.{◌*◌, ◌/◌, ◌≤◌, arith}
use Rattle.imago_qcow2.proofs.HeldSteps.{enough, span_positive}
use Rattle.imago_qcow2.proofs.layout.l1_table.Goals as goal

pub returns-clause-inside : goal.returns-clause-inside
returns-clause-inside c =
    let h = c.in_ok-header.header in
    let s = c.in_ok-header.ensures.sound in
    let few : c.div_ceil.result ≤ h.l1_count = rw c.div_ceil.ensures (enough h.size h.l1_count (h.cluster_size / 8 * h.cluster_size) (span_positive h.cluster_size s.least) s.covers) in
    omega (arith, few, s.inside)
