-- SPDX-License-Identifier: MIT
use Rattle.std.proofs.Common.{◌-◌, ◌^◌, ◌<◌, ◌≤◌, ◌∙◌, ap, arith}
use Rattle.std.proofs.Math.Nat.{pow-le-pow_right}
use Rattle.imago_qcow2.proofs.cluster.ClusterSize.stream_offsets.Goals as goal

pub returns-clause-least : goal.returns-clause-least
returns-clause-least c =
    let s = c.args.self in
    let two : 0 < 2 = omega arith in
    let some : 49 ≤ 62 - (s.bits - 8) = omega (arith, s.most) in
    let x : 2 ^ 49 ≤ 2 ^ (62 - (s.bits - 8)) = pow-le-pow_right two some in
    let e = c.pow.ensures in
    omega (arith, x, e)

pub returns-clause-value : goal.returns-clause-value
returns-clause-value c = c.pow.ensures ∙ ap (λ b. 2 ^ (62 - (b - 8))) c.args.self.is_bits
