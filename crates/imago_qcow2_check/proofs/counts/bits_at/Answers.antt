-- SPDX-License-Identifier: MIT
use Rattle.std.proofs.Common.{◌^◌, ◌<◌, ◌≤◌, arith}
use Rattle.std.proofs.Math.Nat.{pow-le-pow_right}
use Rattle.imago_qcow2_check.proofs.counts.bits_at.Goals as goal

pub overflow_mul-bit : goal.overflow_mul-bit
overflow_mul-bit c = omega (arith, c.requires.inside, c.requires.few)

pub pow-requires-2 : goal.pow-requires-2
pow-requires-2 c =
    let two : 0 < 2 = omega arith in
    let x : 2 ^ c.args.width ≤ 2 ^ 8 = pow-le-pow_right two c.requires.most in
    omega (arith, x)
