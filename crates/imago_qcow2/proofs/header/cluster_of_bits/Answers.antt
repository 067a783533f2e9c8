-- SPDX-License-Identifier: MIT
use Rattle.std.proofs.Common.{◌≤◌, ◌<◌, ◌^◌, arith}
use Rattle.std.proofs.Math.Nat.{pow-le-pow_right}
use Rattle.imago_qcow2.proofs.header.cluster_of_bits.Goals as goal

pub returns-clause-least : goal.returns-clause-least
returns-clause-least c = let two : 0 < 2 = omega arith in let x : 2 ^ 9 ≤ 2 ^ c.args.bits = pow-le-pow_right two c.requires.least in let e = c.pow.ensures in omega (arith, x, e)

pub returns-clause-most : goal.returns-clause-most
returns-clause-most c = let two : 0 < 2 = omega arith in let x : 2 ^ c.args.bits ≤ 2 ^ 21 = pow-le-pow_right two c.requires.most in let e = c.pow.ensures in omega (arith, x, e)
