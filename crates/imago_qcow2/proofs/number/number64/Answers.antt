-- SPDX-License-Identifier: MIT
use Rattle.std.proofs.Common.{◌≡◌, ◌+◌, arith}
use Rattle.imago_qcow2.specs.Numbers.{be32, be64}
use Rattle.imago_qcow2.proofs.number.number64.Goals as goal

pub returns : goal.returns
unfolding be64 be32
returns c =
    let at = c.args.at in
    let e : at + 4 + 1 ≡ at + 5 = omega arith in
    let f : at + 4 + 2 ≡ at + 6 = omega arith in
    let g : at + 4 + 3 ≡ at + 7 = omega arith in
    rw (e, f, g) (omega (arith, c.from_be_bytes.ensures))
