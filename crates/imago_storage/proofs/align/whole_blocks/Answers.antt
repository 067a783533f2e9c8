-- SPDX-License-Identifier: MIT
use Rattle.std.proofs.Common.{arith}
use Rattle.std.proofs.Math.Nat.{div-add-mod'}
use Rattle.imago_storage.proofs.align.whole_blocks.Goals as goal

pub returns : goal.returns
returns c = omega (arith, c.remainder.ensures.value, div-add-mod' c.args.len c.args.block)
