-- SPDX-License-Identifier: MIT
use Rattle.std.proofs.Common.{◌≡◌, ◌+◌, ◌-◌, ◌^◌, IsOk, arith}
use Rattle.imago_cow.proofs.FreeSteps.{without_pushed, on_ok}
use Rattle.imago_cow.proofs.free.FreeBlocks.put.Goals as goal

pub returns-clause-put : goal.returns-clause-put
returns-clause-put c =
    let ok : IsOk c.push.result = c.push.ensures.succeeds c.requires in
    let e : c.other_end.result + c.args.block ≡ 2 ^ 64 - 1 = omega (arith, c.other_end.ensures) in
    without_pushed c.other_end.result c.args.block _ c.args.self.now e (on_ok _ _ ok c.push.ensures.permutation) (on_ok _ _ ok c.push.ensures.len)
