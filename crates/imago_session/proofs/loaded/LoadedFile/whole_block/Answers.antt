-- SPDX-License-Identifier: MIT
use Rattle.std.proofs.Common.{◌≡◌, ◌+◌, ◌%◌, ◌≤◌, length, arith}
use Rattle.std.specs.Arc.{arc_slice_items}
use Rattle.imago_session.proofs.LoadedSteps.{whole_block}
use Rattle.imago_session.proofs.loaded.LoadedFile.whole_block.Goals as goal

pub returns-in-Ok-clause-read : goal.returns-in-Ok-clause-read
returns-in-Ok-clause-read c =
    let f = c.args.self.now in
    let zero : c.args.at % f.block ≡ 0 = omega (arith, c.if-at-self-ne0.false) in
    let count : c.args.count ≡ f.block = omega (arith, c.if-count-self.false) in
    let inside : c.args.at + f.block ≤ f.length = omega (arith, count, c.if-at-self.false, c.if-count-self-2.false) in
    let whole : length (arc_slice_items c.in-Some.block.now) ≡ f.block = omega (arith, count, c.len.ensures, c.if-len-count.false) in
    whole_block f c.args.at c.in-Some.block.now c.in-Ok.shared zero inside c.in-Some.ensures.value whole c.in-Ok.ensures.cases
