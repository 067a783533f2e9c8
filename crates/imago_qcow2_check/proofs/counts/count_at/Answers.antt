-- SPDX-License-Identifier: MIT
use Rattle.std.proofs.Common.{◌≡◌, ◌*◌, ◌/◌, ◌%◌, length, ◌∙◌, arith}
use Rattle.imago_qcow2_check.specs.Counts.{count_in}
use Rattle.imago_qcow2_check.proofs.CountSteps.{count_8, count_16, count_32, count_64, first, inside_0, inside_1, inside_2, inside_3, inside_4, inside_5, inside_6}
use Rattle.imago_qcow2_check.proofs.counts.count_at.Goals as goal

pub bits_at-requires-clause-inside : goal.bits_at-requires-clause-inside
bits_at-requires-clause-inside c = let h = rw c.in-0.is at c.requires.inside in inside_0 c.args.index (length c.args.block.now) h

pub bits_at-requires-in-1-clause-inside : goal.bits_at-requires-in-1-clause-inside
bits_at-requires-in-1-clause-inside c = let h = rw c.in-1.is at c.requires.inside in inside_1 c.args.index (length c.args.block.now) h

pub bits_at-requires-in-2-clause-inside : goal.bits_at-requires-in-2-clause-inside
bits_at-requires-in-2-clause-inside c = let h = rw c.in-2.is at c.requires.inside in inside_2 c.args.index (length c.args.block.now) h

pub bounds-block-index : goal.bounds-block-index
bounds-block-index c = let h = rw c.in-3.is at c.requires.inside in inside_3 c.args.index (length c.args.block.now) h

pub number16-requires : goal.number16-requires
number16-requires c = let h = rw c.in-4.is at c.requires.inside in inside_4 c.args.index (length c.args.block.now) h

pub number32-requires : goal.number32-requires
number32-requires c = let h = rw c.in-5.is at c.requires.inside in inside_5 c.args.index (length c.args.block.now) h

pub overflow_mul-index : goal.overflow_mul-index
overflow_mul-index c = let h = rw c.in-4.is at c.requires.inside in let x = inside_4 c.args.index (length c.args.block.now) h in omega (arith, x, c.requires.few)

pub overflow_mul-index-in-5 : goal.overflow_mul-index-in-5
overflow_mul-index-in-5 c = let h = rw c.in-5.is at c.requires.inside in let x = inside_5 c.args.index (length c.args.block.now) h in omega (arith, x, c.requires.few)

pub number64-requires : goal.number64-requires
number64-requires c = let e : c.args.order ≡ 6 = omega (arith, c.requires.order) in let h = rw e at c.requires.inside in inside_6 c.args.index (length c.args.block.now) h

pub overflow_mul-index-in_default : goal.overflow_mul-index-in_default
overflow_mul-index-in_default c = let e : c.args.order ≡ 6 = omega (arith, c.requires.order) in let h = rw e at c.requires.inside in let x = inside_6 c.args.index (length c.args.block.now) h in omega (arith, x, c.requires.few)

pub returns-in-0 : goal.returns-in-0
unfolding count_in
returns-in-0 c = rw c.in-0.is (c.bits_at.ensures ∙ first c.args.block.now (c.args.index * 1 / 8) (c.args.index * 1 % 8) 2)

pub returns-in-1 : goal.returns-in-1
unfolding count_in
returns-in-1 c = rw c.in-1.is (c.bits_at-in-1.ensures ∙ first c.args.block.now (c.args.index * 2 / 8) (c.args.index * 2 % 8) 4)

pub returns-in-2 : goal.returns-in-2
unfolding count_in
returns-in-2 c = rw c.in-2.is (c.bits_at-in-2.ensures ∙ first c.args.block.now (c.args.index * 4 / 8) (c.args.index * 4 % 8) 16)

pub returns-in-3 : goal.returns-in-3
returns-in-3 c = rw c.in-3.is (count_8 c.args.block.now c.args.index)

pub returns-in-4 : goal.returns-in-4
returns-in-4 c = rw c.in-4.is (c.number16.ensures.value ∙ count_16 c.args.block.now c.args.index)

pub returns-in-5 : goal.returns-in-5
returns-in-5 c = rw c.in-5.is (c.number32.ensures ∙ count_32 c.args.block.now c.args.index)

pub returns-in_default : goal.returns-in_default
returns-in_default c = let e : c.args.order ≡ 6 = omega (arith, c.requires.order) in rw e (c.number64.ensures ∙ count_64 c.args.block.now c.args.index)
