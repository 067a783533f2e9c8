-- SPDX-License-Identifier: MIT
use Rattle.std.proofs.Common.{◌*◌, ap, arith, inr}
use Rattle.imago_cow.specs.TableView.{count_of}
use Rattle.imago_cow.specs.TableLaws.{named_below}
use Rattle.imago_cow.proofs.NamedSteps.{first_shown, next_shown, has_stranger, stranger_past}
use Rattle.imago_cow.proofs.named.all_shown.Goals as goal

pub returns-then-count-end-clause-stranger : goal.returns-then-count-end-clause-stranger
returns-then-count-end-clause-stranger c = λ bytes e. stranger_past bytes c.args.size c.args.block.length _ c.args.offset c.args.count c.requires.positive c.args.storage (count_of c.args.table.now) (λ i j h. named_below c.args.table.now i j h) c.requires.some
    (inr (omega (arith, c.if-count-end.true, ap (λ x. x * c.args.block.length) c.block_count.ensures)))

pub returns-then-offset-end-clause-stranger : goal.returns-then-offset-end-clause-stranger
returns-then-offset-end-clause-stranger c = λ bytes e. stranger_past bytes c.args.size c.args.block.length _ c.args.offset c.args.count c.requires.positive c.args.storage (count_of c.args.table.now) (λ i j h. named_below c.args.table.now i j h) c.requires.some
    (inr (omega (arith, c.if-count-end.false, c.if-offset-end.true, ap (λ x. x * c.args.block.length) c.block_count.ensures)))

pub loop-number-init : goal.loop-number-init
loop-number-init c = λ bytes. rw c.number-number.ensures (first_shown bytes c.args.size c.args.block.length _ c.args.offset c.args.count c.requires.positive)

pub returns-then-not-shows-clause-stranger : goal.returns-then-not-shows-clause-stranger
returns-then-not-shows-clause-stranger c = λ bytes e. has_stranger bytes c.args.size c.args.block.length _ c.args.offset c.args.count c.requires.positive c.args.storage c.loop-number.number c.min-until.result
    (omega (arith, c.loop-number.auto.number)) (omega (arith, c.loop-number-test.true)) c.requires.some c.min-until.ensures (c.shows.ensures.stranger c.if-not-shows.true)

pub loop-number-preserved : goal.loop-number-preserved
loop-number-preserved c = λ bytes. next_shown bytes c.args.size c.args.block.length _ c.args.offset c.args.count c.requires.positive c.loop-number.number c.min-until.result c.min-until.ensures (c.shows.ensures.shown c.if-not-shows.false) (c.loop-number.invariant bytes)
