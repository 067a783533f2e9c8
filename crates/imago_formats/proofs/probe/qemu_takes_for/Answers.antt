-- SPDX-License-Identifier: MIT
use Rattle.std.proofs.Common.{rules, tests, ◌<◌, length}
use Rattle.imago_formats.proofs.TakenSteps.{by_marked, by_weak}
use Rattle.imago_formats.proofs.probe.qemu_takes_for.Goals as goal

pub returns-in-Some : goal.returns-in-Some
returns-in-Some c =
    let some : 0 < length c.args.block.now = search (rules, tests) in
    by_marked c.args.name.now c.args.block.now _ c.in-Some.found _ c.unless_another.result some
    c.head_of-head.ensures c.in-Some.ensures c.unless_another.ensures

pub returns-in-None : goal.returns-in-None
returns-in-None c =
    let some : 0 < length c.args.block.now = search (rules, tests) in
    by_weak c.args.name.now c.args.block.now _ c.weakly_taken_for.result some
    c.head_of-head.ensures c.in-None.ensures c.weakly_taken_for.ensures
