-- SPDX-License-Identifier: MIT
use Rattle.std.proofs.Common.{◌-◌, ◌%◌, arith}
use Rattle.imago_qcow2_new.proofs.Whole.{zero_whole, mod_le, floor_whole, rest_whole, either_whole}
use Rattle.imago_qcow2_new.proofs.ExtentSteps.{end_whole}
use Rattle.imago_qcow2_new.proofs.extents.Extents.cover.Goals as goal

pub add-requires-clause-start_whole : goal.add-requires-clause-start_whole
add-requires-clause-start_whole c =
    let s = c.args.self.now in
    either_whole s.unit s.end (c.args.from - c.args.from % s.unit) c.max-start.result
    (end_whole s.unit s.end s.stored 0 0 s.extents.items s.ordered (zero_whole s.unit c.requires.positive))
    (floor_whole s.unit c.requires.positive c.args.from (c.args.from - c.args.from % s.unit) (let m = mod_le c.args.from s.unit in omega (arith, m)))
    c.max-start.ensures

pub add-requires-clause-whole : goal.add-requires-clause-whole
add-requires-clause-whole c =
    let s = c.args.self.now in
    let start = either_whole s.unit s.end (c.args.from - c.args.from % s.unit) c.max-start.result
    (end_whole s.unit s.end s.stored 0 0 s.extents.items s.ordered (zero_whole s.unit c.requires.positive))
    (floor_whole s.unit c.requires.positive c.args.from (c.args.from - c.args.from % s.unit) (let m = mod_le c.args.from s.unit in omega (arith, m)))
    c.max-start.ensures in
    rest_whole s.unit c.rounded_up-end.result c.max-start.result (c.rounded_up-end.result - c.max-start.result) c.rounded_up-end.ensures.whole start (omega (arith, c.if-end-start.false))

pub lengthen-requires-clause-whole : goal.lengthen-requires-clause-whole
lengthen-requires-clause-whole c =
    let s = c.args.self.now in
    let start = either_whole s.unit s.end (c.args.from - c.args.from % s.unit) c.max-start.result
    (end_whole s.unit s.end s.stored 0 0 s.extents.items s.ordered (zero_whole s.unit c.requires.positive))
    (floor_whole s.unit c.requires.positive c.args.from (c.args.from - c.args.from % s.unit) (let m = mod_le c.args.from s.unit in omega (arith, m)))
    c.max-start.ensures in
    rest_whole s.unit c.rounded_up-end.result c.max-start.result (c.rounded_up-end.result - c.max-start.result) c.rounded_up-end.ensures.whole start (omega (arith, c.if-end-start.false))
