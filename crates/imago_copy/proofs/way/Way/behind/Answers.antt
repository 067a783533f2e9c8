-- SPDX-License-Identifier: MIT
use Rattle.std.proofs.Common.{◌≡◌, ◌+◌, ◌-◌, ◌≤◌, arith}
use Rattle.imago_copy.proofs.WaySteps.{along_behind}
use Rattle.imago_copy.proofs.way.Way.behind.Goals as goal

pub returns-in-Some-Some : goal.returns-in-Some-Some
returns-in-Some-Some g c = λ x way.
    let view = g.D.FormatDriverInstance.view in
    let s = c.args.self in
    let (hops, writable, depth, along) = way in
    let at : c.in-Some-Some.at ≡ s.at + c.args.passed = omega (arith, c.in-Some-Some.ensures) in
    let there : c.in-Some-Some.offset ≡ s.offset + c.args.passed = omega (arith, c.in-Some-Some.ensures') in
    let left : c.saturating_sub-count.result ≤ s.count - c.args.passed = omega (arith, c.saturating_sub-count.ensures) in
    (hops, writable, depth, along_behind view x s.at s.layer.now hops s.offset s.count c.args.passed c.in-Some-Some.at c.in-Some-Some.offset c.saturating_sub-count.result writable along at there left)
