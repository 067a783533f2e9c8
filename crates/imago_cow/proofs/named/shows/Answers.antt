-- SPDX-License-Identifier: MIT
use Rattle.std.proofs.Common.{◌≡◌, ◌*◌, ap, arith}
use Rattle.std.proofs.lemmas.Bool.{leb-true, leb-false}
use Rattle.imago_cow.specs.TableLaws.{named_once}
use Rattle.imago_cow.proofs.NamedSteps.{begins_inside}
use Rattle.imago_cow.proofs.named.shows.Goals as goal

pub overflow_mul-result : goal.overflow_mul-result
overflow_mul-result c = let b = begins_inside c.args.size c.args.block _ c.in-Some.index _ c.requires.exact c.in-Some.ensures in omega (arith, b, c.requires.fits)

pub overflow_sub-result : goal.overflow_sub-result
overflow_sub-result c = let b = begins_inside c.args.size c.args.block _ c.in-Some.index _ c.requires.exact c.in-Some.ensures in omega (arith, b)

pub returns-in-Some-clause-shown : goal.returns-in-Some-clause-shown
returns-in-Some-clause-shown c = λ e.
    let b = begins_inside c.args.size c.args.block _ c.in-Some.index _ c.requires.exact c.in-Some.ensures in
    let l = leb-true _ _ e in
    (c.in-Some.index, c.in-Some.ensures, omega (arith, b, l))

pub returns-in-Some-clause-stranger : goal.returns-in-Some-clause-stranger
returns-in-Some-clause-stranger c = λ e i named.
    let b = begins_inside c.args.size c.args.block _ c.in-Some.index _ c.requires.exact c.in-Some.ensures in
    let l = leb-false _ _ e in
    let same : i * c.args.block ≡ c.in-Some.index * c.args.block = ap (λ x. x * c.args.block) (named_once c.args.table.now i c.in-Some.index c.args.number named c.in-Some.ensures) in
    omega (arith, b, l, same)
