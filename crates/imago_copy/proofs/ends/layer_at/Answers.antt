-- SPDX-License-Identifier: MIT
use Rattle.std.proofs.Common.{arith, ◌≤◌, ◌≡◌, ◌+◌, Some, sym, ap, ◌∙◌}
use Rattle.std.specs.Option.{option_copied}
use Rattle.imago_access.specs.Chain.{backing}
use Rattle.imago_copy.proofs.EndSteps.{lies_lower, lies_at}
use Rattle.imago_copy.proofs.ends.layer_at.Goals as goal

pub loop-done-preserved : goal.loop-done-preserved
loop-done-preserved g c =
    let is : backing c.loop-done.layer.now ≡ Some c.in-Some.below.now = sym c.backing.ensures ∙ ap option_copied c.in-Some.is in
    let within : c.loop-done.done + 1 ≤ c.args.depth = omega (arith, c.loop-done-test.true) in
    (within, lies_lower g.D.FormatDriverInstance.view c.args.image.now c.loop-done.layer.now c.in-Some.below.now c.loop-done.done is c.loop-done.invariant.1)

pub returns : goal.returns
returns g c =
    let reached : c.args.depth ≤ c.loop-done.done = omega (arith, c.loop-done-test.false) in
    lies_at g.D.FormatDriverInstance.view c.args.image.now c.loop-done.layer.now c.args.depth c.loop-done.done c.loop-done.invariant.0 reached c.loop-done.invariant.1
