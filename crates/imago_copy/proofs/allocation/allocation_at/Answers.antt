-- SPDX-License-Identifier: MIT
use Rattle.std.proofs.Common.{arith, ◌≡◌, ◌+◌, ◌∙◌, sym}
use Rattle.std.proofs.lemmas.Bool.{false≢true}
use Rattle.imago_access.specs.Target.{target}
use Rattle.imago_copy.proofs.AllocationSteps.{first_allocated, more_allocated}
use Rattle.imago_copy.proofs.allocation.allocation_at.Goals as goal

pub loop-count-preserved : goal.loop-count-preserved
loop-count-preserved g c =
    let leads = target g.D.FormatDriverInstance.view c.args.image.now in
    let l = c.loop-count in
    let next = c.in_ok-next in
    let same : next.next.allocation ≡ c.in_ok-first.first.allocation = c.is_same.ensures.0 c.if-not-is_same.false in
    record {
      some = omega (arith, l.invariant.some);
      within = omega (arith, next.ensures.within, l.invariant.within);
      way = next.ensures.way;
      allocated = more_allocated leads c.args.at l.count next.next.run.count c.in_ok-first.first.allocation next.next.allocation l.invariant.allocated next.ensures.run.1 same;
    }

pub returns-then-not-is_same-clause-apart : goal.returns-then-not-is_same-clause-apart
returns-then-not-is_same-clause-apart g c = λ more same.
    let leads = target g.D.FormatDriverInstance.view c.args.image.now in
    let next = c.in_ok-next in
    let there = first_allocated leads (c.args.at + c.loop-count.count) next.next.run.count next.next.allocation next.ensures.run.1 next.ensures.run.0.1 in
    false≢true (c.if-not-is_same.ensures.1 (sym there ∙ same))
