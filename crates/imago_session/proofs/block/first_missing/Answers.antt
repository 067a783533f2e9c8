-- SPDX-License-Identifier: MIT
use Rattle.std.proofs.Common.{arith, refl, ◌+◌, ◌-◌, ◌/◌, ◌<◌, ◌≤◌, ℕ, sym, subst}
use Rattle.imago_session.specs.Loaded.{IsThere}
use Rattle.imago_session.proofs.LoadedSteps.{blocks_there}
use Rattle.imago_session.proofs.block.first_missing.Goals as goal

pub returns-then-has_block-clause-there : goal.returns-then-has_block-clause-there
returns-then-has_block-clause-there c = λ none.
    let f = c.args.file.now in
    let at = c.args.at in
    let count = c.args.count in
    let e = c.block_length-block.ensures.value in
    blocks_there f at count f.positive (omega (arith, c.if-count-eq0.false))
    (λ q low high.
    let far = subst (λ (k : ℕ). q < (at + (count - 1)) / k) (sym e) high in
    c.loop-number.invariant.there q (subst (λ (k : ℕ). at / k ≤ q) (sym e) low) (omega (arith, far, c.loop-number-test.false)))
    (subst (λ (k : ℕ). IsThere f ((at + (count - 1)) / k)) e (c.if-has_block.ensures.0 refl))
