-- SPDX-License-Identifier: MIT
use Rattle.std.proofs.Common.{refl}
use Rattle.imago_drivers.specs.Operation.{Zero, DiscardToZero, DiscardToAny}
use Rattle.imago_cow.proofs.ZeroSteps.{zero_call, discard}
use Rattle.imago_cow.proofs.guest.make_zero.Goals as goal

pub returns-clause-zero : goal.returns-clause-zero
returns-clause-zero c = λ f n bytes. let e = c.clear_whole.ensures in
    rw e.count (zero_call f n bytes c.args.size c.args.block.length _ _ _ c.args.offset c.args.count _ _ _ c.requires.positive c.requires.inside c.requires.exact.covers e.part e.cleared Zero refl e.part (λ h. h))

pub returns-clause-to_zero : goal.returns-clause-to_zero
returns-clause-to_zero c = λ f n bytes. let e = c.clear_whole.ensures in
    rw e.count (zero_call f n bytes c.args.size c.args.block.length _ _ _ c.args.offset c.args.count _ _ _ c.requires.positive c.requires.inside c.requires.exact.covers e.part e.cleared DiscardToZero refl e.part (λ h. h))

pub returns-clause-to_any : goal.returns-clause-to_any
returns-clause-to_any c = λ f n bytes. let e = c.clear_whole.ensures in
    rw e.count (discard f n bytes c.args.size c.args.block.length _ _ _ c.args.offset c.args.count _ _ _ c.requires.positive c.requires.inside c.requires.exact.covers e.part e.cleared DiscardToAny _ refl (λ a b p x. x) e.part (λ h. h) (λ below k v. tt))

pub returns-clause-made : goal.returns-clause-made
returns-clause-made c = (c.clear_whole.ensures.cleared, c.clear_whole.ensures.part, refl)
