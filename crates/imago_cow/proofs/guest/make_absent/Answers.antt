-- SPDX-License-Identifier: MIT
use Rattle.std.proofs.Common.{refl, inr, true}
use Rattle.imago_drivers.specs.Operation.{DiscardToBacking}
use Rattle.imago_drivers.specs.Changes.{to_backing}
use Rattle.imago_cow.proofs.ZeroSteps.{discard}
use Rattle.imago_cow.proofs.guest.make_absent.Goals as goal

pub returns-clause-to_backing : goal.returns-clause-to_backing
returns-clause-to_backing c = λ f n bytes. let e = c.clear_whole.ensures in
    rw e.count (discard f n bytes c.args.size c.args.block.length _ _ _ c.args.offset c.args.count _ _ _ c.requires.positive c.requires.inside c.requires.exact.covers e.part e.cleared DiscardToBacking (to_backing true) refl (λ a b p x. x) e.part (λ h. h) (λ below k v. inr refl))

pub returns-clause-made : goal.returns-clause-made
returns-clause-made c = (c.clear_whole.ensures.cleared, c.clear_whole.ensures.part, refl)
