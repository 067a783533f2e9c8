-- SPDX-License-Identifier: MIT
use Rattle.std.proofs.Common.{sym, subst}
use Rattle.imago_access.specs.Lending.{with_driver}
use Rattle.imago_access.specs.Chain.{backing, lent_image}
use Rattle.imago_access.specs.declared.discard.DiscardCall.{DiscardCall}
use Rattle.imago_access.specs.declared.discard.DiscardCall.TheVariants as C
use Rattle.imago_access.specs.Discarding.{HasLoosenedPart}
use Rattle.imago_access.proofs.Written.{stays}
use Rattle.imago_access.proofs.DiscardSteps.{part_loosened}
use Rattle.imago_access.proofs.PartSteps.{made_by}
use Rattle.imago_access.proofs.access.FormatAccess.discard_part.Goals as goal

pub returns-in-ToAny-clause-loosened : goal.returns-in-ToAny-clause-loosened
returns-in-ToAny-clause-loosened g c =
    let e = c.discard_to_any.ensures.call in
    let v = g.D.FormatDriverInstance.view in
    let x = c.args.self.now in
    let d = c.discard_to_any.new.self in
    let at = (lent_image v (backing x)).at in
    subst (λ (k : DiscardCall). HasLoosenedPart v k c.args.offset c.args.count x (with_driver x d) c.discard_to_any.result) (sym c.in-ToAny.is)
    (part_loosened v x d C.ToAny c.args.offset c.args.count c.discard_to_any.result e.done.inside e.done.whole (λ k. e.done.done k at) (λ k. e.done.refused k at) e.causes e.nothing_pending (stays _ _ e.framed e.lengths.no_shorter) e.outside e.faults e.refusals)

pub returns-in-ToBacking-clause-loosened : goal.returns-in-ToBacking-clause-loosened
returns-in-ToBacking-clause-loosened g c =
    let e = c.discard_to_backing.ensures.call in
    let v = g.D.FormatDriverInstance.view in
    let x = c.args.self.now in
    let d = c.discard_to_backing.new.self in
    let at = (lent_image v (backing x)).at in
    subst (λ (k : DiscardCall). HasLoosenedPart v k c.args.offset c.args.count x (with_driver x d) c.discard_to_backing.result) (sym c.in-ToBacking.is)
    (part_loosened v x d C.ToBacking c.args.offset c.args.count c.discard_to_backing.result e.done.inside e.done.whole (λ k. e.done.done k at) (λ k. e.done.refused k at) e.causes e.nothing_pending (stays _ _ e.framed e.lengths.no_shorter) e.outside e.faults e.refusals)

pub returns-in-ToAny-clause-performed : goal.returns-in-ToAny-clause-performed
returns-in-ToAny-clause-performed g c =
    let x = c.args.self.now in
    let d = c.discard_to_any.new.self in
    made_by g.D.FormatDriverInstance.calls x d C.ToAny c.args.call c.args.offset c.args.count c.discard_to_any.result c.in-ToAny.is c.discard_to_any.ensures.performed

pub returns-in-ToBacking-clause-performed : goal.returns-in-ToBacking-clause-performed
returns-in-ToBacking-clause-performed g c =
    let x = c.args.self.now in
    let d = c.discard_to_backing.new.self in
    made_by g.D.FormatDriverInstance.calls x d C.ToBacking c.args.call c.args.offset c.args.count c.discard_to_backing.result c.in-ToBacking.is c.discard_to_backing.ensures.performed
