-- SPDX-License-Identifier: MIT
use Rattle.std.proofs.Common.{arith, sym, ap, ◌∙◌, ◌≡◌, ◌+◌, Some}
use Rattle.std.proofs.lemmas.Result.{err_from_is_err_and}
use Rattle.imago_access.specs.Chain.{driver, backing, unboxed}
use Rattle.imago_access.proofs.Chains.{whole_here}
use Rattle.imago_access.proofs.Descent.{step_down}
use Rattle.imago_access.proofs.AnswerSteps.{on_below, lands, map_refusal}
use Rattle.imago_access.proofs.Lengths.{bottom_of, length_lower, length_landed, some_named, reference_here}
use Rattle.imago_access.proofs.Landed.{descent_refused, descent_unreadable, left_some}
use Rattle.imago_access.proofs.access.FormatAccess.descend.Goals as goal

pub loop-mapping-preserved : goal.loop-mapping-preserved
loop-mapping-preserved g c =
    let v = g.D.FormatDriverInstance.view in
    let its = g.D.FormatDriverInstance.calls in
    let l = c.loop-mapping in
    let r = c.in_ok-mapping in
    let below : backing l.layer.now ≡ Some c.deref-layer.result.now = ap unboxed c.in-Some.is ∙ ap Some (sym c.deref-layer.ensures) in
    let down = step_down v c.args.self.now c.args.offset c.args.max_length l.layer.now l.invariant.hops l.way.offset l.way.length l.way.writable l.invariant.leads r.mapping r.count r.ensures.part c.deref-layer.result.now c.in-Indirect.offset c.in-Indirect.writable below c.in-Indirect.is (λ h. r.ensures.whole (whole_here v l.layer.now l.way.offset l.way.length h)) in
    let some = some_named v c.args.self.now c.args.offset c.args.max_length l.layer.now l.invariant.hops l.way.offset l.way.length l.way.writable l.invariant.leads r.mapping r.count r.ensures.part c.requires in
    let place = reference_here (v (driver l.layer.now)).place l.way.offset l.way.length r.mapping r.count r.ensures.part c.in-Indirect.offset c.in-Indirect.writable c.in-Indirect.is some in
    record {
      hops = l.invariant.hops + 1;
      length = rw (c.below-way.ensures.offset, c.below-way.ensures.length) (λ n h. l.invariant.length n (length_lower v l.layer.now c.deref-layer.result.now l.way.offset c.in-Indirect.offset l.way.length r.count n c.in-Indirect.writable below place r.ensures.length h));
      depth = let a = l.invariant.depth in let b = c.below-way.ensures.depth in omega arith;
      reached = rw (c.below-way.ensures.offset, c.below-way.ensures.length) (on_below its c.args.self.now l.layer.now c.deref-layer.result.now c.args.offset c.args.max_length l.way.offset l.way.length c.in-Indirect.offset r.count c.in-Indirect.writable l.invariant.reached below (rw c.in-Indirect.is at r.ensures.asked));
      leads = rw (c.below-way.ensures.offset, c.below-way.ensures.length, c.below-way.ensures.writable) down;
    }

pub returns-in_err-mapping-clause-answered : goal.returns-in_err-mapping-clause-answered
returns-in_err-mapping-clause-answered g c =
    let p = err_from_is_err_and c.from_residual.result c.from_residual.ensures.1 in
    let l = c.loop-mapping in
    rw (p.1, p.2) (map_refusal g.D.FormatDriverInstance.calls c.args.self.now l.layer.now c.args.offset c.args.max_length l.way.offset l.way.length c.in_err-mapping.field-0.0 l.invariant.reached c.in_err-mapping.ensures.answered)

pub returns-in_default-clause-asked : goal.returns-in_default-clause-asked
returns-in_default-clause-asked g c =
    let l = c.loop-mapping in
    let r = c.in_ok-mapping in
    rw c.cut-in_default.ensures (lands g.D.FormatDriverInstance.calls c.args.self.now l.layer.now c.args.offset c.args.max_length l.way.offset l.way.length r.mapping r.count l.invariant.reached r.ensures.asked (bottom_of r.mapping l.layer.now c.in_default.not-Indirect))

pub returns-in_err-mapping-clause-refusals : goal.returns-in_err-mapping-clause-refusals
returns-in_err-mapping-clause-refusals g c =
    let p = err_from_is_err_and c.from_residual.result c.from_residual.ensures.1 in
    let l = c.loop-mapping in
    rw (p.1, p.2) (descent_refused g.D.FormatDriverInstance.view c.args.self.now c.args.offset c.args.max_length l.layer.now l.invariant.hops l.way.offset l.way.length l.way.writable l.invariant.leads g.met.D.FormatDriverInstance.causes_lawful c.requires c.in_err-mapping.field-0.0 c.in_err-mapping.ensures.refusals)

pub returns-in_err-mapping-clause-refused_place : goal.returns-in_err-mapping-clause-refused_place
returns-in_err-mapping-clause-refused_place g c =
    let p = err_from_is_err_and c.from_residual.result c.from_residual.ensures.1 in
    let v = g.D.FormatDriverInstance.view in
    let l = c.loop-mapping in
    let e = c.in_err-mapping.field-0.0 in
    rw (p.1, p.2) (λ h. descent_unreadable v c.args.self.now c.args.offset c.args.max_length l.layer.now l.invariant.hops l.way.offset l.way.length l.way.writable l.invariant.leads e
    (left_some v c.args.self.now c.args.offset c.args.max_length l.layer.now l.invariant.hops l.way.offset l.way.length l.way.writable l.invariant.leads c.requires)
    (c.in_err-mapping.ensures.refused_place h))

pub returns-in_default-clause-length : goal.returns-in_default-clause-length
returns-in_default-clause-length g c =
    let v = g.D.FormatDriverInstance.view in
    let l = c.loop-mapping in
    let r = c.in_ok-mapping in
    let some = some_named v c.args.self.now c.args.offset c.args.max_length l.layer.now l.invariant.hops l.way.offset l.way.length l.way.writable l.invariant.leads r.mapping r.count r.ensures.part c.requires in
    rw c.cut-in_default.ensures (length_landed v c.args.self.now c.args.offset c.args.max_length l.layer.now l.way.offset l.way.length r.mapping r.count l.invariant.length r.ensures.part r.ensures.length (bottom_of r.mapping l.layer.now c.in_default.not-Indirect) some)
