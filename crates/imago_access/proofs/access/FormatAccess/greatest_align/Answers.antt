-- SPDX-License-Identifier: MIT
use Rattle.std.proofs.Common.{sym, ap, ◌∙◌, ◌≡◌, Some, None}
use Rattle.imago_access.specs.Chain.{backing, unboxed}
use Rattle.imago_access.specs.Alignments.{has_align, align_of}
use Rattle.imago_access.proofs.Greatest.{nothing_yet, layer_done, last_done}
use Rattle.imago_access.proofs.access.FormatAccess.greatest_align.Goals as goal

pub loop-layer-init : goal.loop-layer-init
loop-layer-init g c = nothing_yet (has_align g.D.FormatDriverInstance.view (align_of c.args.which) c.args.self.now)

pub loop-layer-preserved : goal.loop-layer-preserved
loop-layer-preserved g c =
    let v = g.D.FormatDriverInstance.view in
    let of = align_of c.args.which in
    let l = c.loop-layer in
    let below : backing l.layer.now ≡ Some c.deref-layer.result.now = ap unboxed c.in-Some.is ∙ ap Some (sym c.deref-layer.ensures) in
    rw c.max-greatest.ensures (layer_done v of (has_align v of c.args.self.now) l.layer.now c.deref-layer.result.now l.greatest c.driver_align.result below c.driver_align.ensures l.invariant)

pub returns-in-None : goal.returns-in-None
returns-in-None g c =
    let v = g.D.FormatDriverInstance.view in
    let of = align_of c.args.which in
    let l = c.loop-layer in
    let none : backing l.layer.now ≡ None = ap unboxed c.in-None.is in
    rw c.max-greatest.ensures (last_done v of (has_align v of c.args.self.now) l.layer.now l.greatest c.driver_align.result none c.driver_align.ensures l.invariant)
