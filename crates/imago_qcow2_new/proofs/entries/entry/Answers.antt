-- SPDX-License-Identifier: MIT
use Rattle.std.proofs.Common.{◌≡◌, refl, ap, arith}
use Rattle.imago_qcow2_new.specs.Extents.{Spot, spot}
use Rattle.imago_qcow2_new.proofs.ExtentSteps.{before_most}
use Rattle.imago_qcow2_new.proofs.entries.entry.Goals as goal

pub overflow_add-result : goal.overflow_add-result
overflow_add-result c =
    let r = c.args.stored.now in
    let m = before_most r.unit r.end r.stored 0 0 r.extents.items r.ordered c.args.offset in
    let e : (spot r.stored r.extents.items c.args.offset).before ≡ c.part_at-part.result.before = ap (λ (s : Spot). s.before) c.part_at-part.ensures.spot in
    omega (arith, m, e, c.requires)

pub overflow_add-result-then-part : goal.overflow_add-result-then-part
overflow_add-result-then-part c =
    let r = c.args.stored.now in
    let m = before_most r.unit r.end r.stored 0 0 r.extents.items r.ordered c.args.offset in
    let e : (spot r.stored r.extents.items c.args.offset).before ≡ c.part_at-part.result.before = ap (λ (s : Spot). s.before) c.part_at-part.ensures.spot in
    omega (arith, m, e, c.requires)

pub returns-then-part : goal.returns-then-part
returns-then-part c = rw (c.part_at-part.ensures.spot, c.if-part.true) refl

pub returns : goal.returns
returns c = rw (c.part_at-part.ensures.spot, c.if-part.false) refl
