-- SPDX-License-Identifier: MIT
use Rattle.std.proofs.Common.{◌≡◌, ℕ, ◌+◌, ◌-◌, ◌%◌, ◌<◌, ◌≤◌, true, length, subst, sym, arith}
use Rattle.imago_qcow2_new.specs.Space.{stores}
use Rattle.imago_qcow2_new.specs.declared.extent.Extent.{Extent}
use Rattle.imago_qcow2_new.proofs.ExtentSteps.{none_left, next_left, ahead_left, inside_left, none_here, ahead_here, inside_here, within, stored_most}
use Rattle.imago_qcow2_new.proofs.extents.Extents.part_at.Goals as goal

pub returns-then-index-len-clause-part : goal.returns-then-index-len-clause-part
returns-then-index-len-clause-part c =
    let s = c.args.self.now in
    none_left s.unit s.end s.stored s.extents.items s.ordered c.passed-index.result c.args.offset c.passed-index.ensures.low (omega arith) (18446744073709551615 - c.args.offset)

pub returns-then-offset-extent-clause-part : goal.returns-then-offset-extent-clause-part
returns-then-offset-extent-clause-part c =
    let s = c.args.self.now in
    let lt : c.passed-index.result < length s.extents.items = omega arith in
    ahead_left s.unit s.end s.stored s.extents.items s.ordered c.passed-index.result c.args.offset c.passed-index.ensures.low lt c.index-extent.result.now c.index-extent.ensures c.if-offset-extent.true

pub overflow_add-result : goal.overflow_add-result
overflow_add-result c =
    let s = c.args.self.now in
    let r = c.index-extent.result.now in
    let lt : c.passed-index.result < length s.extents.items = omega arith in
    let w = within s.unit s.end s.stored 0 0 s.extents.items s.ordered c.passed-index.result r lt in
    let f : r.before + r.count ≤ s.stored = subst (λ (x : Extent). x.before + x.count ≤ s.stored) (sym c.index-extent.ensures) w.1 in
    let h : c.args.offset < r.start + r.count = subst (λ (x : Extent). c.args.offset < x.start + x.count) (sym c.index-extent.ensures) (c.passed-index.ensures.high r lt) in
    let most : s.stored ≤ s.end = stored_most s.unit s.end s.stored 0 0 s.extents.items s.ordered (omega arith) in
    omega (arith, f, h, most, s.small)

pub overflow_sub-result-2 : goal.overflow_sub-result-2
overflow_sub-result-2 c =
    let s = c.args.self.now in
    let r = c.index-extent.result.now in
    let lt : c.passed-index.result < length s.extents.items = omega arith in
    let h : c.args.offset < r.start + r.count = subst (λ (x : Extent). c.args.offset < x.start + x.count) (sym c.index-extent.ensures) (c.passed-index.ensures.high r lt) in
    omega (arith, h)

pub returns-clause-part : goal.returns-clause-part
returns-clause-part c =
    let s = c.args.self.now in
    let r = c.index-extent.result.now in
    let lt : c.passed-index.result < length s.extents.items = omega arith in
    let h : c.args.offset < r.start + r.count = subst (λ (x : Extent). c.args.offset < x.start + x.count) (sym c.index-extent.ensures) (c.passed-index.ensures.high r lt) in
    inside_left s.unit s.end s.stored s.extents.items s.ordered c.passed-index.result c.args.offset c.passed-index.ensures.low lt r c.index-extent.ensures c.if-offset-extent.false h

pub returns-then-index-len-clause-spot : goal.returns-then-index-len-clause-spot
returns-then-index-len-clause-spot c =
    let s = c.args.self.now in
    none_here s.unit s.end s.stored s.extents.items s.ordered c.passed-index.result c.args.offset c.passed-index.ensures.low (omega arith)

pub returns-then-offset-extent-clause-spot : goal.returns-then-offset-extent-clause-spot
returns-then-offset-extent-clause-spot c =
    let s = c.args.self.now in
    let lt : c.passed-index.result < length s.extents.items = omega arith in
    ahead_here s.unit s.end s.stored s.extents.items s.ordered c.passed-index.result c.args.offset c.passed-index.ensures.low lt c.index-extent.result.now c.index-extent.ensures c.if-offset-extent.true

pub returns-clause-spot : goal.returns-clause-spot
returns-clause-spot c =
    let s = c.args.self.now in
    let r = c.index-extent.result.now in
    let lt : c.passed-index.result < length s.extents.items = omega arith in
    let h : c.args.offset < r.start + r.count = subst (λ (x : Extent). c.args.offset < x.start + x.count) (sym c.index-extent.ensures) (c.passed-index.ensures.high r lt) in
    inside_here s.unit s.end s.stored s.extents.items s.ordered c.passed-index.result c.args.offset c.passed-index.ensures.low lt r c.index-extent.ensures c.if-offset-extent.false h

pub returns-then-offset-extent-clause-next : goal.returns-then-offset-extent-clause-next
returns-then-offset-extent-clause-next c = λ e small.
    let s = c.args.self.now in
    let lt : c.passed-index.result < length s.extents.items = omega arith in
    let next = next_left s.unit s.end s.stored s.extents.items s.ordered c.passed-index.result c.args.offset c.passed-index.ensures.low lt c.index-extent.result.now c.index-extent.ensures c.if-offset-extent.true in
    let r = c.index-extent.result.now in
    let place : r.start ≡ c.args.offset + (r.start - c.args.offset) = omega (arith, c.if-offset-extent.true) in
    (subst (λ (x : ℕ). stores s x ≡ true) place next.0, subst (λ (x : ℕ). x % s.unit ≡ 0) place next.1)
