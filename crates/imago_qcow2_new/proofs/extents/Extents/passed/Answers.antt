-- SPDX-License-Identifier: MIT
use Rattle.std.proofs.Common.{◌≡◌, ℕ, ◌+◌, ◌-◌, ◌/◌, ◌<◌, ◌≤◌, length, drop, get_or, sym, ap, subst, ◌∙◌, arith, add-one}
use Rattle.std.proofs.lemmas.List.{get_or_default}
use Rattle.imago_qcow2_new.specs.declared.extent.Extent.{Extent}
use Rattle.imago_qcow2_new.specs.Extents.{spot}
use Rattle.imago_qcow2_new.proofs.ExtentSteps.{within, skip}
use Rattle.imago_qcow2_new.proofs.extents.Extents.passed.Goals as goal

pub overflow_add-extent : goal.overflow_add-extent
overflow_add-extent c =
    let s = c.args.self.now in
    let r = c.index-extent.result.now in
    let m : ℕ = c.loop-low.low + (c.loop-low.high - c.loop-low.low) / 2 in
    let lt : m < length s.extents.items = omega (arith, c.loop-low-test.true, c.loop-low.invariant.within) in
    let w = within s.unit s.end s.stored 0 0 s.extents.items s.ordered m r lt in
    let e : r ≡ get_or s.extents.items m r = c.index-extent.ensures in
    let f : r.start + r.count ≤ s.end = subst (λ (x : Extent). x.start + x.count ≤ s.end) (sym e) w.0 in
    omega (arith, f)

pub loop-low-preserved-then-extent-offset : goal.loop-low-preserved-then-extent-offset
loop-low-preserved-then-extent-offset c =
    let s = c.args.self.now in
    let r = c.index-extent.result.now in
    let m : ℕ = c.loop-low.low + (c.loop-low.high - c.loop-low.low) / 2 in
    let lt : m < length s.extents.items = omega (arith, c.loop-low-test.true, c.loop-low.invariant.within) in
    let e : r ≡ get_or s.extents.items m r = c.index-extent.ensures in
    let k : r.start + r.count ≤ c.args.offset = c.if-extent-offset.true in
    let g : (get_or s.extents.items m r).start + (get_or s.extents.items m r).count ≤ c.args.offset = subst (λ (x : Extent). x.start + x.count ≤ c.args.offset) e k in
    record {
      order = omega (arith, c.loop-low-test.true);
      within = c.loop-low.invariant.within;
      low = λ q h. ap (λ (n : ℕ). spot s.stored (drop n s.extents.items) q) (add-one m) ∙ skip s.unit s.end s.stored 0 0 s.extents.items s.ordered m r lt q (omega (arith, g, h));
      high = c.loop-low.invariant.high;
    }

pub loop-low-preserved : goal.loop-low-preserved
loop-low-preserved c =
    let s = c.args.self.now in
    let r = c.index-extent.result.now in
    let m : ℕ = c.loop-low.low + (c.loop-low.high - c.loop-low.low) / 2 in
    let lt : m < length s.extents.items = omega (arith, c.loop-low-test.true, c.loop-low.invariant.within) in
    let e : r ≡ get_or s.extents.items m r = c.index-extent.ensures in
    let k : c.args.offset < r.start + r.count = c.if-extent-offset.false in
    record {
      order = omega (arith, c.loop-low-test.true);
      within = omega (arith, lt);
      low = c.loop-low.invariant.low;
      high = λ d h. subst (λ (x : Extent). c.args.offset < x.start + x.count) (e ∙ get_or_default s.extents.items m r d lt) k;
    }

pub returns-clause-high : goal.returns-clause-high
returns-clause-high c = λ d h.
    let e : c.loop-low.low ≡ c.loop-low.high = omega (arith, c.loop-low-test.false, c.loop-low.invariant.order) in
    let s = c.args.self.now in
    subst (λ (n : ℕ). n < length s.extents.items → c.args.offset < (get_or s.extents.items n d).start + (get_or s.extents.items n d).count) (sym e) (c.loop-low.invariant.high d) h
