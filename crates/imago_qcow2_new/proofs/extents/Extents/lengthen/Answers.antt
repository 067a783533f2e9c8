-- SPDX-License-Identifier: MIT
use Rattle.imago_qcow2_new.proofs.StoredSteps.{longer_kept, longer_added, longer_only}
use Rattle.std.proofs.Common.{◌≡◌, ℕ, ◌+◌, ◌≤◌, ◌<◌, suc, length, arith, subst, sym}
use Rattle.imago_qcow2_new.specs.declared.extent.Extent.{Extent}
use Rattle.imago_qcow2_new.proofs.ExtentSteps.{runs_longer, stored_most, within}
use Rattle.imago_qcow2_new.proofs.extents.Extents.lengthen.Goals as goal

pub overflow_add-index_mut : goal.overflow_add-index_mut
overflow_add-index_mut c =
    let s = c.args.self.now in
    let r = c.index_mut.result.now in
    let lt : c.args.last < length s.extents.items = omega (arith, c.requires.last) in
    let w = within s.unit s.end s.stored 0 0 s.extents.items s.ordered c.args.last r lt in
    let f : r.start + r.count ≤ s.end = subst (λ (x : Extent). x.start + x.count ≤ s.end) (sym c.index_mut.ensures.value) w.0 in
    omega (arith, f, c.requires.small)

pub overflow_add-self-2 : goal.overflow_add-self-2
overflow_add-self-2 c =
    let s = c.args.self.now in
    let most : s.stored ≤ s.end = stored_most s.unit s.end s.stored 0 0 s.extents.items s.ordered (omega arith) in
    omega (arith, most, c.requires.small)

pub invariant_of-self : goal.invariant_of-self
invariant_of-self c =
    let s = c.args.self.now in
    let r = c.index_mut.result.now in
    let last : suc c.args.last ≡ length s.extents.items = omega (arith, c.requires.last) in
    let more = runs_longer s.unit s.end s.stored 0 0 s.extents.items s.ordered c.args.last r last c.args.count c.requires.whole in
    record { ordered = rw (← c.index_mut.ensures.value) at more; small = omega (arith, c.requires.small) }

pub returns-clause-more : goal.returns-clause-more
returns-clause-more c =
    let s = c.args.self.now in
    let r = c.index_mut.result.now in
    let last : suc c.args.last ≡ length s.extents.items = omega (arith, c.requires.last) in
    let all : ℕ = s.stored in
    let one : ℕ = s.stored + c.args.count in
    let more : ℕ = c.args.count in
    let value = c.index_mut.ensures.value in
    record {
      kept = λ p st. let x = longer_kept all one s.extents.items c.args.last r last more p st in rw (← value) at x;
      added = λ p h k. let x = longer_added all one s.unit s.end 0 0 s.extents.items s.ordered c.args.last r last more p h k in rw (← value) at x;
      only = λ p st. longer_only all one s.unit s.end 0 0 s.extents.items s.ordered c.args.last r last more p (rw value at st);
    }
