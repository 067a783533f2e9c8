-- SPDX-License-Identifier: MIT
use Rattle.std.proofs.Common.{ℕ, ◌+◌, ◌≤◌, arith, refl}
use Rattle.imago_qcow2_new.specs.declared.extent.Extent.{Extent}
use Rattle.imago_qcow2_new.proofs.StoredSteps.{more_kept, more_added, more_only}
use Rattle.imago_qcow2_new.proofs.ExtentSteps.{runs_more, stored_most}
use Rattle.imago_qcow2_new.proofs.extents.Extents.add.Goals as goal

pub overflow_add-self-2 : goal.overflow_add-self-2
overflow_add-self-2 c =
    let s = c.args.self.now in
    let most : s.stored ≤ s.end = stored_most s.unit s.end s.stored 0 0 s.extents.items s.ordered (omega arith) in
    omega (arith, most, c.requires.behind, c.requires.small)

pub invariant_of-self-2 : goal.invariant_of-self-2
invariant_of-self-2 c =
    let s = c.args.self.now in
    let more = runs_more s.unit s.end s.stored 0 0 s.extents.items s.ordered (record { start = c.args.start; count = c.args.count; before = s.stored })
    (c.requires.behind, (c.requires.some, (refl, (c.requires.start_whole, c.requires.whole)))) in
    record { ordered = rw c.in_ok-push.ensures.items more; small = omega (arith, c.requires.small) }

pub returns-clause-more : goal.returns-clause-more
returns-clause-more c =
    let s = c.args.self.now in
    let all : ℕ = s.stored in
    let one : ℕ = s.stored + c.args.count in
    let r : Extent = record { start = c.args.start; count = c.args.count; before = s.stored } in
    let items = c.in_ok-push.ensures.items in
    record {
      kept = λ p st. rw items (more_kept all one s.extents.items r p st);
      added = λ p h k. rw items (more_added all one s.unit s.end 0 0 s.extents.items s.ordered r c.requires.behind p h k);
      only = λ p st. more_only all one s.extents.items r p (rw items at st);
    }
