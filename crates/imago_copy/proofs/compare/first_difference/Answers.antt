-- SPDX-License-Identifier: MIT
use Rattle.std.proofs.Common.{arith, ◌≤◌, ◌≡◌, ◌-◌, ◌∙◌, None, ℕ, sym, refl, subst}
use Rattle.std.proofs.lemmas.Bool.{and_parts}
use Rattle.imago_access.specs.declared.access.FormatAccess.{FormatAccess}
use Rattle.imago_copy.specs.Compared.{IsZeroIn}
use Rattle.imago_access.specs.Chain.{driver}
use Rattle.std.proofs.lemmas.Grind.{common_steps}
use Rattle.imago_access.specs.Disk.{disk}
use Rattle.imago_copy.specs.RestOf.{disk_of, end_of}
use Rattle.imago_copy.proofs.Compared.{all_same, same_further, same_zeroes, found_none, found_some, none_of}
use Rattle.imago_copy.proofs.RestSteps.{further}
use Rattle.imago_copy.proofs.compare.first_difference.Goals as goal

pub returns : goal.returns
returns g c = λ left right.
    let one : (g.D.FormatDriverInstance.view (driver c.args.left.now)).size ≤ c.loop-at.at = omega (arith, c.loop-at-test.false, c.size.ensures, c.size-2.ensures, c.max-size.ensures) in
    let two : (g.E.FormatDriverInstance.view (driver c.args.right.now)).size ≤ c.loop-at.at = omega (arith, c.loop-at-test.false, c.size.ensures, c.size-2.ensures, c.max-size.ensures) in
    all_same g.D.FormatDriverInstance.view g.E.FormatDriverInstance.view c.args.left.now c.args.right.now c.loop-at.at one two (c.loop-at.invariant.same left right)

pub loop-at-preserved-else-is_some : goal.loop-at-preserved-else-is_some
loop-at-preserved-else-is_some g c =
    let l = c.loop-at in
    let i = l.invariant in
    let e = c.in_ok-found.ensures in
    let here = c.in_ok-here.ensures in
    let there = c.in_ok-there.ensures in
    let end : ℕ = c.min-end-then-not-are_zero.result in
    let left = disk g.D.FormatDriverInstance.view c.args.left.now in
    let right = disk g.E.FormatDriverInstance.view c.args.right.now in
    let none : c.in_ok-found.found ≡ None = none_of c.in_ok-found.found (sym c.is_some.ensures ∙ c.if-is_some.false) in
    let size : end ≤ c.max-size.result = omega (arith, c.min-end-then-not-are_zero.ensures, c.min-end.ensures) in
    let one : end ≤ end_of c.part.new.self = omega (arith, c.min-end-then-not-are_zero.ensures, c.min-end.ensures, c.min.ensures, here.within) in
    let other : end ≤ end_of c.part-in-loop-at.new.self = omega (arith, c.min-end-then-not-are_zero.ensures, c.min-end.ensures, c.min.ensures, there.within) in
    let at_least : l.at ≤ end = omega (arith, c.min-end-then-not-are_zero.ensures, c.min-end.ensures, c.min.ensures, here.some, there.some, c.loop-at-test.true) in
    let one_part = further g.D.FormatDriverInstance.view l.at end c.part.new.self c.unequal.new.left e.left e.left_end e.left_part at_least one in
    let other_part = further g.E.FormatDriverInstance.view l.at end c.part-in-loop-at.new.self c.unequal.new.right e.right e.right_end e.right_part at_least other in
    record {
      within = size;
      one = e.left ∙ here.disk ∙ i.one;
      other = e.right ∙ there.disk ∙ i.other;
      one_part = one_part;
      other_part = other_part;
      same = λ told told_other.
          same_further left right l.at (end - l.at) end (i.same told told_other)
          (found_none g.D.FormatDriverInstance.view g.E.FormatDriverInstance.view c.args.left.now c.args.right.now (disk_of c.part.new.self) (disk_of c.part-in-loop-at.new.self) l.at (end - l.at) _ c.unequal.result c.in_ok-found.found (here.disk ∙ i.one) (there.disk ∙ i.other) c.in_ok-found.was none c.unequal.ensures.found (grind (arith, common_steps)) told told_other)
          (omega arith);
    }

pub returns-then-is_some : goal.returns-then-is_some
returns-then-is_some g c =
    let l = c.loop-at in
    let i = l.invariant in
    found_some g.D.FormatDriverInstance.view g.E.FormatDriverInstance.view c.args.left.now c.args.right.now (disk_of c.part.new.self) (disk_of c.part-in-loop-at.new.self) l.at _ c.unequal.result c.in_ok-found.found
    (c.in_ok-here.ensures.disk ∙ i.one) (c.in_ok-there.ensures.disk ∙ i.other) c.in_ok-found.was (sym c.is_some.ensures ∙ c.if-is_some.true) c.unequal.ensures.found i.same

pub loop-at-preserved : goal.loop-at-preserved
loop-at-preserved g c =
    let l = c.loop-at in
    let i = l.invariant in
    let here = c.in_ok-here.ensures in
    let there = c.in_ok-there.ensures in
    let end : ℕ = c.min-end.result in
    let x = c.args.left.now in
    let y = c.args.right.now in
    let left = disk g.D.FormatDriverInstance.view x in
    let right = disk g.E.FormatDriverInstance.view y in
    let both = and_parts c.in_ok-here.here.is_zero c.in_ok-there.there.is_zero (sym c.are_zero.ensures ∙ c.if-not-are_zero.false) in
    let to_here : end ≤ c.in_ok-here.here.end = omega (arith, c.min-end.ensures, c.min.ensures) in
    let to_there : end ≤ c.in_ok-there.there.end = omega (arith, c.min-end.ensures, c.min.ensures) in
    let one : end ≤ end_of c.part.new.self = omega (arith, to_here, here.within) in
    let other : end ≤ end_of c.part-in-loop-at.new.self = omega (arith, to_there, there.within) in
    let at_least : l.at ≤ end = omega (arith, c.min-end.ensures, c.min.ensures, here.some, there.some, c.loop-at-test.true) in
    let size : end ≤ c.max-size.result = omega (arith, c.min-end.ensures) in
    record {
      within = size;
      one = here.disk ∙ i.one;
      other = there.disk ∙ i.other;
      one_part = further g.D.FormatDriverInstance.view l.at end c.part.new.self c.part.new.self refl refl here.rest at_least one;
      other_part = further g.E.FormatDriverInstance.view l.at end c.part-in-loop-at.new.self c.part-in-loop-at.new.self refl refl there.rest at_least other;
      same = λ told told_other.
          same_zeroes left right l.at c.in_ok-here.here.end c.in_ok-there.there.end end (i.same told told_other)
          (subst (λ (z : FormatAccess _). IsZeroIn (disk g.D.FormatDriverInstance.view z) l.at c.in_ok-here.here.end) (here.disk ∙ i.one) (here.zero both.0))
          (subst (λ (z : FormatAccess _). IsZeroIn (disk g.E.FormatDriverInstance.view z) l.at c.in_ok-there.there.end) (there.disk ∙ i.other) (there.zero both.1))
          to_here to_there;
    }
