-- SPDX-License-Identifier: MIT
use Rattle.std.proofs.Common.{arith, ◌≡◌, ◌+◌, ◌≤◌, ℕ, sym, ◌∙◌, inl, inr, refl, subst}
use Rattle.imago_access.specs.declared.access.FormatAccess.{FormatAccess}
use Rattle.imago_access.specs.Chain.{driver, disk_value}
use Rattle.imago_access.specs.Target.{target}
use Rattle.imago_copy.specs.Runs.{IsRunAt}
use Rattle.imago_copy.specs.RunsOf.{image_of, at_of}
use Rattle.imago_copy.specs.Ends.{AreZeroBehind}
use Rattle.imago_copy.specs.RestOf.{IsAtHand}
use Rattle.imago_copy.proofs.Copies.{next_is, next_ends}
use Rattle.imago_copy.proofs.Compared.{zero_tail, zero_end, ends_at}
use Rattle.imago_copy.proofs.compare.Rest.reach.Goals as goal

pub returns-in-Some-clause-part : goal.returns-in-Some-clause-part
returns-in-Some-clause-part g c =
    let view = g.D.FormatDriverInstance.view in
    let old = c.args.self.now.runs in
    let new = c.next_run.new.self in
    let run = c.in-Some.run' in
    let x = image_of new in
    let part = c.requires.part in
    let same : image_of old ≡ x = sym c.in_ok-next.ensures.same in
    let at : at_of old ≡ c.args.at = ends_at c.args.at c.args.self.now.end (at_of old) part.1 part.2 c.if-at-self.false c.requires.inside in
    let next = next_is view (image_of old) x (at_of old) (at_of new) c.in_ok-next.next run same c.in-Some.is c.in_ok-next.ensures.run in
    let end : run.at + run.count ≡ at_of new = omega (arith, next.0.0, next.1) in
    let inside : run.at + run.count ≤ at_of new = omega (arith, end) in
    let zero : AreZeroBehind (disk_value view x) run.at c.data_count.result run.count =
    subst (λ (y : FormatAccess _). AreZeroBehind (disk_value view y) run.at c.data_count.result run.count) c.image.ensures c.data_count.ensures.zero in
    let here : IsRunAt (target view x) run.at run = subst (λ (p : ℕ). IsRunAt (target view x) p run) (sym next.0.0) next.0 in
    let begins : run.at ≤ c.args.at = omega (arith, next.0.0, at) in
    let within : run.at + run.count ≤ (view (driver x)).size = omega (arith, end, next.2) in (
      c.in_ok-next.ensures.ready,
      inl end,
      omega (arith, next.0.0, at),
      omega (arith, c.data_count.ensures.within),
      zero_tail view x run.at c.data_count.result run.count (at_of new) zero inside next.2,
      part.5,
      part.6 ∙ same,
      subst (IsAtHand view x c.args.at (run.at + run.count)) (sym c.in-Some.is) (here, begins, refl, within),
    )

pub returns-in-None-clause-part : goal.returns-in-None-clause-part
returns-in-None-clause-part g c =
    let view = g.D.FormatDriverInstance.view in
    let old = c.args.self.now.runs in
    let new = c.next_run.new.self in
    let x = image_of new in
    let part = c.requires.part in
    let same : image_of old ≡ x = sym c.in_ok-next.ensures.same in
    let at : at_of old ≡ c.args.at = ends_at c.args.at c.args.self.now.end (at_of old) part.1 part.2 c.if-at-self.false c.requires.inside in
    let ended : (view (driver x)).size ≤ at_of old = next_ends view (image_of old) x (at_of old) (at_of new) c.in_ok-next.next same c.in-None.is c.in_ok-next.ensures.run in
    let here : (view (driver x)).size ≤ c.args.at = omega (arith, ended, at) in
    let within : c.args.at ≤ 18446744073709551615 = omega (arith, c.requires.inside) in
    (c.in_ok-next.ensures.ready, inr refl, within, within, zero_end view x c.args.at 18446744073709551615 here, part.5, part.6 ∙ same, subst (IsAtHand view x c.args.at 18446744073709551615) (sym c.in-None.is) tt)
