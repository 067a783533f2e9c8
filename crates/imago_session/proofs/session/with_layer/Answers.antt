-- SPDX-License-Identifier: MIT
use Rattle.std.proofs.Common.{◌≡◌, ◌+◌, ◌-◌, ◌∙◌, ◌∷◌, [], ℕ, List, Option, length, length-append, sym, ap, subst, arith}
use Rattle.std.specs.Prelude.{MatchOption}
use Rattle.imago_session.specs.declared.session.Named.{Named}
use Rattle.imago_session.specs.Files.{Layer, AreAbove, GoesDown, IsLowest, backing_name}
use Rattle.imago_session.proofs.LaidSteps.{above_more}
use Rattle.imago_session.proofs.ReadSteps.{passed_on}
use Rattle.std.proofs.Common.{inl}
use Rattle.std.proofs.lemmas.Result.{err_from_is_err_and}
use Rattle.imago_session.proofs.session.with_layer.Goals as goal

pub returns-in_err-below_of-clause-refused : goal.returns-in_err-below_of-clause-refused
returns-in_err-below_of-clause-refused c =
    let p = err_from_is_err_and c.from_residual.result c.from_residual.ensures.1 in
    passed_on c.from_residual.result _ _ _ p.1 p.2 (λ permitted f of. inl (c.in_err-below_of.ensures.refused permitted f of))

pub returns-in_ok-image-in-None-clause-agrees : goal.returns-in_ok-image-in-None-clause-agrees
returns-in_ok-image-in-None-clause-agrees c = λ permitted files are own names.
    let k = length c.args.above.now.items in
    let low = subst (λ (o : Option Named). MatchOption o (IsLowest c.args.layer (files k).bytes) (λ (n : Named). GoesDown c.args.layer (files k).bytes × (n.name.items ≡ backing_name (files k).bytes))) c.in-None.is (c.in_ok-below_of.ensures.named permitted (files k) own) in
    let chained = c.in_ok-image-in-None.ensures in
    let number = c.len-number.ensures in
    let whole = c.args.above.now.ok.0 in
    let count = chained.count in (
      subst (λ (xs : List Layer). AreAbove permitted files xs) (sym chained.all) tt,
      c.with_extents.ensures.agrees permitted files (length c.chain.new.above.items) (chained.layers permitted files are own low) (names ∙ sym (chained.names files)) (omega (arith, number, whole, count)),
    )

pub returns-in_ok-push-in-Some-clause-agrees : goal.returns-in_ok-push-in-Some-clause-agrees
returns-in_ok-push-in-Some-clause-agrees c = λ permitted files are own names.
    let ds = c.args.above.now.items in
    let k = length ds in
    let some = subst (λ (o : Option Named). MatchOption o (IsLowest c.args.layer (files k).bytes) (λ (n : Named). GoesDown c.args.layer (files k).bytes × (n.name.items ≡ backing_name (files k).bytes))) c.in-Some.is (c.in_ok-below_of.ensures.named permitted (files k) own) in
    let items = c.in_ok-push-in-Some.ensures.items in
    let more : length c.push.new.self.items ≡ k + 1 = ap length items ∙ length-append ds (c.args.layer ∷ []) in
    let last : k ≡ length c.push.new.self.items - 1 = omega (arith, more) in (
      subst (λ (xs : List Layer). AreAbove permitted files xs) (sym items) (above_more permitted files ds c.args.layer are own some.0),
      some.1 ∙ ap (λ (n : ℕ). backing_name (files n).bytes) last,
    )
