-- SPDX-License-Identifier: MIT
use Rattle.std.proofs.Common.{◌∙◌, length, sym, subst}
use Rattle.imago_session.specs.declared.session.State.{State}
use Rattle.std.proofs.lemmas.Result.{err_from_is_err_and}
use Rattle.imago_session.specs.Opening.{IsStateOf, IsFileAnswer, IsLedOn, wanted_in}
use Rattle.imago_session.proofs.session.Session.give_file.Goals as goal

pub returns-in-Extents-clause-agrees : goal.returns-in-Extents-clause-agrees
returns-in-Extents-clause-agrees c = λ files answer of.
    let s = c.args.self.now in
    let k = length s.above.items in
    let is = sym c.replace.ensures.value ∙ c.in-Extents.is in (
      (of.0, c.after_extent.ensures.agrees s.permitted files k (subst (λ (x : State). IsStateOf s.permitted files k x) is of.1)),
      subst (λ (x : State). IsLedOn files x c.after_extent.result) (sym is) c.after_extent.ensures.next,
    )

pub returns-in_ok-self-in-Below-clause-agrees : goal.returns-in_ok-self-in-Below-clause-agrees
returns-in_ok-self-in-Below-clause-agrees c = λ files answer of.
    let s = c.args.self.now in
    let k = length s.above.items in
    let is = sym c.replace.ensures.value ∙ c.in-Below.is in
    let given = subst (λ (x : State). IsFileAnswer files (wanted_in k x) c.args.count c.args.format) is answer in
    let found = c.in_ok-found-in-Below.ensures.agrees (files k) given.0 given.1 in (
      c.in_ok-self-in-Below.ensures.agrees s.permitted files of.0 found,
      subst (λ (x : State). IsLedOn files x c.in_ok-self-in-Below.field-0) (sym is) (c.in_ok-self-in-Below.ensures.first s.permitted files found),
    )

pub returns-in_err-self-in-Below-clause-cause : goal.returns-in_err-self-in-Below-clause-cause
returns-in_err-self-in-Below-clause-cause c =
    let s = c.args.self.now in
    let k = length s.above.items in
    let p = err_from_is_err_and c.from_residual-in_err-self-in-Below.result c.from_residual-in_err-self-in-Below.ensures.1 in
    let is = sym c.replace.ensures.value ∙ c.in-Below.is in
    rw (p.1, p.2) (λ files answer of.
    let given = subst (λ (x : State). IsFileAnswer files (wanted_in k x) c.args.count c.args.format) is answer in
    c.in_err-self-in-Below.ensures.refused s.permitted (files k) (c.in_ok-found-in-Below.ensures.agrees (files k) given.0 given.1))
