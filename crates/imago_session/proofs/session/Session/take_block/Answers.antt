-- SPDX-License-Identifier: MIT
use Rattle.std.proofs.Common.{◌∙◌, length, sym, subst}
use Rattle.std.proofs.lemmas.Result.{err_from_is_err_and}
use Rattle.imago_session.specs.declared.session.State.{State}
use Rattle.imago_session.specs.Opening.{IsStateOf, IsAnswer, IsLedOn, wanted_in}
use Rattle.imago_session.proofs.session.Session.take_block.Goals as goal

pub returns-in_err-self-clause-cause : goal.returns-in_err-self-clause-cause
returns-in_err-self-clause-cause c =
    let s = c.args.self.now in
    let k = length s.above.items in
    let p = err_from_is_err_and c.from_residual-in_err-self.result c.from_residual-in_err-self.ensures.1 in
    let is = sym c.replace.ensures.value ∙ c.in-Loading.is in
    rw (p.1, p.2) (λ files answer of.
    let loading = subst (λ (x : State). IsStateOf s.permitted files k x) is of.1 in
    let given = subst (λ (x : State). IsAnswer files (wanted_in k x) c.args.bytes.now) is answer in
    c.in_err-self.ensures.refused s.permitted (files k) (c.in_ok-found.ensures.agrees (files k) loading (c.in_ok-block.ensures.items ∙ given)))

pub returns-clause-agrees : goal.returns-clause-agrees
returns-clause-agrees c = λ files answer of.
    let s = c.args.self.now in
    let k = length s.above.items in
    let is = sym c.replace.ensures.value ∙ c.in-Loading.is in
    let loading = subst (λ (x : State). IsStateOf s.permitted files k x) is of.1 in
    let given = subst (λ (x : State). IsAnswer files (wanted_in k x) c.args.bytes.now) is answer in
    let found = c.in_ok-found.ensures.agrees (files k) loading (c.in_ok-block.ensures.items ∙ given) in (
      c.in_ok-self.ensures.agrees s.permitted files of.0 found,
      subst (λ (x : State). IsLedOn files x c.in_ok-self.field-0) (sym is) (c.in_ok-self.ensures.first s.permitted files found),
    )
