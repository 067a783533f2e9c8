-- SPDX-License-Identifier: MIT
use Rattle.std.proofs.Common.{List, length, ap, sym, subst}
use Rattle.std.proofs.lemmas.Result.{err_from_is_err_and}
use Rattle.imago_session.proofs.ReadSteps.{passed_on}
use Rattle.imago_session.proofs.RefusalSteps.{first_cause}
use Rattle.imago_session.specs.Files.{Layer, AreAbove}
use Rattle.imago_session.specs.Found.{IsFoundOf}
use Rattle.imago_session.proofs.session.Session.within.Goals as goal

pub returns-clause-agrees : goal.returns-clause-agrees
returns-clause-agrees c = λ files len says.
    let none = sym c.new-above.ensures.items in
    let found = subst (λ (xs : List Layer). IsFoundOf c.args.permitted (files (length xs)) c.in_ok-found.found) none (c.in_ok-found.ensures.agrees (files 0) len says) in (
      c.in_ok-state.ensures.agrees c.args.permitted files (subst (λ (xs : List Layer). AreAbove c.args.permitted files xs) none tt) found,
      c.in_ok-state.ensures.first c.args.permitted files found,
    )

pub returns-in_err-state-clause-refused : goal.returns-in_err-state-clause-refused
returns-in_err-state-clause-refused c =
    let p = err_from_is_err_and c.from_residual-in_err-state.result c.from_residual-in_err-state.ensures.1 in
    passed_on c.from_residual-in_err-state.result _ _ _ p.1 p.2 (λ f len says.
    first_cause c.args.permitted (length c.new-above.result.items) f c.in_err-state.field-0.0 (ap length c.new-above.ensures.items)
    (c.in_err-state.ensures.refused c.args.permitted f (c.in_ok-found.ensures.agrees f len says)))
