-- SPDX-License-Identifier: MIT
use Rattle.std.proofs.Common.{ℕ, List, Option, sym, subst}
use Rattle.std.proofs.lemmas.Result.{err_from_is_err_and}
use Rattle.imago_drivers.specs.declared.format.Format.{Format}
use Rattle.imago_session.specs.declared.block.Step.{Step}
use Rattle.imago_session.specs.Blocks.{IsPartOf}
use Rattle.imago_session.specs.Files.{IsFormatBy}
use Rattle.imago_session.specs.Steps.{IfReady}
use Rattle.imago_session.proofs.ReadSteps.{if_err_more, passed_on}
use Rattle.imago_session.proofs.RefusalSteps.{cause_of, foreign_cause}
use Rattle.imago_session.proofs.layer.load.Goals as goal

pub returns-in_err-number-clause-refused : goal.returns-in_err-number-clause-refused
returns-in_err-number-clause-refused c =
    let p = err_from_is_err_and c.from_residual.result c.from_residual.ensures.1 in
    passed_on c.from_residual.result _ _ _ p.1 p.2 (λ f part known says.
    foreign_cause c.args.permitted f c.args.format _ says (c.in_err-number.ensures.refused f.bytes part))

pub returns-in-Ready-clause-refused : goal.returns-in-Ready-clause-refused
returns-in-Ready-clause-refused c =
    let file = c.args.file in
    let taken = c.in-Ready.taken in
    let ready = subst (λ (s : Step Format). IfReady (λ (x : Format). (bytes : List ℕ) → IsPartOf bytes file → IsFormatBy c.args.format bytes x) s) c.in-Ready.is c.in_ok-number.ensures.ready in
    if_err_more c.load_as.result _ _ c.load_as.ensures.refused (λ e h f part known says.
    cause_of c.args.permitted f taken e (subst (λ (o : Option Format). IsFormatBy o f.bytes taken) (sym says) (ready f.bytes part)) (h f.bytes part known))
