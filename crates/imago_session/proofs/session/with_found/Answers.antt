-- SPDX-License-Identifier: MIT
use Rattle.std.proofs.Common.{subst}
use Rattle.imago_session.specs.declared.layer.Found.{Found}
use Rattle.imago_session.specs.Found.{IsFoundOf}
use Rattle.imago_session.proofs.ReadSteps.{if_err_more}
use Rattle.imago_session.proofs.session.with_found.Goals as goal

pub returns-in-Layer-clause-refused : goal.returns-in-Layer-clause-refused
returns-in-Layer-clause-refused c = if_err_more c.with_layer.result _ _ c.with_layer.ensures.refused
    (λ e h permitted f of. h permitted f (subst (λ (x : Found). IsFoundOf permitted f x) c.in-Layer.is of).0)
