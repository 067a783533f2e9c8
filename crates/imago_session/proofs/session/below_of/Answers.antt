-- SPDX-License-Identifier: MIT
use Rattle.std.proofs.Common.{sym, subst}
use Rattle.imago_session.specs.Files.{Layer}
use Rattle.imago_session.proofs.ReadSteps.{if_err_more}
use Rattle.imago_session.proofs.RefusalSteps.{IsBelowRefused, below_cause}
use Rattle.imago_session.proofs.session.below_of.Goals as goal

pub returns-in-Qcow2-clause-refused : goal.returns-in-Qcow2-clause-refused
returns-in-Qcow2-clause-refused c = if_err_more c.below_qcow2.result _ _ c.below_qcow2.ensures.refused
    (λ e h permitted f of. below_cause permitted f c.args.layer.now e of (subst (λ (d : Layer). IsBelowRefused d f.bytes e) (sym c.in-Qcow2.is) (h f.bytes)))
