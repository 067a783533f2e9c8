-- SPDX-License-Identifier: MIT
use Rattle.std.proofs.Common.{inl, inr, refl, sym, subst}
use Rattle.imago_storage.specs.declared.error.Error.{Error}
use Rattle.imago_drivers.specs.declared.format.Format.{Format}
use Rattle.imago_session.specs.Refusals.{IsFaultOrMemory}
use Rattle.imago_session.proofs.ReadSteps.{if_err_more}
use Rattle.imago_session.proofs.layer.load_as.Goals as goal

pub returns-in-Raw-clause-refused : goal.returns-in-Raw-clause-refused
returns-in-Raw-clause-refused c = if_err_more c.load_raw.result _ _ c.load_raw.ensures.memory (λ e memory bytes part known. inl memory)

pub returns-in-Vmdk-clause-refused : goal.returns-in-Vmdk-clause-refused
returns-in-Vmdk-clause-refused c = if_err_more c.load_vmdk.result _ _ c.load_vmdk.ensures.refused
    (λ e h bytes part known. subst (λ (f : Format). IsFaultOrMemory c.args.permitted bytes f e) (sym c.in-Vmdk.is) (h bytes part))

pub returns-in-Qcow2-clause-refused : goal.returns-in-Qcow2-clause-refused
returns-in-Qcow2-clause-refused c = if_err_more c.load_qcow2.result _ _ c.load_qcow2.ensures.refused
    (λ e h bytes part known. subst (λ (f : Format). IsFaultOrMemory c.args.permitted bytes f e) (sym c.in-Qcow2.is) (h bytes part known))

pub returns-in-Cow-clause-refused : goal.returns-in-Cow-clause-refused
returns-in-Cow-clause-refused c = λ bytes part known. subst (λ (f : Format). IsFaultOrMemory c.args.permitted bytes f Error.Unsupported) (sym c.in-Cow.is) (inr refl)
