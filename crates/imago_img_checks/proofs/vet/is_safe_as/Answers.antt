-- SPDX-License-Identifier: MIT
use Rattle.std.proofs.Common.{IfOk, sym, subst}
use Rattle.std.specs.Prelude.{Decides}
use Rattle.imago_images.specs.declared.format.ImageFormat.{ImageFormat}
use Rattle.imago_img_checks.specs.Vetted.{IsSafeAs}
use Rattle.imago_img_checks.proofs.VetSteps.{decides_no}
use Rattle.imago_img_checks.proofs.vet.is_safe_as.Goals as goal

-- no descriptor is safe
pub returns-in_ok-tell_vmdk-in-Vmdk : goal.returns-in_ok-tell_vmdk-in-Vmdk
returns-in_ok-tell_vmdk-in-Vmdk g c = λ bytes has. decides_no (λ safe.
    subst (λ (f : ImageFormat). IsSafeAs c.args.how bytes f) c.in-Vmdk.is safe)

pub returns-in-Qcow2 : goal.returns-in-Qcow2
returns-in-Qcow2 g c = λ bytes has.
    subst (λ (f : ImageFormat). IfOk c.vet_qcow2.result (λ safe. Decides safe (IsSafeAs c.args.how bytes f)))
    (sym c.in-Qcow2.is) (c.vet_qcow2.ensures bytes has)
