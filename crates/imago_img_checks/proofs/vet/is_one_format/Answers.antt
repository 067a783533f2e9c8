-- SPDX-License-Identifier: MIT
use Rattle.std.proofs.Common.{refl}
use Rattle.imago_images.specs.declared.opening.OtherFiles.TheVariants as Others
use Rattle.imago_img_checks.proofs.VetSteps.{decides_no}
use Rattle.imago_img_checks.proofs.VetLaws.{told_not_host, another_host}
use Rattle.imago_img_checks.proofs.vet.is_one_format.Goals as goal

pub returns-in-Ok : goal.returns-in-Ok
returns-in-Ok g c = λ bytes has. ((λ is. c.in-Ok.ensures.one bytes has), λ one. refl)

pub returns-in_ok-refuse-in-Err : goal.returns-in_ok-refuse-in-Err
returns-in_ok-refuse-in-Err g c = λ bytes has. decides_no (λ one. told_not_host c.in-Err.refused c.in_ok-refuse-in-Err.ensures
    (another_host Others.None c.args.said c.args.path.now bytes c.in-Err.refused (c.in-Err.ensures.refused bytes has) one))
