-- SPDX-License-Identifier: MIT
use Rattle.std.proofs.Common.{refl}
use Rattle.imago_img_checks.proofs.VetSteps.{decides_no}
use Rattle.imago_img_checks.proofs.VetLaws.{told_not_host, too_long_host}
use Rattle.imago_img_checks.proofs.vet.is_short.Goals as goal

pub returns-in-Ok : goal.returns-in-Ok
returns-in-Ok g c = λ bytes has safe. ((λ is. c.in-Ok.ensures.within bytes has), λ short. refl)

pub returns-in_ok-tell_long-in-Err : goal.returns-in_ok-tell_long-in-Err
returns-in_ok-tell_long-in-Err g c = λ bytes has safe. decides_no (λ short. told_not_host c.in-Err.refused c.in_ok-tell_long-in-Err.ensures
    (too_long_host c.args.how c.args.path.now bytes c.args.format c.in-Err.refused (c.in-Err.ensures.refused bytes has) safe short))
