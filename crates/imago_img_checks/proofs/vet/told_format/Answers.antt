-- SPDX-License-Identifier: MIT
use Rattle.imago_img_checks.proofs.VetLaws.{told_not_host, unknown_host}
use Rattle.imago_img_checks.proofs.vet.told_format.Goals as goal

pub returns-in_ok-refuse-in-Err-clause-untold : goal.returns-in_ok-refuse-in-Err-clause-untold
returns-in_ok-refuse-in-Err-clause-untold g c = λ bytes has none format is. told_not_host c.in-Err.refused c.in_ok-refuse-in-Err.ensures
    (unknown_host c.args.said c.args.path.now bytes c.in-Err.refused (c.in-Err.ensures.refused bytes has) format is)
