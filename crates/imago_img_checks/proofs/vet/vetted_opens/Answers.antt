-- SPDX-License-Identifier: MIT
use Rattle.imago_img_checks.proofs.VetLaws.{vetted_opens}
use Rattle.imago_img_checks.proofs.vet.vetted_opens.Goals as goal

pub returns : goal.returns
returns c = vetted_opens
