-- SPDX-License-Identifier: MIT
use Rattle.imago_img_checks.proofs.VetLaws.{vetted_is_seen}
use Rattle.imago_img_checks.proofs.vet.vetted_is_seen.Goals as goal

pub returns : goal.returns
returns c = vetted_is_seen
