-- SPDX-License-Identifier: MIT
use Rattle.imago_img_checks.proofs.VetSteps.{needed_said}
use Rattle.imago_img_checks.proofs.vet_tables.no_more_is_needed.Goals as goal

pub returns : goal.returns
returns c = needed_said c.args.head.now c.args.file c.args.header c.requires.says c.requires.sound
