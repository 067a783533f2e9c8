-- SPDX-License-Identifier: MIT
use Rattle.imago_img_disks.proofs.Opened.{given}
use Rattle.imago_img_checks.proofs.VetLaws.{opened_vetted}
use Rattle.imago_img_disks.proofs.image.opened.Goals as goal

pub returns-clause-format : goal.returns-clause-format
returns-clause-format g c =
    given c.open.result c.or_not_opened.result _ c.open.ensures.format c.or_not_opened.ensures.given

pub returns-clause-image : goal.returns-clause-image
returns-clause-image g c =
    given c.open.result c.or_not_opened.result _ c.open.ensures.image c.or_not_opened.ensures.given

pub returns-clause-vetted : goal.returns-clause-vetted
returns-clause-vetted g c = λ none.
    opened_vetted (g.H.Files.contents c.args.host.now) (g.H.Files.statuses c.args.host.now)
    (g.H.Files.real_paths c.args.host.now) c.args.how c.args.path.now c.open.result c.or_not_opened.result none
    c.open.ensures.refused c.or_not_opened.ensures.given c.or_not_opened.ensures.refused
