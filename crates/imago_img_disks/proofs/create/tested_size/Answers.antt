-- SPDX-License-Identifier: MIT
use Rattle.std.proofs.Common.{ℕ, IfSome, subst, sym}
use Rattle.imago_img_disks.specs.NewFiles.{IsSizeBy}
use Rattle.imago_img_disks.proofs.NewFiles.{sized_by, above_image, planned_so}
use Rattle.imago_img_disks.proofs.create.tested_size.Goals as goal

pub returns-clause-size : goal.returns-clause-size
returns-clause-size g c =
    let known = g.H.Files.contents c.args.host.now in
    let asked = c.args.asked in
    planned_so asked c.unwrap_or.result known
    (subst (λ (n : ℕ). IfSome known (λ files. IsSizeBy asked asked.size files n)) (sym c.unwrap_or.ensures)
    (sized_by asked asked.size c.in_ok-below.below known c.in_ok-below.ensures.size))
    (above_image asked asked.backing c.in_ok-below.below known c.in_ok-below.ensures.size)
