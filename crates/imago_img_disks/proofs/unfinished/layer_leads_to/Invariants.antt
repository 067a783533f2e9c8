-- SPDX-License-Identifier: MIT
use Rattle.std.proofs.Common.{IfSome}
use Rattle.imago_images.specs.Way.{identity}
use Rattle.imago_img_disks.proofs.Elsewhere.{AreElsewhereTo}
use Rattle.imago_img_disks.proofs.unfinished.layer_leads_to.Given as goal

abbrev pub invariant-loop-index : goal.invariant-loop-index
invariant-loop-index g l =
    IfSome (g.H.Files.statuses l.host) (λ status_of.
    AreElsewhereTo (g.D.FormatDriverInstance.view l.driver).stores status_of (identity l.file) l.index)
