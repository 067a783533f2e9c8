-- SPDX-License-Identifier: MIT
use Rattle.std.proofs.Common.{IfSome, option_copied}
use Rattle.imago_images.specs.Way.{identity}
use Rattle.imago_img_disks.specs.LeftOvers.{IsElsewhere, IsElsewhereIn}
use Rattle.imago_img_disks.proofs.unfinished.chain_leads_to.Given as goal

abbrev pub invariant-loop-layer : goal.invariant-loop-layer
invariant-loop-layer g l =
    IfSome (g.H.Files.statuses l.host) (λ status_of.
    IsElsewhereIn g.D.FormatDriverInstance.view status_of (identity l.file) (option_copied l.layer)
    → IsElsewhere g.D.FormatDriverInstance.view status_of (identity l.file) l.image)
