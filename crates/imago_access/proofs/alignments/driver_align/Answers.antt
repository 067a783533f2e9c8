-- SPDX-License-Identifier: MIT
use Rattle.imago_access.specs.Alignments.{align_of}
use Rattle.imago_access.proofs.Greatest.{no_storage, next_storage}
use Rattle.imago_access.proofs.alignments.driver_align.Goals as goal

pub loop-index-init : goal.loop-index-init
loop-index-init g c = no_storage (align_of c.args.which) (g.D.FormatDriverInstance.view c.args.driver.now).stores.features

pub loop-index-preserved : goal.loop-index-preserved
loop-index-preserved g c =
    let l = c.loop-index in
    rw (c.max-greatest.ensures, c.storage_align.ensures) (next_storage (align_of c.args.which) (g.D.FormatDriverInstance.view c.args.driver.now).stores.features l.index l.greatest l.invariant)
