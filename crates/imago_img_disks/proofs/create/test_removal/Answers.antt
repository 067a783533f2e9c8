-- SPDX-License-Identifier: MIT
use Rattle.std.proofs.Common.{◌∙◌, Option, OnOk, subst, sym}
use Rattle.imago_images.specs.Way.{identity}
use Rattle.imago_words.specs.declared.command.Backing.{Backing}
use Rattle.imago_img_disks.specs.LeftOvers.{IsNoSourceAtBelow, IsNoSourceBelow}
use Rattle.imago_img_disks.proofs.Elsewhere.{no_source_at_below, no_source_below}
use Rattle.imago_img_disks.proofs.create.test_removal.Goals as goal

pub returns-clause-apart : goal.returns-clause-apart
returns-clause-apart g c =
    let known = g.H.Files.contents c.args.host.now in
    let statuses = g.H.Files.statuses c.args.host.now in
    let asked = c.args.asked in
    let tested = c.test_removal_above.result in
    let file = identity c.args.left.now.status in
    subst (λ (o : Option Backing). OnOk tested (IsNoSourceBelow asked o known statuses file)) (sym c.in-Some.is)
    (no_source_below tested asked c.in-Some.below c.deref.result.now c.how_to_open-how.result known statuses file
    (c.deref.ensures ∙ c.in_ok-path.ensures) c.how_to_open-how.ensures c.test_removal_above.ensures.apart)

pub returns-clause-outside : goal.returns-clause-outside
returns-clause-outside g c =
    let host = c.args.host.now in
    let known = g.H.Files.contents host in
    let statuses = g.H.Files.statuses host in
    let around = g.H.Host.around host in
    let asked = c.args.asked in
    let tested = c.test_removal_above.result in
    subst (λ (o : Option Backing). OnOk tested (IsNoSourceAtBelow asked o known statuses around)) (sym c.in-Some.is)
    (no_source_at_below tested asked c.in-Some.below c.deref.result.now c.how_to_open-how.result known statuses around
    (c.deref.ensures ∙ c.in_ok-path.ensures) c.how_to_open-how.ensures c.test_removal_above.ensures.outside)
