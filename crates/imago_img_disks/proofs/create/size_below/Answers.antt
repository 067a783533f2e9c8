-- SPDX-License-Identifier: MIT
use Rattle.std.proofs.Common.{◌∙◌, IfSome, Option, subst, sym}
use Rattle.std.specs.Prelude.{IfOk, OnOk}
use Rattle.imago_words.specs.declared.command.Backing.{Backing}
use Rattle.imago_img_disks.specs.NewFiles.{IsSizeBelow}
use Rattle.imago_img_disks.specs.LeftOvers.{IsNoSourceAtBelow}
use Rattle.imago_img_disks.proofs.Elsewhere.{no_source_at_below}
use Rattle.imago_img_disks.proofs.NewFiles.{below_sized}
use Rattle.imago_img_disks.proofs.create.size_below.Goals as goal

pub returns-clause-size : goal.returns-clause-size
returns-clause-size g c =
    let known = g.H.Files.contents c.args.host.now in
    let asked = c.args.asked in
    let size = c.size_at.result in
    subst (λ (o : Option Backing). IfOk size (λ n. IfSome known (λ files. IsSizeBelow asked o files n))) (sym c.in-Some.is)
    (below_sized asked c.in-Some.below c.deref.result.now c.how_to_open-how.result known size
    (c.deref.ensures ∙ c.in_ok-path.ensures) c.how_to_open-how.ensures c.size_at.ensures.size)

pub returns-clause-outside : goal.returns-clause-outside
returns-clause-outside g c =
    let host = c.args.host.now in
    let known = g.H.Files.contents host in
    let statuses = g.H.Files.statuses host in
    let around = g.H.Host.around host in
    let asked = c.args.asked in
    let tested = c.size_at.result in
    subst (λ (o : Option Backing). OnOk tested (IsNoSourceAtBelow asked o known statuses around)) (sym c.in-Some.is)
    (no_source_at_below tested asked c.in-Some.below c.deref.result.now c.how_to_open-how.result known statuses around
    (c.deref.ensures ∙ c.in_ok-path.ensures) c.how_to_open-how.ensures c.size_at.ensures.outside)
