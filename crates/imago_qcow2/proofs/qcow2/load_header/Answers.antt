-- SPDX-License-Identifier: MIT
use Rattle.std.proofs.Common.{rules, ◌≡◌, ◌∙◌, sym, ap, inl, length, Ok, Err}
use Rattle.imago_qcow2.specs.Header.{header_of, IsSound}
use Rattle.imago_qcow2.specs.Tables.{IsHeadRead}
use Rattle.imago_qcow2.proofs.qcow2.load_header.Goals as goal

pub returns-in-Ok-clause-header : goal.returns-in-Ok-clause-header
returns-in-Ok-clause-header g c =
    let F = g.S.Storage.features c.args.storage.now in
    let B = g.S.Storage.bytes c.args.storage.now in
    let x : IsHeadRead F B c.read.new.buf = search rules in
    let says : header_of c.read.new.buf (length B) ≡ Ok c.in-Ok.header = ap (header_of c.read.new.buf) (sym c.requires) ∙ sym c.in-Ok.ensures.header in
    let sound : IsSound c.read.new.buf (length B) c.in-Ok.header = rw (← c.requires) c.in-Ok.ensures.sound in
    record { head = c.read.new.buf; is_head = x; says = says; sound = sound }

pub returns-in-Err-clause-refusals : goal.returns-in-Err-clause-refusals
returns-in-Err-clause-refusals g c =
    let F = g.S.Storage.features c.args.storage.now in
    let B = g.S.Storage.bytes c.args.storage.now in
    let x : IsHeadRead F B c.read.new.buf = search rules in
    inl (c.read.new.buf, x, ap (header_of c.read.new.buf) (sym c.requires) ∙ sym c.in-Err.ensures.header ∙ ap Err (sym c.error.ensures))
