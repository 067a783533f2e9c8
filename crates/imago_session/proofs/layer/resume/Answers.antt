-- SPDX-License-Identifier: MIT
use Rattle.std.proofs.Common.{◌∙◌, sym}
use Rattle.imago_session.proofs.ReadSteps.{if_ok_more, if_err_more}
use Rattle.imago_session.proofs.KnownSteps.{known_kept, block_given}
use Rattle.imago_session.proofs.layer.resume.Goals as goal

pub returns-clause-agrees : goal.returns-clause-agrees
returns-clause-agrees c =
    let l = c.args.loading in
    let put = c.in_ok-put_block.ensures in
    let keeps = put.loaded.keeps in
    if_ok_more c.load.result _ _ c.load.ensures.agrees (λ r h f of given.
    h f (put.bytes f.bytes (block_given f.bytes l c.args.block.items given of.0.1) of.0.0, of.0.1 ∙ sym keeps.len)
    (known_kept c.args.permitted.tables f.bytes l.file c.put_block.new.self l.tables keeps of.2) of.1)

pub returns-clause-refused : goal.returns-clause-refused
returns-clause-refused c =
    let l = c.args.loading in
    let put = c.in_ok-put_block.ensures in
    let keeps = put.loaded.keeps in
    if_err_more c.load.result _ _ c.load.ensures.refused (λ e h f of given.
    h f (put.bytes f.bytes (block_given f.bytes l c.args.block.items given of.0.1) of.0.0, of.0.1 ∙ sym keeps.len)
    (known_kept c.args.permitted.tables f.bytes l.file c.put_block.new.self l.tables keeps of.2) of.1)
