-- SPDX-License-Identifier: MIT
use Rattle.std.proofs.Common.{◌/◌, []}
use Rattle.imago_cow.specs.TableView.{entries_of}
use Rattle.imago_cow.proofs.CommitSteps.{set_entered, in_disk, committed, commit_reaches, commit_framed, commit_settled, commit_outside}
use Rattle.imago_cow.proofs.commit.enter_waiting.Goals as goal

pub enter-requires-clause-within : goal.enter-requires-clause-within
enter-requires-clause-within c = rw c.number.ensures (in_disk c.args.size c.args.block.length _ _ c.args.waiting c.requires.positive c.requires.covers c.requires.apart)

pub returns-clause-entered : goal.returns-clause-entered
returns-clause-entered c = let e = c.enter.ensures.entries c.args.waiting.number c.requires.held in
    rw (e, c.number.ensures) (set_entered (c.args.waiting.start / c.args.block.length) c.args.waiting.number (entries_of c.args.table.now) (in_disk c.args.size c.args.block.length _ _ c.args.waiting c.requires.positive c.requires.covers c.requires.apart))

pub returns-clause-committed : goal.returns-clause-committed
returns-clause-committed c = λ f faults bytes.
    let s = set_entered (c.args.waiting.start / c.args.block.length) c.args.waiting.number (entries_of c.args.table.now) (in_disk c.args.size c.args.block.length _ _ c.args.waiting c.requires.positive c.requires.covers c.requires.apart) in
    let e = c.enter.ensures.entries c.args.waiting.number c.requires.held in
    rw (e, c.number.ensures) (committed f faults bytes c.args.size c.args.block.length _ _ _ c.args.waiting c.requires.positive c.requires.covers c.requires.apart s)

pub returns-clause-reaches : goal.returns-clause-reaches
returns-clause-reaches c = λ f faults bytes.
    let s = set_entered (c.args.waiting.start / c.args.block.length) c.args.waiting.number (entries_of c.args.table.now) (in_disk c.args.size c.args.block.length _ _ c.args.waiting c.requires.positive c.requires.covers c.requires.apart) in
    let e = c.enter.ensures.entries c.args.waiting.number c.requires.held in
    rw (e, c.number.ensures) (commit_reaches f faults bytes c.args.size c.args.block.length _ _ _ c.args.waiting c.requires.positive c.requires.covers c.requires.apart s)

pub returns-clause-framed : goal.returns-clause-framed
returns-clause-framed c = λ f faults bytes.
    let s = set_entered (c.args.waiting.start / c.args.block.length) c.args.waiting.number (entries_of c.args.table.now) (in_disk c.args.size c.args.block.length _ _ c.args.waiting c.requires.positive c.requires.covers c.requires.apart) in
    let e = c.enter.ensures.entries c.args.waiting.number c.requires.held in
    rw (e, c.number.ensures, c.enter.ensures.count) (commit_framed f faults bytes c.args.size c.args.block.length _ _ _ c.args.waiting c.requires.positive c.requires.covers c.requires.apart s)

pub returns-clause-settled : goal.returns-clause-settled
returns-clause-settled c = λ f a b.
    let s = set_entered (c.args.waiting.start / c.args.block.length) c.args.waiting.number (entries_of c.args.table.now) (in_disk c.args.size c.args.block.length _ _ c.args.waiting c.requires.positive c.requires.covers c.requires.apart) in
    let e = c.enter.ensures.entries c.args.waiting.number c.requires.held in
    rw (e, c.number.ensures, c.enter.ensures.count) (commit_settled f 0 [] c.args.size c.args.block.length _ _ _ c.args.waiting c.requires.positive c.requires.covers c.requires.apart s a b)

pub returns-clause-outside : goal.returns-clause-outside
returns-clause-outside c = λ f bytes.
    let s = set_entered (c.args.waiting.start / c.args.block.length) c.args.waiting.number (entries_of c.args.table.now) (in_disk c.args.size c.args.block.length _ _ c.args.waiting c.requires.positive c.requires.covers c.requires.apart) in
    let e = c.enter.ensures.entries c.args.waiting.number c.requires.held in
    rw (e, c.number.ensures) (commit_outside f 0 bytes c.args.size c.args.block.length _ _ _ c.args.waiting c.requires.positive c.requires.covers c.requires.apart s)
