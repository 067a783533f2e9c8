-- SPDX-License-Identifier: MIT
use Rattle.std.proofs.Common.{arith, ◌≡◌, ◌+◌, ◌-◌, ◌<◌, ◌≤◌, length, refl}
use Rattle.std.specs.Int.{next_multiple_of}
use Rattle.std.proofs.lemmas.List.{take_rest}
use Rattle.imago_storage.proofs.Blocks.{part_facts}
use Rattle.imago_storage.proofs.Outcomes.{RequestMayRunOut_more}
use Rattle.imago_storage.proofs.Padding.{len_positive, next_one}
use Rattle.imago_storage.proofs.Work.{adds_more, adds_then}
use Rattle.imago_storage.proofs.Writes.{length-rest, first_refused, second_written}
use Rattle.imago_storage.proofs.Steps.{no_head, within, first_part_refused, first_part_then, passed_on}
use Rattle.imago_storage.proofs.request.write_parts.Goals as goal

pub write_blocks-requires : goal.write_blocks-requires
write_blocks-requires g c = (part_facts c.requires).no_head c.if-head-eq0.true

pub returns-then-head-eq0-clause-written : goal.returns-then-head-eq0-clause-written
returns-then-head-eq0-clause-written g c = rw ((part_facts c.requires).no_head_ends c.if-head-eq0.true) at c.write_blocks.ensures.written

pub update_block-requires-clause-aligned : goal.update_block-requires-clause-aligned
update_block-requires-clause-aligned g c = (part_facts c.requires).first

pub returns-then-source-align-clause-written : goal.returns-then-source-align-clause-written
returns-then-source-align-clause-written g c =
    let b = part_facts c.requires in
    rw (b.one_block c.if-source-align.true) (rw b.from_start at c.update_block.ensures.written)

pub returns-then-head-eq0-clause-work : goal.returns-then-head-eq0-clause-work
returns-then-head-eq0-clause-work g c =
    let b = part_facts c.requires in
    adds_more _ _ _ _ c.write_blocks.ensures.work (omega arith) (omega (arith, b.wide)) (omega arith) (omega (arith, b.no_head_ends c.if-head-eq0.true, b.from_start, c.if-head-eq0.true))

pub returns-then-source-align-clause-work : goal.returns-then-source-align-clause-work
returns-then-source-align-clause-work g c =
    let b = part_facts c.requires in
    adds_more _ _ _ _ c.update_block.ensures.work (omega arith) (omega (arith, b.wide)) (omega arith) (omega (arith, b.wide))

pub update_block-requires-2-clause-aligned : goal.update_block-requires-2-clause-aligned
update_block-requires-2-clause-aligned g c = (part_facts c.requires).first

pub returns-in_err-update_block-clause-written : goal.returns-in_err-update_block-clause-written
returns-in_err-update_block-clause-written g c =
    let b = part_facts c.requires in
    let first = rw b.from_start at c.update_block-2.ensures.written in
    first_refused _ c.from_residual.result c.args.source.now (b.split c.if-source-align.false) first c.in_err-update_block.was c.from_residual.ensures.1

pub write_blocks-requires-2 : goal.write_blocks-requires-2
write_blocks-requires-2 g c =
    rw (c.in_ok-update_block.ensures.features, c.update_block-2.auto.block, length-rest c.args.source.now _) ((part_facts c.requires).rest c.if-source-align.false)

pub returns-clause-written : goal.returns-clause-written
returns-clause-written g c =
    let b = part_facts c.requires in
    let source = c.args.source.now in
    let taken = length c.args.block.now - (c.args.offset - c.args.start) in
    let at : c.args.start + length c.args.block.now ≡ c.args.offset + taken = omega (arith, b.from_start, b.in_block) in
    let first = rw b.from_start at c.update_block-2.ensures.written in
    let rest = rw (c.in_ok-update_block.ensures.features, c.update_block-2.auto.block, length-rest source taken, b.rest_ends c.if-source-align.false, at, take_rest source taken) at c.write_blocks-2.ensures.written in
    second_written source (b.split c.if-source-align.false) first c.in_ok-update_block.was rest

pub returns-clause-work : goal.returns-clause-work
returns-clause-work g c =
    let b = part_facts c.requires in
    let a = length c.args.block.now in
    let v = rw (c.update_block-2.auto.block, length-rest c.args.source.now _) at c.write_blocks-2.ensures.work in
    let n = length c.args.source.now - (a - (c.args.offset - c.args.start)) in
    let ends = b.rest_ends c.if-source-align.false in
    let positive : 0 < a = rw c.requires.is_block (len_positive _ c.requires.lawful) in
    let some : 0 < n = omega (arith, c.if-source-align.false) in
    let more = next_one n a positive some in
    adds_then _ _ _ _ c.in_ok-update_block.ensures.work v (omega arith) (omega (arith, ends, more)) (omega arith) (omega (arith, ends))

pub returns-then-source-align-clause-memory : goal.returns-then-source-align-clause-memory
returns-then-source-align-clause-memory g c = λ m.
    let f = g.S.Storage.features c.args.storage.now in
    let xs = g.S.Storage.bytes c.args.storage.now in
    let longer : length xs ≤ length xs = omega arith in
    let end : c.args.start + length c.args.block.now ≤ c.args.start + c.args.len = omega (arith, (part_facts c.requires).wide) in
    RequestMayRunOut_more f f _ _ _ _ refl longer end (c.update_block.ensures.memory m)

pub returns-clause-memory : goal.returns-clause-memory
returns-clause-memory g c = λ m.
    let a = length c.args.block.now in
    let n = length c.args.source.now - (a - (c.args.offset - c.args.start)) in
    let v = rw (c.update_block-2.auto.block, length-rest c.args.source.now _) at (c.write_blocks-2.ensures.memory m) in
    let end : c.args.start + a + next_multiple_of n a ≤ c.args.start + c.args.len = omega (arith, (part_facts c.requires).rest_ends c.if-source-align.false) in
    RequestMayRunOut_more _ _ _ _ _ _ c.in_ok-update_block.ensures.features c.in_ok-update_block.ensures.written.no_shorter end v

pub returns-then-head-eq0-clause-performed : goal.returns-then-head-eq0-clause-performed
returns-then-head-eq0-clause-performed g c =
    rw (no_head (length c.args.block.now) (c.args.offset - c.args.start) c.args.offset c.args.source.now c.if-head-eq0.true) c.write_blocks.ensures.performed

pub returns-then-source-align-clause-performed : goal.returns-then-source-align-clause-performed
returns-then-source-align-clause-performed g c =
    within _ _ _ _ c.args.source.now c.requires (omega (arith, c.if-head-eq0.false)) c.if-source-align.true c.update_block.ensures.performed

pub returns-in_err-update_block-clause-performed : goal.returns-in_err-update_block-clause-performed
returns-in_err-update_block-clause-performed g c =
    first_part_refused _ _ _ _ c.args.source.now c.requires (omega (arith, c.if-head-eq0.false)) (omega (arith, c.if-source-align.false)) c.update_block-2.ensures.performed c.in_err-update_block.was (passed_on _ _ _ c.in_err-update_block.was c.from_residual.ensures.1)

pub returns-clause-performed : goal.returns-clause-performed
returns-clause-performed g c =
    let head = c.args.offset - c.args.start in
    first_part_then _ _ _ _ c.args.source.now c.requires c.write_blocks-2.new.storage c.write_blocks-2.result (omega (arith, c.if-head-eq0.false)) (omega (arith, c.if-source-align.false)) c.update_block-2.ensures.performed c.in_ok-update_block.was
    (rw (c.update_block-2.auto.block, take_rest c.args.source.now (length c.args.block.now - head)) at c.write_blocks-2.ensures.performed)
