-- SPDX-License-Identifier: MIT
use Rattle.std.proofs.Common.{arith, ◌≡◌, ◌+◌, ◌≤◌, length, take}
use Rattle.std.specs.Int.{next_multiple_of}
use Rattle.std.proofs.lemmas.List.{length-take-le, take_all, take_rest}
use Rattle.imago_storage.proofs.Alignment.{max_power}
use Rattle.imago_storage.proofs.Blocks.{block_facts}
use Rattle.imago_storage.proofs.Outcomes.{WriteOutcome_ok, RequestMayRunOut_more}
use Rattle.imago_storage.proofs.Work.{adds_then}
use Rattle.imago_storage.proofs.Writes.{first_is_part, splice_is_part, first_refused, second_written}
use Rattle.imago_storage.proofs.Steps.{pure_write, part_alone, blocks_alone, blocks_refused, blocks_then_part, passed_on}
use Rattle.imago_storage.proofs.request.write_blocks.Goals as goal

pub whole_blocks-whole-requires : goal.whole_blocks-whole-requires
whole_blocks-whole-requires g c = let a = c.requires.lawful in rw c.requires.is_block (max_power _ _ a.req a.mem)

pub returns-then-whole-eq0-clause-written : goal.returns-then-whole-eq0-clause-written
returns-then-whole-eq0-clause-written g c =
    let at : c.args.start + 0 ≡ c.args.start = omega arith in
    rw (at, (block_facts c.whole_blocks-whole.result c.whole_blocks-whole.ensures c.requires).one_block c.if-whole-eq0.true) at c.update_block.ensures.written

pub pure_writev-requires : goal.pure_writev-requires
pure_writev-requires g c = let b = block_facts c.whole_blocks-whole.result c.whole_blocks-whole.ensures c.requires in rw (length-take-le _ c.args.source.now b.fits) b.first

pub returns-in_err-pure_writev-clause-written : goal.returns-in_err-pure_writev-clause-written
returns-in_err-pure_writev-clause-written g c =
    let b = block_facts c.whole_blocks-whole.result c.whole_blocks-whole.ensures c.requires in
    let first = rw (first_is_part _ _ _ c.args.source.now b.fits) at c.pure_writev.ensures.written in
    first_refused _ c.from_residual.result c.args.source.now b.split first c.in_err-pure_writev.was c.from_residual.ensures.1

pub returns-then-whole-source-clause-written : goal.returns-then-whole-source-clause-written
returns-then-whole-source-clause-written g c =
    let whole = c.whole_blocks-whole.result in
    let all : take whole c.args.source.now ≡ c.args.source.now = take_all whole c.args.source.now (omega (arith, c.if-whole-source.true)) in
    let written = rw (all, splice_is_part _ _ c.args.source.now _ ((block_facts c.whole_blocks-whole.result c.whole_blocks-whole.ensures c.requires).all c.if-whole-source.true)) at c.pure_writev.ensures.written in
    WriteOutcome_ok _ _ _ _ _ _ tt c.in_ok-pure_writev.was written

pub update_block-requires-2-clause-aligned : goal.update_block-requires-2-clause-aligned
update_block-requires-2-clause-aligned g c =
    let b = block_facts c.whole_blocks-whole.result c.whole_blocks-whole.ensures c.requires in
    rw c.in_ok-pure_writev.ensures.features (b.last (omega (arith, b.fits, c.if-whole-source.false)))

pub returns-clause-written : goal.returns-clause-written
returns-clause-written g c =
    let b = block_facts c.whole_blocks-whole.result c.whole_blocks-whole.ensures c.requires in
    let whole = c.whole_blocks-whole.result in
    let at : c.args.start + whole + 0 ≡ c.args.start + whole = omega arith in
    let end = b.one_more (omega (arith, b.fits, c.if-whole-source.false)) in
    let first = rw (first_is_part _ _ _ c.args.source.now b.fits) at c.pure_writev.ensures.written in
    let last = rw (c.in_ok-pure_writev.ensures.features, end, at, take_rest c.args.source.now whole) at c.update_block-2.ensures.written in
    second_written c.args.source.now b.split first c.in_ok-pure_writev.was last

pub returns-clause-work : goal.returns-clause-work
returns-clause-work g c =
    let b = block_facts c.whole_blocks-whole.result c.whole_blocks-whole.ensures c.requires in
    let size = length-take-le c.whole_blocks-whole.result c.args.source.now b.fits in
    let end = b.one_more (omega (arith, b.fits, c.if-whole-source.false)) in
    adds_then _ _ _ _ (rw size at c.in_ok-pure_writev.ensures.work) c.update_block-2.ensures.work (omega arith) (omega arith) (omega arith) (omega (arith, end))

pub returns-clause-memory : goal.returns-clause-memory
returns-clause-memory g c = λ m.
    let b = block_facts c.whole_blocks-whole.result c.whole_blocks-whole.ensures c.requires in
    let more = b.one_more (omega (arith, b.fits, c.if-whole-source.false)) in
    let end : c.args.start + c.whole_blocks-whole.result + length c.args.block.now ≤ c.args.start + next_multiple_of (length c.args.source.now) (length c.args.block.now) = omega (arith, more) in
    RequestMayRunOut_more _ _ _ _ _ _ c.in_ok-pure_writev.ensures.features c.in_ok-pure_writev.ensures.written.no_shorter end (c.update_block-2.ensures.memory m)

pub returns-then-whole-eq0-clause-performed : goal.returns-then-whole-eq0-clause-performed
returns-then-whole-eq0-clause-performed g c =
    part_alone _ _ _ _ c.args.start c.args.source.now _ c.whole_blocks-whole.ensures c.if-whole-eq0.true c.requires.some c.update_block.ensures.performed

pub returns-in_err-pure_writev-clause-performed : goal.returns-in_err-pure_writev-clause-performed
returns-in_err-pure_writev-clause-performed g c =
    let b = block_facts c.whole_blocks-whole.result c.whole_blocks-whole.ensures c.requires in
    let w = c.pure_writev.ensures in
    blocks_refused _ _ _ _ c.args.start c.args.source.now _ c.whole_blocks-whole.ensures (omega (arith, c.if-whole-eq0.false)) b.fits (pure_write g.S.Storage.features g.S.Storage.bytes g.S.Storage.maintenance w.performed w.written w.features) c.in_err-pure_writev.was (passed_on _ _ _ c.in_err-pure_writev.was c.from_residual.ensures.1)

pub returns-then-whole-source-clause-performed : goal.returns-then-whole-source-clause-performed
returns-then-whole-source-clause-performed g c =
    let whole = c.whole_blocks-whole.result in
    let all : take whole c.args.source.now ≡ c.args.source.now = take_all whole c.args.source.now (omega (arith, c.if-whole-source.true)) in
    let w = c.pure_writev.ensures in
    blocks_alone _ _ _ _ c.args.start c.args.source.now whole c.whole_blocks-whole.ensures c.if-whole-source.true c.requires.some (rw (all, c.in_ok-pure_writev.was) at (pure_write g.S.Storage.features g.S.Storage.bytes g.S.Storage.maintenance w.performed w.written w.features))

pub returns-clause-performed : goal.returns-clause-performed
returns-clause-performed g c =
    let whole = c.whole_blocks-whole.result in
    let b = block_facts whole c.whole_blocks-whole.ensures c.requires in
    let w = c.pure_writev.ensures in
    blocks_then_part _ _ _ _ c.args.start c.args.source.now whole c.whole_blocks-whole.ensures (omega (arith, c.if-whole-eq0.false)) (omega (arith, b.fits, c.if-whole-source.false)) (pure_write g.S.Storage.features g.S.Storage.bytes g.S.Storage.maintenance w.performed w.written w.features) c.in_ok-pure_writev.was
    (rw (take_rest c.args.source.now whole) at c.update_block-2.ensures.performed)

pub returns-then-whole-eq0-clause-memory : goal.returns-then-whole-eq0-clause-memory
returns-then-whole-eq0-clause-memory g c = λ m.
    rw ((block_facts c.whole_blocks-whole.result c.whole_blocks-whole.ensures c.requires).one_block c.if-whole-eq0.true) at (c.update_block.ensures.memory m)
