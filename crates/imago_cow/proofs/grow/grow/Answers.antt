-- SPDX-License-Identifier: MIT
use Rattle.std.proofs.Common.{rules, ◌≡◌, ◌+◌, inr, arith}
use Rattle.std.proofs.lemmas.Result.{err_from_is_err_and}
use Rattle.imago_drivers.specs.declared.format.PreallocateMode.{PreallocateMode}
use Rattle.imago_drivers.specs.LayerBelow.{lent}
use Rattle.imago_cow.specs.declared.table.GuestBlock.{GuestBlock}
use Rattle.imago_cow.specs.TableView.{entries_of, count_of, room_of}
use Rattle.imago_cow.proofs.FreeSteps.{on_err}
use Rattle.imago_cow.proofs.WholeSteps.{times_more}
use Rattle.imago_cow.proofs.ResizeSteps.{grown_absent}
use Rattle.imago_cow.proofs.GrownEntries.{grown_empty}
use Rattle.std.proofs.Common.{Ok}
use Rattle.imago_cow.proofs.GrowthCallSteps.{unspecified_growth, no_room_growth, copied_growth}
use Rattle.imago_cow.proofs.grow.grow.Goals as goal

pub returns-then-adds_nothing-clause-call : goal.returns-then-adds_nothing-clause-call
returns-then-adds_nothing-clause-call g c =
    let a = c.args in
    let growth = a.growth in
    let m : growth.mode ≡ PreallocateMode.None = c.adds_nothing.ensures.none c.if-adds_nothing.true in
    let done = c.in_ok-add_blocks.ensures in
    rw (m, c.add_blocks.ensures.count) (grown_absent (g.S.Storage.features a.storage.now) (g.S.Storage.fault_count a.storage.now + a.faults.now) (g.S.Storage.bytes a.storage.now) growth.size growth.block.length (entries_of a.table.now) (entries_of c.add_blocks.new.table) (count_of a.table.now) growth.new_size
    c.requires.idle.ready.positive (lent g.B.LowerLayer.as_layer_below a.below) GuestBlock.Absent (omega (arith, c.requires.grows)) c.requires.idle.exact.covers done.exact.covers done.added)

pub returns-in_err-add_blocks-clause-call : goal.returns-in_err-add_blocks-clause-call
returns-in_err-add_blocks-clause-call g c =
    let p = err_from_is_err_and c.from_residual.result c.from_residual.ensures.1 in
    rw (p.1, p.2, c.in_err-add_blocks.ensures.unchanged, c.add_blocks.ensures.count) (search rules)

pub returns-in_err-reserve_new-clause-call : goal.returns-in_err-reserve_new-clause-call
returns-in_err-reserve_new-clause-call g c =
    let p = err_from_is_err_and c.from_residual-in_err-reserve_new.result c.from_residual-in_err-reserve_new.ensures.1 in
    rw (p.1, p.2, c.reserve_new.ensures.entries, c.reserve_new.ensures.count) (search rules)

pub returns-then-adds_nothing-clause-blocks : goal.returns-then-adds_nothing-clause-blocks
returns-then-adds_nothing-clause-blocks g c =
    let growth = c.args.growth in
    grown_empty growth.block.length growth.size (entries_of c.args.table.now) c.requires.idle.ready.positive c.requires.idle.exact growth.mode (entries_of c.add_blocks.new.table) (c.adds_nothing.ensures.none c.if-adds_nothing.true) c.in_ok-add_blocks.ensures.added

pub returns-clause-call : goal.returns-clause-call
returns-clause-call g c = rw (c.reserve_new.ensures.entries, c.reserve_new.ensures.count) at c.grow_with.ensures.call

pub returns-clause-room_first : goal.returns-clause-room_first
returns-clause-room_first g c =
    let x = times_more c.args.growth.block.length (room_of c.reserve_new.new.table) (room_of c.grow_with.new.table) c.grow_with.ensures.room in
    on_err c.grow_with.result _ (inr (omega (arith, x, c.in_ok-reserve_new.ensures.room)))

pub returns-then-adds_nothing-clause-copies : goal.returns-then-adds_nothing-clause-copies
returns-then-adds_nothing-clause-copies g c = unspecified_growth g.S.Storage.features g.S.Storage.bytes g.S.Storage.fault_count g.S.Storage.work g.S.Storage.maintenance (lent g.B.LowerLayer.as_layer_below c.args.below) c.args.growth.mode (entries_of c.args.table.now) (count_of c.args.table.now) c.args.growth.block.length c.args.growth.size c.args.growth.new_size c.args.storage.now (Ok tt) (c.adds_nothing.ensures.none c.if-adds_nothing.true)

pub returns-in_err-add_blocks-clause-copies : goal.returns-in_err-add_blocks-clause-copies
returns-in_err-add_blocks-clause-copies g c =
    let p = err_from_is_err_and c.from_residual.result c.from_residual.ensures.1 in
    rw (p.1) (no_room_growth g.S.Storage.features g.S.Storage.bytes g.S.Storage.fault_count g.S.Storage.work g.S.Storage.maintenance (lent g.B.LowerLayer.as_layer_below c.args.below) c.args.growth.mode (entries_of c.args.table.now) (count_of c.args.table.now) c.args.growth.block.length c.args.growth.size c.args.growth.new_size c.args.storage.now (p.0))

pub returns-in_err-reserve_new-clause-copies : goal.returns-in_err-reserve_new-clause-copies
returns-in_err-reserve_new-clause-copies g c =
    let p = err_from_is_err_and c.from_residual-in_err-reserve_new.result c.from_residual-in_err-reserve_new.ensures.1 in
    rw (p.1) (no_room_growth g.S.Storage.features g.S.Storage.bytes g.S.Storage.fault_count g.S.Storage.work g.S.Storage.maintenance (lent g.B.LowerLayer.as_layer_below c.args.below) c.args.growth.mode (entries_of c.args.table.now) (count_of c.args.table.now) c.args.growth.block.length c.args.growth.size c.args.growth.new_size c.args.storage.now (p.0))

pub returns-clause-copies : goal.returns-clause-copies
returns-clause-copies g c = copied_growth g.S.Storage.features g.S.Storage.bytes g.S.Storage.fault_count g.S.Storage.work g.S.Storage.maintenance (lent g.B.LowerLayer.as_layer_below c.args.below) c.args.growth.mode (entries_of c.args.table.now) (count_of c.args.table.now) c.args.growth.block.length c.args.growth.size c.args.growth.new_size c.args.storage.now _ _ c.requires.grows (c.adds_nothing.ensures.some c.if-adds_nothing.false)
    (rw (c.reserve_new.ensures.entries, c.reserve_new.ensures.count) at c.grow_with.ensures.added)
    (rw (c.reserve_new.ensures.entries, c.reserve_new.ensures.count) at c.grow_with.ensures.filled)
