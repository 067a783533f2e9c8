-- SPDX-License-Identifier: MIT
use Rattle.std.proofs.Common.{◌+◌, ◌-◌, ◌*◌, ◌/◌, ◌<◌, arith, ap, ◌∙◌, Err, max}
use Rattle.std.proofs.lemmas.Result.{err_from_is_err_and}
use Rattle.imago_storage.specs.Features.{len_align}
use Rattle.std.specs.Prelude.{slice_set}
use Rattle.imago_drivers.specs.LayerBelow.{lent}
use Rattle.imago_cow.specs.declared.table.GuestBlock.{GuestBlock}
use Rattle.imago_cow.specs.Table.{named_count, is_absent}
use Rattle.imago_cow.specs.TableView.{entries_of, count_of}
use Rattle.imago_cow.specs.TableLaws.{held_below, held_apart}
use Rattle.imago_cow.specs.Cut.{IsCutRead}
use Rattle.imago_cow.proofs.MapSteps.{number_ends}
use Rattle.imago_cow.proofs.CommitSteps.{set_entered}
use Rattle.imago_cow.proofs.PrepareSteps.{empty_absent}
use Rattle.imago_cow.proofs.CutSteps.{take_refused, filled_length, other_bytes}
use Rattle.imago_cow.proofs.GrowthCallSteps.{cut_not_taken, cut_taken, cut_taken_refused}
use Rattle.imago_cow.proofs.cut.fill_taken.Goals as goal

pub returns-in_err-number-clause-refusals : goal.returns-in_err-number-clause-refusals
returns-in_err-number-clause-refusals g c = λ new_size h.
    let cut = c.args.cut in
    let E = entries_of c.args.table.now in
    let f = g.S.Storage.features c.args.storage.now in
    let A = g.S.Storage.bytes c.args.storage.now in
    let p = err_from_is_err_and c.from_residual.result c.from_residual.ensures.1 in
    rw (p.1, p.2) (take_refused f (lent g.B.LowerLayer.as_layer_below c.args.below) cut.block.length (count_of c.args.table.now) (named_count E) (IsCutRead cut.block.length cut.size E (is_absent cut.new_kind) new_size) c.in_err-number.field-0.0
    (g.met.S.Storage.lawful c.args.storage.now) c.in_err-number.ensures.only (λ w. c.take_block.ensures.wraps (c.in_err-number.was ∙ ap (λ x. Err x) w)))

pub returns-in-Ok-clause-entered : goal.returns-in-Ok-clause-entered
returns-in-Ok-clause-entered g c = λ keeps.
    let cut = c.args.cut in
    let E = entries_of c.args.table.now in
    let f = g.S.Storage.features c.args.storage.now in
    let A = g.S.Storage.bytes c.args.storage.now in
    let number = c.in_ok-number.number in
    let B = g.S.Storage.bytes c.fill_both.new.storage in
    let held = c.in_ok-number.ensures.held in
    let known : number < max (count_of c.args.table.now) (named_count E + 1) = omega (arith, held_below c.take_block.new.table number held, c.take_block.ensures.added) in
    let e = rw c.number.ensures at (c.enter.ensures.entries number held) in
    record {
      number = number;
      entered = rw (e, c.take_block.ensures.entries) (set_entered (cut.size / cut.block.length) number E c.requires.within);
      unnamed = λ i h. held_apart c.take_block.new.table i number held (rw c.take_block.ensures.entries h);
      before = λ told. c.in-Ok.ensures.before keeps told;
      behind = λ told. c.in-Ok.ensures.behind keeps told;
      outside = c.fill_both.ensures.outside keeps;
    }

pub returns-in-Ok-clause-no_longer : goal.returns-in-Ok-clause-no_longer
returns-in-Ok-clause-no_longer g c =
    let cut = c.args.cut in
    let E = entries_of c.args.table.now in
    let f = g.S.Storage.features c.args.storage.now in
    let A = g.S.Storage.bytes c.args.storage.now in
    let number = c.in_ok-number.number in
    let B = g.S.Storage.bytes c.fill_both.new.storage in
    let held = c.in_ok-number.ensures.held in
    let known : number < max (count_of c.args.table.now) (named_count E + 1) = omega (arith, held_below c.take_block.new.table number held, c.take_block.ensures.added) in
    filled_length cut.block.length number (max (count_of c.args.table.now) (named_count E + 1)) _ _ (len_align f - 1) known c.fill_both.ensures.no_longer

pub returns-in-Err-clause-no_longer : goal.returns-in-Err-clause-no_longer
returns-in-Err-clause-no_longer g c =
    let cut = c.args.cut in
    let E = entries_of c.args.table.now in
    let f = g.S.Storage.features c.args.storage.now in
    let A = g.S.Storage.bytes c.args.storage.now in
    let number = c.in_ok-number.number in
    let B = g.S.Storage.bytes c.fill_both.new.storage in
    let held = c.in_ok-number.ensures.held in
    let known : number < max (count_of c.args.table.now) (named_count E + 1) = omega (arith, held_below c.take_block.new.table number held, c.take_block.ensures.added) in
    filled_length cut.block.length number (max (count_of c.args.table.now) (named_count E + 1)) _ _ (len_align f - 1) known c.fill_both.ensures.no_longer

pub returns-in-Ok-clause-places : goal.returns-in-Ok-clause-places
returns-in-Ok-clause-places g c = λ keeps p.
    let cut = c.args.cut in
    let E = entries_of c.args.table.now in
    let f = g.S.Storage.features c.args.storage.now in
    let A = g.S.Storage.bytes c.args.storage.now in
    let number = c.in_ok-number.number in
    let B = g.S.Storage.bytes c.fill_both.new.storage in
    let held = c.in_ok-number.ensures.held in
    let known : number < max (count_of c.args.table.now) (named_count E + 1) = omega (arith, held_below c.take_block.new.table number held, c.take_block.ensures.added) in
    other_bytes cut.block.length c.requires.ready.positive A B number p _ (λ h. held_apart c.take_block.new.table (p / cut.block.length) number held (rw c.take_block.ensures.entries h)) (c.fill_both.ensures.outside keeps)

pub returns-in-Err-clause-places : goal.returns-in-Err-clause-places
returns-in-Err-clause-places g c = λ keeps p.
    let cut = c.args.cut in
    let E = entries_of c.args.table.now in
    let f = g.S.Storage.features c.args.storage.now in
    let A = g.S.Storage.bytes c.args.storage.now in
    let number = c.in_ok-number.number in
    let B = g.S.Storage.bytes c.fill_both.new.storage in
    let held = c.in_ok-number.ensures.held in
    let known : number < max (count_of c.args.table.now) (named_count E + 1) = omega (arith, held_below c.take_block.new.table number held, c.take_block.ensures.added) in
    other_bytes cut.block.length c.requires.ready.positive A B number p _ (λ h. held_apart c.take_block.new.table (p / cut.block.length) number held (rw c.take_block.ensures.entries h)) (c.fill_both.ensures.outside keeps)

pub returns-in-Err-clause-refusals : goal.returns-in-Err-clause-refusals
returns-in-Err-clause-refusals g c = λ new_size h.
    let cut = c.args.cut in
    let E = entries_of c.args.table.now in
    let f = g.S.Storage.features c.args.storage.now in
    let A = g.S.Storage.bytes c.args.storage.now in
    let number = c.in_ok-number.number in
    let B = g.S.Storage.bytes c.fill_both.new.storage in
    let held = c.in_ok-number.ensures.held in
    let known : number < max (count_of c.args.table.now) (named_count E + 1) = omega (arith, held_below c.take_block.new.table number held, c.take_block.ensures.added) in
    c.in-Err.ensures.refusals (max (count_of c.args.table.now) (named_count E + 1) * cut.block.length) E new_size (number_ends cut.block.length number (max (count_of c.args.table.now) (named_count E + 1)) known) h (empty_absent c.args.cut.kind _ c.requires.empty)

pub returns-in-Ok-clause-entries : goal.returns-in-Ok-clause-entries
returns-in-Ok-clause-entries g c =
    let cut = c.args.cut in
    let number = c.in_ok-number.number in
    let e = rw c.number.ensures at (c.enter.ensures.entries number c.in_ok-number.ensures.held) in
    record {
      len = rw (e, c.take_block.ensures.entries) ((set_entered (cut.size / cut.block.length) number (entries_of c.args.table.now) c.requires.within).len);
      refused = tt;
      done = (number, e ∙ ap (λ x. slice_set x (cut.size / cut.block.length) (GuestBlock.Data number)) c.take_block.ensures.entries);
    }

pub returns-in_err-number-clause-copies : goal.returns-in_err-number-clause-copies
returns-in_err-number-clause-copies g c =
    let cut = c.args.cut in
    let p = err_from_is_err_and c.from_residual.result c.from_residual.ensures.1 in
    rw (p.1) (cut_not_taken g.S.Storage.features g.S.Storage.bytes g.S.Storage.fault_count g.S.Storage.work g.S.Storage.maintenance (lent g.B.LowerLayer.as_layer_below c.args.below) (is_absent cut.kind) (is_absent cut.new_kind) cut.block.length cut.size cut.count (entries_of c.args.table.now) (count_of c.args.table.now) _ _ c.args.storage.now (p.0))

pub returns-in-Ok-clause-copies : goal.returns-in-Ok-clause-copies
returns-in-Ok-clause-copies g c =
    let cut = c.args.cut in
    let number = c.in_ok-number.number in
    let e = rw c.number.ensures at (c.enter.ensures.entries number c.in_ok-number.ensures.held) in
    cut_taken g.S.Storage.features g.S.Storage.bytes g.S.Storage.fault_count g.S.Storage.work g.S.Storage.maintenance (lent g.B.LowerLayer.as_layer_below c.args.below) (is_absent cut.kind) (is_absent cut.new_kind) cut.block.length cut.size cut.count (entries_of c.args.table.now) (count_of c.args.table.now) _ _ number c.args.storage.now _ c.in_ok-number.ensures.lowest c.in-Ok.ensures.copies
    (e ∙ ap (λ x. slice_set x (cut.size / cut.block.length) (GuestBlock.Data number)) c.take_block.ensures.entries) (c.enter.ensures.count ∙ c.in_ok-number.ensures.counted)

pub returns-in-Err-clause-copies : goal.returns-in-Err-clause-copies
returns-in-Err-clause-copies g c =
    let cut = c.args.cut in
    cut_taken_refused g.S.Storage.features g.S.Storage.bytes g.S.Storage.fault_count g.S.Storage.work g.S.Storage.maintenance (lent g.B.LowerLayer.as_layer_below c.args.below) (is_absent cut.kind) (is_absent cut.new_kind) cut.block.length cut.size cut.count (entries_of c.args.table.now) (count_of c.args.table.now) _ _ c.in_ok-number.number c.args.storage.now _ c.in-Err.e c.in_ok-number.ensures.lowest c.in-Err.ensures.copies
