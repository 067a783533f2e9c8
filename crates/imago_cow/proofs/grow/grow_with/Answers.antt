-- SPDX-License-Identifier: MIT
use Rattle.std.proofs.Common.{◌≡◌, ◌+◌, ◌*◌, ◌/◌, ◌≤◌, ◌&&◌, ap, refl, sym, subst, ◌∙◌, Ok, Err, length, max, arith, None}
use Rattle.std.proofs.lemmas.Result.{err_from_is_err_and}
use Rattle.imago_storage.specs.Faults.{CountsFaults}
use Rattle.imago_drivers.specs.Lengths.{padded_to}
use Rattle.imago_drivers.specs.LayerBelow.{lent}
use Rattle.imago_drivers.specs.Operation.{Grow}
use Rattle.imago_cow.specs.TableView.{entries_of, count_of}
use Rattle.imago_cow.specs.Growth.{IsExtended}
use Rattle.imago_cow.specs.Cow.{data_count}
use Rattle.imago_cow.specs.Cut.{IsCutFilled, IsCutEntered, shows_below}
use Rattle.imago_cow.proofs.FillSteps.{counts_then}
use Rattle.imago_cow.proofs.CutEntries.{within_same}
use Rattle.imago_cow.proofs.GrowBounds.{cut_inside}
use Rattle.imago_cow.proofs.GrownEntries.{grown_blocks}
use Rattle.imago_cow.proofs.GrowthSteps.{grown_whole, cut_refused, add_refused, not_grown, mode_uses, blocks_for, blocks_cover, blocks_near, new_fit, cut_fit, cut_read, added_read, if_grow_refused, same_exact}
use Rattle.std.specs.Prelude.{slice_get}
use Rattle.imago_cow.proofs.GrowthCallSteps.{not_ok, added_behind, filled_then, filled_refused}
use Rattle.imago_cow.proofs.grow.grow_with.Goals as goal

pub empty_cut-was-requires-clause-within : goal.empty_cut-was-requires-clause-within
empty_cut-was-requires-clause-within g c = λ cutting. cut_inside c.args.growth.block.length c.args.growth.size (entries_of c.args.table.now) c.requires.idle.ready.positive c.requires.idle.exact cutting

pub fill_cut-requires-clause-within : goal.fill_cut-requires-clause-within
fill_cut-requires-clause-within g c = λ cutting. cut_inside c.args.growth.block.length c.args.growth.size (entries_of c.args.table.now) c.requires.idle.ready.positive c.requires.idle.exact cutting

pub add_new-requires-clause-idle : goal.add_new-requires-clause-idle
add_new-requires-clause-idle g c = record {
  ready = c.fill_cut.ensures.ready;
  exact = same_exact c.args.growth.size c.args.growth.block.length (entries_of c.args.table.now) (entries_of c.fill_cut.new.table) (c.in_ok-fill_cut.ensures.filled).len c.requires.idle.exact;
}

pub restore_cut-requires-clause-within : goal.restore_cut-requires-clause-within
restore_cut-requires-clause-within g c =
    within_same c.empty_cut-was.result (c.args.growth.size / c.args.growth.block.length) (length (entries_of c.args.table.now)) (length (entries_of c.add_new.new.table)) (ap length c.in-Err.ensures.refused ∙ (c.in_ok-fill_cut.ensures.filled).len) c.empty_cut-was.ensures.within

pub returns-in_err-fill_cut-clause-call : goal.returns-in_err-fill_cut-clause-call
returns-in_err-fill_cut-clause-call g c =
    let a = c.args in
    let growth = a.growth in
    let E = entries_of a.table.now in
    let n0 = count_of a.table.now in
    let f = g.S.Storage.features a.storage.now in
    let A = g.S.Storage.bytes a.storage.now in
    let B = g.S.Storage.bytes c.fill_cut.new.storage in
    let M = entries_of c.fill_cut.new.table in
    let k0 = g.S.Storage.fault_count a.storage.now + a.faults.now in
    let k1 = g.S.Storage.fault_count c.fill_cut.new.storage + c.fill_cut.new.faults in
    let L = lent g.B.LowerLayer.as_layer_below a.below in
    let lower = shows_below growth.mode in
    let low : lower ≡ shows_below growth.mode = refl in
    let pos = c.requires.idle.ready.positive in
    let ex = c.requires.idle.exact in
    let most = data_count growth.block.length growth.size E n0 None (Grow growth.mode) growth.new_size 0 in
    let uses = mode_uses growth.mode c.requires.some in
    let more : n0 ≤ most = omega arith in
    let fit = cut_fit growth.block.length growth.size growth.new_size E n0 growth.mode lower pos c.requires.grows ex low c.requires.some in
    let e1 = c.fill_cut.ensures in
    let e = c.in_err-fill_cut.field-0.0 in
    let p = err_from_is_err_and c.from_residual.result c.from_residual.ensures.1 in
    rw (p.1, p.2, c.in_err-fill_cut.ensures.entries) (not_grown f k0 k1 A B B growth.size growth.block.length growth.new_size E E E n0 (count_of c.fill_cut.new.table) L growth.mode lower pos c.requires.grows ex low c.requires.some e
    (cut_refused f k0 k1 A B B growth.size growth.block.length growth.new_size E E E n0 (count_of c.fill_cut.new.table) L growth.mode lower pos c.requires.grows ex low c.requires.some e1.places e1.call.no_shorter)
    ((e1.bounded most more fit).no_longer) c.in_err-fill_cut.ensures.call.faults
    (if_grow_refused f k0 A growth.size growth.block.length E n0 L growth.mode growth.new_size _ uses (cut_read growth.block.length growth.size growth.new_size E n0 growth.mode lower pos c.requires.grows ex low c.requires.some) e ((c.in_err-fill_cut.ensures.bounded most more fit).refusals)))

pub returns-in-Err-clause-call : goal.returns-in-Err-clause-call
returns-in-Err-clause-call g c =
    let a = c.args in
    let growth = a.growth in
    let E = entries_of a.table.now in
    let n0 = count_of a.table.now in
    let f = g.S.Storage.features a.storage.now in
    let A = g.S.Storage.bytes a.storage.now in
    let B = g.S.Storage.bytes c.fill_cut.new.storage in
    let M = entries_of c.fill_cut.new.table in
    let k0 = g.S.Storage.fault_count a.storage.now + a.faults.now in
    let k1 = g.S.Storage.fault_count c.fill_cut.new.storage + c.fill_cut.new.faults in
    let L = lent g.B.LowerLayer.as_layer_below a.below in
    let lower = shows_below growth.mode in
    let low : lower ≡ shows_below growth.mode = refl in
    let pos = c.requires.idle.ready.positive in
    let ex = c.requires.idle.exact in
    let most = data_count growth.block.length growth.size E n0 None (Grow growth.mode) growth.new_size 0 in
    let uses = mode_uses growth.mode c.requires.some in
    let more : n0 ≤ most = omega arith in
    let fit = cut_fit growth.block.length growth.size growth.new_size E n0 growth.mode lower pos c.requires.grows ex low c.requires.some in
    let e1 = c.fill_cut.ensures in
    let ok1 = c.in_ok-fill_cut.ensures in
    let filled : IsCutFilled L.at growth.mode f.keeps_data L.tells_bytes growth.block.length growth.size growth.new_size E M A B = ok1.filled in
    let entered : IsCutEntered growth.block.length growth.size E M = ok1.entry in
    let D = g.S.Storage.bytes c.add_new.new.storage in
    let F = entries_of c.add_new.new.table in
    let k2 = g.S.Storage.fault_count c.add_new.new.storage + c.add_new.new.faults in
    let wanted = blocks_for growth.block.length growth.new_size in
    let bc = blocks_cover growth.block.length growth.new_size pos in
    let bn = blocks_near growth.block.length growth.new_size pos in
    let counted : count_of c.fill_cut.new.table ≤ most = (e1.bounded most more fit).counted in
    let nf = new_fit growth.block.length growth.size growth.new_size E n0 growth.mode lower pos c.requires.grows ex low c.requires.some M filled.len entered in
    let e2 = c.add_new.ensures in
    let long1 : length B ≤ max (length A) (padded_to f 0 (most * growth.block.length)) = (e1.bounded most more fit).no_longer in
    let long2 : length D ≤ max (length B) (padded_to f 0 (most * growth.block.length)) = rw e1.call.features at ((e2.bounded most wanted bc bn counted nf).no_longer) in
    let longer : length D ≤ max (length A) (padded_to f 0 (most * growth.block.length)) = omega (arith, long1, long2) in
    let first : CountsFaults {T = Unit {0}} (f.is_reliable && L.is_reliable) k0 k1 (Ok tt) = ok1.call.faults in
    let e = c.in-Err.e in
    let err2 = c.in-Err.ensures in
    let then : CountsFaults {T = Unit {0}} (f.is_reliable && L.is_reliable) k1 k2 (Err e) = rw e1.call.features at err2.call.faults in
    let back = c.restore_cut.ensures.restored E c.empty_cut-was.ensures.empty (subst (λ x. IsCutEntered growth.block.length growth.size E x) (sym c.in-Err.ensures.refused) entered) in
    rw back (not_grown f k0 k2 A B D growth.size growth.block.length growth.new_size E M E n0 (count_of c.restore_cut.new.table) L growth.mode lower pos c.requires.grows ex low c.requires.some e
    (add_refused f k0 k2 A B D growth.size growth.block.length growth.new_size E M E n0 (count_of c.restore_cut.new.table) L growth.mode lower pos c.requires.grows ex low c.requires.some entered filled.len e1.places (rw e1.call.features at e2.bytes) (omega (arith, e1.call.no_shorter, e2.call.no_shorter)))
    longer (counts_then (f.is_reliable && L.is_reliable) k0 k1 k2 (Err e) first then)
    (if_grow_refused f k0 A growth.size growth.block.length E n0 L growth.mode growth.new_size _ uses (added_read growth.block.length growth.size growth.new_size E n0 growth.mode lower pos c.requires.grows ex low c.requires.some M filled.len) e (rw e1.call.features at ((err2.bounded most wanted bc bn counted nf).refusals))))

pub returns-in-Err-clause-entries : goal.returns-in-Err-clause-entries
returns-in-Err-clause-entries g c =
    let a = c.args in
    let growth = a.growth in
    let E = entries_of a.table.now in
    c.restore_cut.ensures.restored E c.empty_cut-was.ensures.empty (subst (λ x. IsCutEntered growth.block.length growth.size E x) (sym c.in-Err.ensures.refused) c.in_ok-fill_cut.ensures.entry)

pub returns-clause-call : goal.returns-clause-call
returns-clause-call g c =
    let a = c.args in
    let growth = a.growth in
    let E = entries_of a.table.now in
    let n0 = count_of a.table.now in
    let f = g.S.Storage.features a.storage.now in
    let A = g.S.Storage.bytes a.storage.now in
    let B = g.S.Storage.bytes c.fill_cut.new.storage in
    let M = entries_of c.fill_cut.new.table in
    let k0 = g.S.Storage.fault_count a.storage.now + a.faults.now in
    let k1 = g.S.Storage.fault_count c.fill_cut.new.storage + c.fill_cut.new.faults in
    let L = lent g.B.LowerLayer.as_layer_below a.below in
    let lower = shows_below growth.mode in
    let low : lower ≡ shows_below growth.mode = refl in
    let pos = c.requires.idle.ready.positive in
    let ex = c.requires.idle.exact in
    let most = data_count growth.block.length growth.size E n0 None (Grow growth.mode) growth.new_size 0 in
    let uses = mode_uses growth.mode c.requires.some in
    let more : n0 ≤ most = omega arith in
    let fit = cut_fit growth.block.length growth.size growth.new_size E n0 growth.mode lower pos c.requires.grows ex low c.requires.some in
    let e1 = c.fill_cut.ensures in
    let ok1 = c.in_ok-fill_cut.ensures in
    let filled : IsCutFilled L.at growth.mode f.keeps_data L.tells_bytes growth.block.length growth.size growth.new_size E M A B = ok1.filled in
    let entered : IsCutEntered growth.block.length growth.size E M = ok1.entry in
    let D = g.S.Storage.bytes c.add_new.new.storage in
    let F = entries_of c.add_new.new.table in
    let k2 = g.S.Storage.fault_count c.add_new.new.storage + c.add_new.new.faults in
    let wanted = blocks_for growth.block.length growth.new_size in
    let bc = blocks_cover growth.block.length growth.new_size pos in
    let bn = blocks_near growth.block.length growth.new_size pos in
    let counted : count_of c.fill_cut.new.table ≤ most = (e1.bounded most more fit).counted in
    let nf = new_fit growth.block.length growth.size growth.new_size E n0 growth.mode lower pos c.requires.grows ex low c.requires.some M filled.len entered in
    let e2 = c.add_new.ensures in
    let long1 : length B ≤ max (length A) (padded_to f 0 (most * growth.block.length)) = (e1.bounded most more fit).no_longer in
    let long2 : length D ≤ max (length B) (padded_to f 0 (most * growth.block.length)) = rw e1.call.features at ((e2.bounded most wanted bc bn counted nf).no_longer) in
    let longer : length D ≤ max (length A) (padded_to f 0 (most * growth.block.length)) = omega (arith, long1, long2) in
    let first : CountsFaults {T = Unit {0}} (f.is_reliable && L.is_reliable) k0 k1 (Ok tt) = ok1.call.faults in
    let done = c.in_default.ensures in
    let extended : IsExtended L.at lower f.keeps_data L.tells_bytes growth.block.length (length M * growth.block.length) growth.new_size M F B D = rw e1.call.features at done.added.extended in
    let then : CountsFaults {T = Unit {0}} (f.is_reliable && L.is_reliable) k1 k2 (Ok tt) = rw e1.call.features at done.call.faults in
    grown_whole f k0 k2 A B D growth.size growth.block.length growth.new_size E M F n0 (count_of c.add_new.new.table) L growth.mode lower pos c.requires.grows ex low c.requires.some filled extended done.added.exact.covers longer
    (counts_then (f.is_reliable && L.is_reliable) k0 k1 k2 (Ok tt) first then)

pub returns-clause-blocks : goal.returns-clause-blocks
returns-clause-blocks g c =
    let growth = c.args.growth in
    let first = c.in_ok-fill_cut.ensures in
    let then = c.add_new.ensures in
    let done = c.in_default.ensures in
    grown_blocks growth.block.length growth.size (entries_of c.args.table.now) c.requires.idle.ready.positive c.requires.idle.exact growth.mode (entries_of c.fill_cut.new.table) (entries_of c.add_new.new.table)
    c.requires.some first.entry (first.filled).len first.grown then.prefix done.added.in_data done.added.zeroes

pub returns-in_err-fill_cut-clause-added : goal.returns-in_err-fill_cut-clause-added
returns-in_err-fill_cut-clause-added g c = λ wanted covers near whole.
    let done = (c.fill_cut.ensures.idle whole).0 in
    absurd (not_ok c.fill_cut.result c.in_err-fill_cut.field-0.0 c.in_err-fill_cut.was done)

pub returns-in_err-fill_cut-clause-filled : goal.returns-in_err-fill_cut-clause-filled
returns-in_err-fill_cut-clause-filled g c = λ wanted covers near cutting.
    let p = err_from_is_err_and c.from_residual.result c.from_residual.ensures.1 in
    rw (p.1, p.2) (filled_refused g.S.Storage.features g.S.Storage.bytes g.S.Storage.fault_count g.S.Storage.work g.S.Storage.maintenance (lent g.B.LowerLayer.as_layer_below c.args.below) (shows_below c.args.growth.mode) c.args.growth.block.length c.args.growth.size c.args.growth.new_size (entries_of c.args.table.now) (count_of c.args.table.now) (slice_get (entries_of c.args.table.now) (c.args.growth.size / c.args.growth.block.length)) (entries_of c.fill_cut.new.table) (count_of c.fill_cut.new.table) wanted c.args.storage.now _ c.in_err-fill_cut.field-0.0 (c.in_err-fill_cut.ensures.copies cutting c.requires.some))

pub returns-in-Err-clause-added : goal.returns-in-Err-clause-added
returns-in-Err-clause-added g c = λ wanted covers near whole.
    let same = c.fill_cut.ensures.idle whole in
    added_behind g.S.Storage.features g.S.Storage.bytes g.S.Storage.fault_count g.S.Storage.work g.S.Storage.maintenance (lent g.B.LowerLayer.as_layer_below c.args.below) (shows_below c.args.growth.mode) c.args.growth.block.length c.args.growth.new_size wanted _ _ _ _ _ _ _ (Err c.in-Err.e) (same.1) (same.2) (same.3) (c.in-Err.ensures.copies wanted covers near)

pub returns-in-Err-clause-filled : goal.returns-in-Err-clause-filled
returns-in-Err-clause-filled g c = λ wanted covers near cutting.
    filled_then g.S.Storage.features g.S.Storage.bytes g.S.Storage.fault_count g.S.Storage.work g.S.Storage.maintenance (lent g.B.LowerLayer.as_layer_below c.args.below) (shows_below c.args.growth.mode) c.args.growth.block.length c.args.growth.size c.args.growth.new_size (entries_of c.args.table.now) (count_of c.args.table.now) (slice_get (entries_of c.args.table.now) (c.args.growth.size / c.args.growth.block.length)) (entries_of c.fill_cut.new.table) (count_of c.fill_cut.new.table) wanted c.args.storage.now _ _ (Err c.in-Err.e) (c.in_ok-fill_cut.ensures.copies cutting c.requires.some) (c.in-Err.ensures.copies wanted covers near)

pub returns-clause-added : goal.returns-clause-added
returns-clause-added g c = λ wanted covers near whole.
    let same = c.fill_cut.ensures.idle whole in
    added_behind g.S.Storage.features g.S.Storage.bytes g.S.Storage.fault_count g.S.Storage.work g.S.Storage.maintenance (lent g.B.LowerLayer.as_layer_below c.args.below) (shows_below c.args.growth.mode) c.args.growth.block.length c.args.growth.new_size wanted _ _ _ _ _ _ _ (Ok tt) (same.1) (same.2) (same.3) (c.in_default.ensures.copies wanted covers near)

pub returns-clause-filled : goal.returns-clause-filled
returns-clause-filled g c = λ wanted covers near cutting.
    filled_then g.S.Storage.features g.S.Storage.bytes g.S.Storage.fault_count g.S.Storage.work g.S.Storage.maintenance (lent g.B.LowerLayer.as_layer_below c.args.below) (shows_below c.args.growth.mode) c.args.growth.block.length c.args.growth.size c.args.growth.new_size (entries_of c.args.table.now) (count_of c.args.table.now) (slice_get (entries_of c.args.table.now) (c.args.growth.size / c.args.growth.block.length)) (entries_of c.fill_cut.new.table) (count_of c.fill_cut.new.table) wanted c.args.storage.now _ _ (Ok tt) (c.in_ok-fill_cut.ensures.copies cutting c.requires.some) (c.in_default.ensures.copies wanted covers near)
