-- SPDX-License-Identifier: MIT
use Rattle.std.proofs.Common.{◌≡◌, ◌+◌, ◌*◌, ◌%◌, ◌<◌, ◌≤◌, arith, ap, sym, ◌∙◌, refl, inl, inr, Some, max, true, false}
use Rattle.imago_drivers.specs.declared.format.PreallocateMode.{PreallocateMode}
use Rattle.imago_drivers.specs.LayerBelow.{lent}
use Rattle.imago_cow.specs.Table.{named_count, is_absent}
use Rattle.imago_cow.specs.TableView.{entries_of, count_of}
use Rattle.imago_cow.specs.TableLaws.{named_below, named_once}
use Rattle.imago_cow.specs.Guest.{is_data}
use Rattle.imago_cow.specs.GuestLaws.{rest_small}
use Rattle.imago_cow.proofs.WholeSteps.{times_more}
use Rattle.imago_cow.specs.Cut.{IsCutRead, shows_below}
use Rattle.imago_cow.proofs.MapSteps.{number_ends}
use Rattle.imago_cow.proofs.StoredSteps.{on_ok, ok_holds}
use Rattle.imago_cow.proofs.CutSteps.{limit_padded, part_padded, if_limit_refused, taken_filled, data_filled, data_torn, if_refused, reads_behind}
use Rattle.imago_cow.proofs.GrownEntries.{cut_whole, cut_none, cut_zero, cut_data, absent_put, zero_put}
use Rattle.std.specs.Prelude.{slice_get}
use Rattle.std.proofs.Common.{◌/◌}
use Rattle.imago_cow.proofs.GrowthCallSteps.{filled_as_absent, filled_as_zero, left_zero, filled_as_data}
use Rattle.imago_cow.proofs.cut.fill_cut.Goals as goal

pub overflow_mul-start : goal.overflow_mul-start
overflow_mul-start g c =
    let t = c.args.table.now in
    let known = named_below t _ c.in-Data.number (c.entry_at.ensures ∙ ap (λ x. Some x) c.in-Data.is) in
    omega (arith, number_ends c.args.growth.block.length c.in-Data.number (count_of t) known, c.requires.ready.addressed)

pub overflow_add-start : goal.overflow_add-start
overflow_add-start g c =
    let t = c.args.table.now in
    let known = named_below t _ c.in-Data.number (c.entry_at.ensures ∙ ap (λ x. Some x) c.in-Data.is) in
    omega (arith, number_ends c.args.growth.block.length c.in-Data.number (count_of t) known, rest_small c.args.growth.block.length c.requires.ready.positive c.args.growth.size, c.requires.ready.addressed)

pub returns-in-Absent-clause-filled : goal.returns-in-Absent-clause-filled
returns-in-Absent-clause-filled g c =
    let t = c.args.table.now in
    let E = entries_of t in
    let f = g.S.Storage.features c.args.storage.now in
    let A = g.S.Storage.bytes c.args.storage.now in
    let L = lent g.B.LowerLayer.as_layer_below c.args.below in
    let low : (is_absent c.kind_of_new-new_kind.result) ≡ shows_below c.args.growth.mode = c.kind_of_new-new_kind.ensures in
    let cutting : 0 < c.args.growth.size % c.args.growth.block.length = omega (arith, (rw c.rest-rest.ensures.value at c.if-rest-eq0.false)) in
    let some : c.args.growth.mode ≡ PreallocateMode.None → ⊥ = c.adds_nothing.ensures.some c.if-adds_nothing.false in
    let r = c.fill_taken.ensures in
    on_ok c.fill_taken.result (λ x e. taken_filled L.at c.args.growth.mode f.keeps_data L.tells_bytes c.args.growth.block.length c.args.growth.size c.args.growth.new_size c.requires.ready.positive E (entries_of c.fill_taken.new.table) A (g.S.Storage.bytes c.fill_taken.new.storage) c.min-count.result true (is_absent c.kind_of_new-new_kind.result) cutting r.entries.len
    (λ x. c.entry_at.ensures ∙ ap (λ y. Some y) c.in-Absent.is) (λ x. let z : ⊥ = cc in absurd z) (rw c.rest-rest.ensures.value at c.min-count.ensures) low some (λ k. ok_holds x e (r.entered k)))

pub returns-in-Absent-clause-bounded : goal.returns-in-Absent-clause-bounded
returns-in-Absent-clause-bounded g c = λ most m1 m2.
    let t = c.args.table.now in
    let E = entries_of t in
    let growth = c.args.growth in
    let f = g.S.Storage.features c.args.storage.now in
    let low : (is_absent c.kind_of_new-new_kind.result) ≡ shows_below growth.mode = c.kind_of_new-new_kind.ensures in
    let cutting : 0 < growth.size % growth.block.length = omega (arith, (rw c.rest-rest.ensures.value at c.if-rest-eq0.false)) in
    let limit = max (count_of t) (named_count E + 1) in
    let less : limit ≤ most = omega (arith, m1, m2 cutting (ap is_data (c.entry_at.ensures ∙ ap (λ y. Some y) c.in-Absent.is))) in
    record {
      counted = omega (arith, less, c.fill_taken.ensures.taken.added);
      no_longer = limit_padded f growth.block.length limit most _ _ c.requires.ready.positive (omega arith) less c.fill_taken.ensures.no_longer;
      refusals = rw (← low) (if_limit_refused f (lent g.B.LowerLayer.as_layer_below c.args.below) (limit * growth.block.length) (most * growth.block.length) (IsCutRead growth.block.length growth.size E (is_absent c.kind_of_new-new_kind.result) growth.new_size) (IsCutRead growth.block.length growth.size E (is_absent c.kind_of_new-new_kind.result) growth.new_size) c.fill_taken.result (times_more growth.block.length limit most less) (λ p x. x)
          (c.fill_taken.ensures.refusals growth.new_size (omega (arith, (rw c.rest-rest.ensures.value at c.min-count.ensures), c.requires.grows))));
    }

pub returns-else-not-leads_below-clause-filled : goal.returns-else-not-leads_below-clause-filled
returns-else-not-leads_below-clause-filled g c =
    let t = c.args.table.now in
    let E = entries_of t in
    let f = g.S.Storage.features c.args.storage.now in
    let A = g.S.Storage.bytes c.args.storage.now in
    let L = lent g.B.LowerLayer.as_layer_below c.args.below in
    let low : (is_absent c.kind_of_new-new_kind.result) ≡ shows_below c.args.growth.mode = c.kind_of_new-new_kind.ensures in
    let cutting : 0 < c.args.growth.size % c.args.growth.block.length = omega (arith, (rw c.rest-rest.ensures.value at c.if-rest-eq0.false)) in
    let some : c.args.growth.mode ≡ PreallocateMode.None → ⊥ = c.adds_nothing.ensures.some c.if-adds_nothing.false in
    let r = c.fill_taken-in-Zero.ensures in
    on_ok c.fill_taken-in-Zero.result (λ x e. taken_filled L.at c.args.growth.mode f.keeps_data L.tells_bytes c.args.growth.block.length c.args.growth.size c.args.growth.new_size c.requires.ready.positive E (entries_of c.fill_taken-in-Zero.new.table) A (g.S.Storage.bytes c.fill_taken-in-Zero.new.storage) c.min-count.result false (is_absent c.kind_of_new-new_kind.result) cutting r.entries.len
    (λ x. let z : ⊥ = cc in absurd z) (λ x. c.entry_at.ensures ∙ ap (λ y. Some y) c.in-Zero.is) (rw c.rest-rest.ensures.value at c.min-count.ensures) low some (λ k. ok_holds x e (r.entered k)))

pub returns-else-not-leads_below-clause-bounded : goal.returns-else-not-leads_below-clause-bounded
returns-else-not-leads_below-clause-bounded g c = λ most m1 m2.
    let t = c.args.table.now in
    let E = entries_of t in
    let growth = c.args.growth in
    let f = g.S.Storage.features c.args.storage.now in
    let low : (is_absent c.kind_of_new-new_kind.result) ≡ shows_below growth.mode = c.kind_of_new-new_kind.ensures in
    let cutting : 0 < growth.size % growth.block.length = omega (arith, (rw c.rest-rest.ensures.value at c.if-rest-eq0.false)) in
    let limit = max (count_of t) (named_count E + 1) in
    let less : limit ≤ most = omega (arith, m1, m2 cutting (ap is_data (c.entry_at.ensures ∙ ap (λ y. Some y) c.in-Zero.is))) in
    record {
      counted = omega (arith, less, c.fill_taken-in-Zero.ensures.taken.added);
      no_longer = limit_padded f growth.block.length limit most _ _ c.requires.ready.positive (omega arith) less c.fill_taken-in-Zero.ensures.no_longer;
      refusals = rw (← low) (if_limit_refused f (lent g.B.LowerLayer.as_layer_below c.args.below) (limit * growth.block.length) (most * growth.block.length) (IsCutRead growth.block.length growth.size E (is_absent c.kind_of_new-new_kind.result) growth.new_size) (IsCutRead growth.block.length growth.size E (is_absent c.kind_of_new-new_kind.result) growth.new_size) c.fill_taken-in-Zero.result (times_more growth.block.length limit most less) (λ p x. x)
          (c.fill_taken-in-Zero.ensures.refusals growth.new_size (omega (arith, (rw c.rest-rest.ensures.value at c.min-count.ensures), c.requires.grows))));
    }

pub returns-in-Data-clause-filled : goal.returns-in-Data-clause-filled
returns-in-Data-clause-filled g c =
    let t = c.args.table.now in
    let E = entries_of t in
    let f = g.S.Storage.features c.args.storage.now in
    let A = g.S.Storage.bytes c.args.storage.now in
    let L = lent g.B.LowerLayer.as_layer_below c.args.below in
    let low : (is_absent c.kind_of_new-new_kind.result) ≡ shows_below c.args.growth.mode = c.kind_of_new-new_kind.ensures in
    let cutting : 0 < c.args.growth.size % c.args.growth.block.length = omega (arith, (rw c.rest-rest.ensures.value at c.if-rest-eq0.false)) in
    let some : c.args.growth.mode ≡ PreallocateMode.None → ⊥ = c.adds_nothing.ensures.some c.if-adds_nothing.false in
    let j = c.in-Data.number in
    let named = c.entry_at.ensures ∙ ap (λ x. Some x) c.in-Data.is in
    let known = named_below t _ j named in
    let rest = rest_small c.args.growth.block.length c.requires.ready.positive c.args.growth.size in
    let fits : c.args.growth.size % c.args.growth.block.length + c.min-count.result ≤ c.args.growth.block.length = omega (arith, (rw c.rest-rest.ensures.value at c.min-count.ensures), rest) in
    let B = g.S.Storage.bytes c.copy_old.new.storage in
    on_ok c.copy_old.result (λ x e. data_filled L.at c.args.growth.mode f.keeps_data L.tells_bytes c.args.growth.block.length c.args.growth.size c.args.growth.new_size c.requires.ready.positive E A B j c.min-count.result (is_absent c.kind_of_new-new_kind.result) cutting (λ i k n a b. named_once t i k n a b) named (rw c.rest-rest.ensures.value at c.min-count.ensures) low some
    (λ k told. ok_holds x e (rw c.rest-rest.ensures.value at (c.copy_old.ensures.copied k told))) (rw c.rest-rest.ensures.value at c.copy_old.ensures.outside))

pub returns-in-Data-clause-places : goal.returns-in-Data-clause-places
returns-in-Data-clause-places g c =
    let t = c.args.table.now in
    let E = entries_of t in
    let f = g.S.Storage.features c.args.storage.now in
    let A = g.S.Storage.bytes c.args.storage.now in
    let L = lent g.B.LowerLayer.as_layer_below c.args.below in
    let low : (is_absent c.kind_of_new-new_kind.result) ≡ shows_below c.args.growth.mode = c.kind_of_new-new_kind.ensures in
    let cutting : 0 < c.args.growth.size % c.args.growth.block.length = omega (arith, (rw c.rest-rest.ensures.value at c.if-rest-eq0.false)) in
    let some : c.args.growth.mode ≡ PreallocateMode.None → ⊥ = c.adds_nothing.ensures.some c.if-adds_nothing.false in
    let j = c.in-Data.number in
    let named = c.entry_at.ensures ∙ ap (λ x. Some x) c.in-Data.is in
    let known = named_below t _ j named in
    let rest = rest_small c.args.growth.block.length c.requires.ready.positive c.args.growth.size in
    let fits : c.args.growth.size % c.args.growth.block.length + c.min-count.result ≤ c.args.growth.block.length = omega (arith, (rw c.rest-rest.ensures.value at c.min-count.ensures), rest) in
    let B = g.S.Storage.bytes c.copy_old.new.storage in
    λ k p h. data_torn c.args.growth.block.length c.args.growth.size c.min-count.result j E A B c.requires.ready.positive (λ i n q a b. named_once t i n q a b) named fits (rw c.rest-rest.ensures.value at (c.copy_old.ensures.outside k)) p h

pub returns-in-Data-clause-bounded : goal.returns-in-Data-clause-bounded
returns-in-Data-clause-bounded g c = λ most m1 m2.
    let t = c.args.table.now in
    let E = entries_of t in
    let growth = c.args.growth in
    let f = g.S.Storage.features c.args.storage.now in
    let low : (is_absent c.kind_of_new-new_kind.result) ≡ shows_below growth.mode = c.kind_of_new-new_kind.ensures in
    let j = c.in-Data.number in
    let known = named_below t _ j (c.entry_at.ensures ∙ ap (λ x. Some x) c.in-Data.is) in
    let rest = rest_small growth.block.length c.requires.ready.positive growth.size in
    let fits : growth.size % growth.block.length + c.min-count.result ≤ growth.block.length = omega (arith, (rw c.rest-rest.ensures.value at c.min-count.ensures), rest) in
    let less : j < most = omega (arith, known, m1) in
    record {
      counted = m1;
      no_longer = part_padded f growth.block.length j most (growth.size % growth.block.length) c.min-count.result _ _ c.requires.ready.positive less fits (rw c.rest-rest.ensures.value at c.copy_old.ensures.no_longer);
      refusals = rw (← low) (if_refused f (lent g.B.LowerLayer.as_layer_below c.args.below) (is_absent c.kind_of_new-new_kind.result) growth.size c.min-count.result (j * growth.block.length + growth.size % growth.block.length) (most * growth.block.length) (IsCutRead growth.block.length growth.size E (is_absent c.kind_of_new-new_kind.result) growth.new_size) c.copy_old.result
          (omega (arith, number_ends growth.block.length j most less, fits)) (reads_behind growth.block.length growth.size c.min-count.result growth.new_size E (is_absent c.kind_of_new-new_kind.result) (omega (arith, (rw c.rest-rest.ensures.value at c.min-count.ensures), c.requires.grows))) (rw c.rest-rest.ensures.value at c.copy_old.ensures.refusals));
    }

pub returns-in-Absent-clause-entry : goal.returns-in-Absent-clause-entry
returns-in-Absent-clause-entry g c =
    on_ok c.fill_taken.result (λ x e.
    let q = ok_holds x e c.fill_taken.ensures.entries.done in
    inr (record { cuts = omega (arith, (rw c.rest-rest.ensures.value at c.if-rest-eq0.false)); empty = ap is_data (c.entry_at.ensures ∙ ap (λ y. Some y) c.in-Absent.is); number = q.0; entries = q.1 }))

pub returns-else-not-leads_below-clause-entry : goal.returns-else-not-leads_below-clause-entry
returns-else-not-leads_below-clause-entry g c =
    on_ok c.fill_taken-in-Zero.result (λ x e.
    let q = ok_holds x e c.fill_taken-in-Zero.ensures.entries.done in
    inr (record { cuts = omega (arith, (rw c.rest-rest.ensures.value at c.if-rest-eq0.false)); empty = ap is_data (c.entry_at.ensures ∙ ap (λ y. Some y) c.in-Zero.is); number = q.0; entries = q.1 }))

pub returns-in-Data-clause-entry : goal.returns-in-Data-clause-entry
returns-in-Data-clause-entry g c = on_ok c.copy_old.result (λ x e. inl refl)

pub returns-then-rest-eq0-clause-grown : goal.returns-then-rest-eq0-clause-grown
returns-then-rest-eq0-clause-grown g c = cut_whole _ _ _ _ (rw c.rest-rest.ensures.value at c.if-rest-eq0.true)

pub returns-then-adds_nothing-clause-grown : goal.returns-then-adds_nothing-clause-grown
returns-then-adds_nothing-clause-grown g c = cut_none _ _ _ _ (c.adds_nothing.ensures.none c.if-adds_nothing.true)

pub returns-in-Absent-clause-grown : goal.returns-in-Absent-clause-grown
returns-in-Absent-clause-grown g c =
    let growth = c.args.growth in
    let cutting : 0 < growth.size % growth.block.length = omega (arith, (rw c.rest-rest.ensures.value at c.if-rest-eq0.false)) in
    on_ok c.fill_taken.result (λ x e.
    let put = ok_holds x e c.fill_taken.ensures.entries.done in
    absent_put growth.mode growth.block.length growth.size (entries_of c.args.table.now) (entries_of c.fill_taken.new.table) (put.0) (c.requires.within cutting) (put.1) (c.entry_at.ensures ∙ ap (λ y. Some y) c.in-Absent.is) (c.adds_nothing.ensures.some c.if-adds_nothing.false))

pub returns-then-not-leads_below-clause-grown : goal.returns-then-not-leads_below-clause-grown
returns-then-not-leads_below-clause-grown g c =
    let growth = c.args.growth in
    cut_zero growth.mode growth.block.length growth.size (entries_of c.args.table.now) (c.entry_at.ensures ∙ ap (λ y. Some y) c.in-Zero.is) (sym c.kind_of_new-new_kind.ensures ∙ sym c.leads_below.ensures ∙ c.if-not-leads_below.true)

pub returns-else-not-leads_below-clause-grown : goal.returns-else-not-leads_below-clause-grown
returns-else-not-leads_below-clause-grown g c =
    let growth = c.args.growth in
    let cutting : 0 < growth.size % growth.block.length = omega (arith, (rw c.rest-rest.ensures.value at c.if-rest-eq0.false)) in
    on_ok c.fill_taken-in-Zero.result (λ x e.
    let put = ok_holds x e c.fill_taken-in-Zero.ensures.entries.done in
    zero_put growth.mode growth.block.length growth.size (entries_of c.args.table.now) (entries_of c.fill_taken-in-Zero.new.table) (put.0) (c.requires.within cutting) (put.1) (c.entry_at.ensures ∙ ap (λ y. Some y) c.in-Zero.is) (sym c.kind_of_new-new_kind.ensures ∙ sym c.leads_below.ensures ∙ c.if-not-leads_below.false))

pub returns-in-Data-clause-grown : goal.returns-in-Data-clause-grown
returns-in-Data-clause-grown g c =
    let growth = c.args.growth in
    on_ok c.copy_old.result (λ x e. cut_data growth.mode growth.block.length growth.size (entries_of c.args.table.now) c.in-Data.number (c.entry_at.ensures ∙ ap (λ y. Some y) c.in-Data.is))

pub returns-in-Absent-clause-copies : goal.returns-in-Absent-clause-copies
returns-in-Absent-clause-copies g c = λ cutting some.
    let growth = c.args.growth in
    filled_as_absent g.S.Storage.features g.S.Storage.bytes g.S.Storage.fault_count g.S.Storage.work g.S.Storage.maintenance (lent g.B.LowerLayer.as_layer_below c.args.below) (shows_below growth.mode) growth.block.length growth.size growth.new_size (entries_of c.args.table.now) (count_of c.args.table.now) (slice_get (entries_of c.args.table.now) (growth.size / growth.block.length)) _ _ c.min-count.result c.args.storage.now _ _ (c.entry_at.ensures ∙ ap (λ y. Some y) c.in-Absent.is) (rw c.rest-rest.ensures.value at c.min-count.ensures)
    (rw c.kind_of_new-new_kind.ensures at c.fill_taken.ensures.copies)

pub returns-then-not-leads_below-clause-copies : goal.returns-then-not-leads_below-clause-copies
returns-then-not-leads_below-clause-copies g c = λ cutting some.
    let growth = c.args.growth in
    left_zero g.S.Storage.features g.S.Storage.bytes g.S.Storage.fault_count g.S.Storage.work g.S.Storage.maintenance (lent g.B.LowerLayer.as_layer_below c.args.below) (shows_below growth.mode) growth.block.length growth.size growth.new_size (entries_of c.args.table.now) (count_of c.args.table.now) (slice_get (entries_of c.args.table.now) (growth.size / growth.block.length)) c.args.storage.now (c.entry_at.ensures ∙ ap (λ y. Some y) c.in-Zero.is) (sym c.kind_of_new-new_kind.ensures ∙ sym c.leads_below.ensures ∙ c.if-not-leads_below.true)

pub returns-else-not-leads_below-clause-copies : goal.returns-else-not-leads_below-clause-copies
returns-else-not-leads_below-clause-copies g c = λ cutting some.
    let growth = c.args.growth in
    filled_as_zero g.S.Storage.features g.S.Storage.bytes g.S.Storage.fault_count g.S.Storage.work g.S.Storage.maintenance (lent g.B.LowerLayer.as_layer_below c.args.below) (shows_below growth.mode) growth.block.length growth.size growth.new_size (entries_of c.args.table.now) (count_of c.args.table.now) (slice_get (entries_of c.args.table.now) (growth.size / growth.block.length)) _ _ c.min-count.result c.args.storage.now _ _ (c.entry_at.ensures ∙ ap (λ y. Some y) c.in-Zero.is) (sym c.kind_of_new-new_kind.ensures ∙ sym c.leads_below.ensures ∙ c.if-not-leads_below.false) (rw c.rest-rest.ensures.value at c.min-count.ensures)
    (rw c.kind_of_new-new_kind.ensures at c.fill_taken-in-Zero.ensures.copies)

pub returns-in-Data-clause-copies : goal.returns-in-Data-clause-copies
returns-in-Data-clause-copies g c = λ cutting some.
    let growth = c.args.growth in
    filled_as_data g.S.Storage.features g.S.Storage.bytes g.S.Storage.fault_count g.S.Storage.work g.S.Storage.maintenance (lent g.B.LowerLayer.as_layer_below c.args.below) (shows_below growth.mode) growth.block.length growth.size growth.new_size (entries_of c.args.table.now) (count_of c.args.table.now) (slice_get (entries_of c.args.table.now) (growth.size / growth.block.length)) c.in-Data.number c.min-count.result c.rest-rest.result c.args.storage.now _ _ (c.entry_at.ensures ∙ ap (λ y. Some y) c.in-Data.is) c.min-count.ensures c.rest-rest.ensures.value
    (rw c.kind_of_new-new_kind.ensures at c.copy_old.ensures.copies)
