-- SPDX-License-Identifier: MIT
use Rattle.std.proofs.Common.{◌≡◌, ◌+◌, ◌*◌, ◌%◌, ◌<◌, Some, None, Ok, Err, arith, refl, ap, ◌∙◌}
use Rattle.std.proofs.lemmas.Result.{err_from_is_err_and}
use Rattle.imago_storage.specs.declared.error.Error.{Error}
use Rattle.imago_drivers.specs.declared.mapping.PreparedDataMapping.{PreparedDataMapping}
use Rattle.imago_drivers.specs.declared.mapping.Ticket.{Ticket}
use Rattle.imago_cow.specs.declared.cow.Waiting.{Waiting}
use Rattle.imago_drivers.specs.LayerBelow.{lent}
use Rattle.imago_drivers.specs.Parts.{number_of}
use Rattle.imago_cow.specs.TableView.{entries_of, count_of}
use Rattle.imago_cow.specs.TableLaws.{named_below}
use Rattle.imago_cow.specs.GuestLaws.{rest_small}
use Rattle.imago_cow.specs.Cow.{cow_view}
use Rattle.imago_cow.specs.CowLaws.{cow_causes}
use Rattle.imago_cow.proofs.MapSteps.{number_ends}
use Rattle.imago_cow.proofs.PrepareSteps.{counts_as}
use Rattle.imago_cow.proofs.DriverSteps.{none_waits}
use Rattle.imago_cow.proofs.ExistingSteps.{not_in_data, stands_prepared, prepared_existing}
use Rattle.imago_cow.proofs.CopyCallSteps.{asked_none, found_in_data, copied_for}
use Rattle.imago_cow.proofs.cow.CowFormatDriverInstance.prepare_data_mapping.Goals as goal

pub returns-then-count-eq0-clause-call : goal.returns-then-count-eq0-clause-call
returns-then-count-eq0-clause-call g c =
    let s = c.args.self.now in
    let f = g.S.Storage.features s.storage in
    let A = g.S.Storage.bytes s.storage in
    let n = g.S.Storage.fault_count s.storage + s.faults in
    let E = entries_of s.table in
    let L = lent g.B.LowerLayer.as_layer_below c.args.below in
    let none : s.waiting ≡ None = none_waits s.block.length s.size A s.waiting c.requires.spent in
    stands_prepared (cow_view f n A s.size s.block.length E (count_of s.table) s.waiting) L c.args.offset c.args.count c.requires.spent (cow_causes f n A s.size s.block.length E (count_of s.table) s.waiting) c.existing.result

pub overflow_mul-number : goal.overflow_mul-number
overflow_mul-number g c =
    let s = c.args.self.now in
    let k = named_below s.table _ c.in-Data.number (c.entry_at-entry.ensures ∙ ap (λ x. Some x) c.in-Data.is) in
    omega (arith, number_ends s.block.length c.in-Data.number (count_of s.table) k, s.addressed)

pub overflow_add-number : goal.overflow_add-number
overflow_add-number g c =
    let s = c.args.self.now in
    let k = named_below s.table _ c.in-Data.number (c.entry_at-entry.ensures ∙ ap (λ x. Some x) c.in-Data.is) in
    omega (arith, number_ends s.block.length c.in-Data.number (count_of s.table) k, rest_small s.block.length s.positive c.args.offset, s.addressed)

pub returns-in-Data-clause-prepared : goal.returns-in-Data-clause-prepared
returns-in-Data-clause-prepared g c =
    let s = c.args.self.now in
    let f = g.S.Storage.features s.storage in
    let A = g.S.Storage.bytes s.storage in
    let n = g.S.Storage.fault_count s.storage + s.faults in
    let E = entries_of s.table in
    let L = lent g.B.LowerLayer.as_layer_below c.args.below in
    let none : s.waiting ≡ None = none_waits s.block.length s.size A s.waiting c.requires.spent in
    let m = c.existing-in-Data.ensures in
    rw none (prepared_existing f n A s.size s.block.length E (count_of s.table) c.args.offset c.args.count s.positive c.requires.inside c.in-Data.number c.min-run.result c.args.overwrite L.tells_bytes _ c.existing-in-Data.result
    (c.entry_at-entry.ensures ∙ ap (λ x. Some x) c.in-Data.is) (omega (arith, c.if-count-eq0.false)) (rw c.rest-rest.ensures.value at c.min-run.ensures) m.storage (rw c.rest-rest.ensures.value at m.offset) m.length m.state)

pub returns-in-Data-clause-call : goal.returns-in-Data-clause-call
returns-in-Data-clause-call g c =
    let s = c.args.self.now in
    let f = g.S.Storage.features s.storage in
    let A = g.S.Storage.bytes s.storage in
    let n = g.S.Storage.fault_count s.storage + s.faults in
    let E = entries_of s.table in
    let L = lent g.B.LowerLayer.as_layer_below c.args.below in
    let none : s.waiting ≡ None = none_waits s.block.length s.size A s.waiting c.requires.spent in
    stands_prepared (cow_view f n A s.size s.block.length E (count_of s.table) s.waiting) L c.args.offset c.args.count c.requires.spent (cow_causes f n A s.size s.block.length E (count_of s.table) s.waiting) c.existing-in-Data.result

pub returns-in-Data-clause-in_data : goal.returns-in-Data-clause-in_data
returns-in-Data-clause-in_data g c = λ j h. (refl, refl, refl, refl)

pub returns-in_err-waiting : goal.returns-in_err-waiting
returns-in_err-waiting g c =
    let s = c.args.self.now in
    let f = g.S.Storage.features s.storage in
    let A = g.S.Storage.bytes s.storage in
    let n = g.S.Storage.fault_count s.storage + s.faults in
    let E = entries_of s.table in
    let L = lent g.B.LowerLayer.as_layer_below c.args.below in
    let none : s.waiting ≡ None = none_waits s.block.length s.size A s.waiting c.requires.spent in
    let t = c.prepare_part.new in
    let B = g.S.Storage.bytes t.storage in
    let n' = g.S.Storage.fault_count t.storage + t.faults in
    let e = c.prepare_part.ensures in
    let some : 0 < c.args.count = omega (arith, c.if-count-eq0.false) in
    let p = err_from_is_err_and c.from_residual.result c.from_residual.ensures.1 in
    rw (p.1, p.2) (record {
      prepared = tt;
      call = rw (none, e.call.features) (record {
        unchanged = e.unchanged n' n None;
        refused = refl;
        causes = tt;
        lengths = record { no_shorter = λ i. e.call.no_shorter; no_longer = λ i. e.no_longer c.args.count some };
        faults = counts_as {T = Waiting} {U = PreparedDataMapping Ticket} _ _ _ c.prepare_part.result (Err (c.in_err-waiting.field-0.0)) (λ x. let y : c.in_err-waiting.field-0.0 ≡ Error.Device = cc in c.in_err-waiting.was ∙ ap (λ z. Err z) y) e.call.faults;
        refusals = c.in_err-waiting.ensures.refusals n c.args.count some;
      });
      entries = e.table.entries;
      added = e.table.added;
      lowest = tt;
      in_data = λ j h. absurd (not_in_data _ _ j c.entry_at-entry.ensures c.in_default.not-Data h);
      performed = (copied_for g.S.Storage.features g.S.Storage.bytes g.S.Storage.fault_count g.S.Storage.work g.S.Storage.maintenance (lent g.B.LowerLayer.as_layer_below c.args.below) c.args.overwrite (entries_of s.table) (count_of s.table) s.block.length s.size c.args.offset c.args.count c.kind_of.result c.min-run.result s.storage t.storage (Err c.in_err-waiting.field-0.0) (c.entry_at-entry.ensures ∙ ap (λ x. Some x) (c.kind_of.ensures c.in_default.not-Data)) some (rw c.rest-rest.ensures.value at c.min-run.ensures) c.in_err-waiting.ensures.copies, refl, refl, e.table.entries, refl, tt);
      by_name = c.in_err-waiting.ensures.call.by_name;
      over = λ o. c.in_err-waiting.ensures.over c.args.count some (rw c.rest-rest.ensures.value at c.min-run.ensures) o;
    })

pub returns : goal.returns
returns g c =
    let s = c.args.self.now in
    let f = g.S.Storage.features s.storage in
    let A = g.S.Storage.bytes s.storage in
    let n = g.S.Storage.fault_count s.storage + s.faults in
    let E = entries_of s.table in
    let L = lent g.B.LowerLayer.as_layer_below c.args.below in
    let none : s.waiting ≡ None = none_waits s.block.length s.size A s.waiting c.requires.spent in
    let t = c.prepare_part.new in
    let B = g.S.Storage.bytes t.storage in
    let n' = g.S.Storage.fault_count t.storage + t.faults in
    let e = c.prepare_part.ensures in
    let some : 0 < c.args.count = omega (arith, c.if-count-eq0.false) in
    let k = c.in_ok-waiting.ensures in
    let w = c.in_ok-waiting.waiting in
    let m = c.to_commit.ensures in
    let S = k.settled in
    record {
      prepared = rw (none, e.call.features) (k.prepared c.args.count n' n c.to_commit.result some (rw c.rest-rest.ensures.value at c.min-run.ensures) (record { storage = m.storage; offset = m.offset; run = m.length; state = m.state }));
      call = rw (none, e.call.features) (record {
        unchanged = e.unchanged n' n (Some w);
        refused = tt;
        causes = rw (e.table.entries, m.length, ← k.waits.start) S;
        lengths = record { no_shorter = λ i. e.call.no_shorter; no_longer = λ i. e.no_longer c.args.count some };
        faults = counts_as _ _ _ c.prepare_part.result (Ok c.to_commit.result) (λ x. let z : ⊥ = cc in absurd z) e.call.faults;
        refusals = tt;
      });
      entries = e.table.entries;
      added = e.table.added;
      lowest = λ with_state. record {
        number = w.number;
        lowest = k.waits.lowest;
        stands = m.offset ∙ k.waits.apart.offset ∙ ap (λ o. w.number * s.block.length + o % s.block.length) k.waits.start;
      };
      in_data = λ j h. absurd (not_in_data _ _ j c.entry_at-entry.ensures c.in_default.not-Data h);
      performed = (copied_for g.S.Storage.features g.S.Storage.bytes g.S.Storage.fault_count g.S.Storage.work g.S.Storage.maintenance (lent g.B.LowerLayer.as_layer_below c.args.below) c.args.overwrite (entries_of s.table) (count_of s.table) s.block.length s.size c.args.offset c.args.count c.kind_of.result c.min-run.result s.storage t.storage (Ok tt) (c.entry_at-entry.ensures ∙ ap (λ x. Some x) (c.kind_of.ensures c.in_default.not-Data)) some (rw c.rest-rest.ensures.value at c.min-run.ensures) k.copies, refl, refl, e.table.entries, tt, rw m.state (refl, ap number_of k.waits.state ∙ c.new-state.ensures));
      by_name = tt;
      over = λ o. tt;
    }

pub returns-then-count-eq0-clause-performed : goal.returns-then-count-eq0-clause-performed
returns-then-count-eq0-clause-performed g c =
    let s = c.args.self.now in
    (asked_none g.S.Storage.features g.S.Storage.bytes g.S.Storage.fault_count g.S.Storage.work g.S.Storage.maintenance (lent g.B.LowerLayer.as_layer_below c.args.below) c.args.overwrite (entries_of s.table) (count_of s.table) s.block.length s.size c.args.offset c.args.count s.storage (Ok tt) (omega (arith, c.if-count-eq0.true)), refl, refl, refl, tt, rw c.existing.ensures.state refl)

pub returns-in-Data-clause-performed : goal.returns-in-Data-clause-performed
returns-in-Data-clause-performed g c =
    let s = c.args.self.now in
    (found_in_data g.S.Storage.features g.S.Storage.bytes g.S.Storage.fault_count g.S.Storage.work g.S.Storage.maintenance (lent g.B.LowerLayer.as_layer_below c.args.below) c.args.overwrite (entries_of s.table) (count_of s.table) s.block.length s.size c.args.offset c.args.count s.storage (Ok tt) _ (c.entry_at-entry.ensures ∙ ap (λ x. Some x) c.in-Data.is) refl, refl, refl, refl, tt, rw c.existing-in-Data.ensures.state refl)
