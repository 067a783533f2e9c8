-- SPDX-License-Identifier: MIT
use Rattle.std.proofs.Common.{◌+◌, arith, refl, sym, ◌∙◌}
use Rattle.std.proofs.lemmas.Result.{err_from_is_err_and}
use Rattle.imago_drivers.specs.LayerBelow.{lent}
use Rattle.imago_test_tables.specs.Pair.{at_index}
use Rattle.imago_test_tables.specs.Sparse.{sparse_view}
use Rattle.imago_test_tables.specs.SparseLaws.{sparse_causes}
use Rattle.imago_test_tables.proofs.SparseSteps.{and_left, some_run, prepared_existing, prepared_apart}
use Rattle.imago_test_tables.proofs.PrepareSteps.{stands_prepared, entry_refused, free_origin, free_at, waits_apart, shown_copy, copy_refused, copy_not_prepared, copy_prepared}
use Rattle.imago_test_tables.proofs.sparse.SparseFormatDriverInstance.prepare_data_mapping.Goals as goal

pub returns-then-count-eq0-clause-call : goal.returns-then-count-eq0-clause-call
returns-then-count-eq0-clause-call g c =
    let s = c.args.self.now in
    let A = g.S.Storage.bytes s.storages.first in
    let B = g.S.Storage.bytes s.storages.second in
    let f = g.S.Storage.features s.storages.first in
    let h = g.S.Storage.features s.storages.second in
    let n = g.S.Storage.fault_count s.storages.first + g.S.Storage.fault_count s.storages.second + s.storages.faults in
    stands_prepared (sparse_view f h n A B s.table.items s.size s.settings s.short s.waiting) (lent g.B.LowerLayer.as_layer_below c.args.below) c.args.offset c.args.count c.requires.spent (sparse_causes f h n A B s.table.items s.size s.settings s.short s.waiting) c.existing.result

pub returns-in_err-origin-clause-call : goal.returns-in_err-origin-clause-call
returns-in_err-origin-clause-call g c =
    let s = c.args.self.now in
    let A = g.S.Storage.bytes s.storages.first in
    let B = g.S.Storage.bytes s.storages.second in
    let f = g.S.Storage.features s.storages.first in
    let h = g.S.Storage.features s.storages.second in
    let n = g.S.Storage.fault_count s.storages.first + g.S.Storage.fault_count s.storages.second + s.storages.faults in
    let r = c.in_err-origin.ensures in
    let p = err_from_is_err_and c.from_residual.result c.from_residual.ensures.1 in
    rw (p.1, p.2) (entry_refused f h n A B s.table.items s.size s.settings s.short s.waiting (lent g.B.LowerLayer.as_layer_below c.args.below) c.args.offset c.args.count c.in_err-origin.field-0.0 c.requires.spent (omega (arith, c.if-count-eq0.false))
    r.only (rw c.deref.ensures.value at r.barred) (rw c.deref.ensures.value at r.beyond))

pub returns-in-Some-clause-prepared : goal.returns-in-Some-clause-prepared
returns-in-Some-clause-prepared g c =
    let s = c.args.self.now in
    let A = g.S.Storage.bytes s.storages.first in
    let B = g.S.Storage.bytes s.storages.second in
    let f = g.S.Storage.features s.storages.first in
    let h = g.S.Storage.features s.storages.second in
    let n = g.S.Storage.fault_count s.storages.first + g.S.Storage.fault_count s.storages.second + s.storages.faults in
    let o = c.args.offset in
    let run = c.run_of-run.result in
    let table = s.table.items in
    let found = c.in_ok-origin.ensures.found in
    let at = rw c.deref.ensures.value at (found.0) in
    let equal = rw c.deref-2.ensures.value at c.run_of-run.ensures.equal in
    let ends = rw c.deref-2.ensures.value at c.run_of-run.ensures.ends in
    let e = c.existing-in-Some.ensures in
    prepared_existing f h n A B table s.size s.settings s.short s.waiting o c.args.count run c.in-Some.index _ c.args.overwrite _ _ c.existing-in-Some.result
    c.requires.spent at (sym c.storage_index.ensures ∙ c.in-Some.is) c.run_of-run.ensures.most equal ends e.storage e.offset e.length e.state

pub returns-in-Some-clause-call : goal.returns-in-Some-clause-call
returns-in-Some-clause-call g c =
    let s = c.args.self.now in
    let A = g.S.Storage.bytes s.storages.first in
    let B = g.S.Storage.bytes s.storages.second in
    let f = g.S.Storage.features s.storages.first in
    let h = g.S.Storage.features s.storages.second in
    let n = g.S.Storage.fault_count s.storages.first + g.S.Storage.fault_count s.storages.second + s.storages.faults in
    stands_prepared (sparse_view f h n A B s.table.items s.size s.settings s.short s.waiting) (lent g.B.LowerLayer.as_layer_below c.args.below) c.args.offset c.args.count c.requires.spent (sparse_causes f h n A B s.table.items s.size s.settings s.short s.waiting) c.existing-in-Some.result

pub returns-in_err-copy_shown-clause-call : goal.returns-in_err-copy_shown-clause-call
returns-in_err-copy_shown-clause-call g c =
    let s = c.args.self.now in
    let A = g.S.Storage.bytes s.storages.first in
    let B = g.S.Storage.bytes s.storages.second in
    let f = g.S.Storage.features s.storages.first in
    let h = g.S.Storage.features s.storages.second in
    let n = g.S.Storage.fault_count s.storages.first + g.S.Storage.fault_count s.storages.second + s.storages.faults in
    let o = c.args.offset in
    let run = c.run_of-run.result in
    let table = s.table.items in
    let found = c.in_ok-origin.ensures.found in
    let at = rw c.deref.ensures.value at (found.0) in
    let equal = rw c.deref-2.ensures.value at c.run_of-run.ensures.equal in
    let ends = rw c.deref-2.ensures.value at c.run_of-run.ensures.ends in
    let none = sym c.storage_index.ensures ∙ c.in_default.is in
    let free = free_origin _ (found.1) none in
    let t = c.copy_shown.new.storages in
    let A' = g.S.Storage.bytes t.first in
    let B' = g.S.Storage.bytes t.second in
    let n' = g.S.Storage.fault_count t.first + g.S.Storage.fault_count t.second + t.faults in
    let e = c.copy_shown.ensures in
    let some = some_run table o run c.args.count _ at ends (omega (arith, c.if-count-eq0.false)) in
    let p = err_from_is_err_and c.from_residual-in_err-copy_shown.result c.from_residual-in_err-copy_shown.ensures.1 in
    rw (p.1, p.2) (copy_not_prepared f h (g.S.Storage.features t.first) (g.S.Storage.features t.second) n n' A B A' B' table s.size s.settings s.short (lent g.B.LowerLayer.as_layer_below c.args.below) o c.args.count run
    e.first_features e.second_features e.second c.run_of-run.ensures.most (free_at table o run _ free equal) e.outside e.no_shorter e.no_longer
    c.in_err-copy_shown.field-0.0 s.waiting s.waiting c.copy_shown.result c.in_err-copy_shown.was c.requires.spent refl e.faults
    (copy_refused f h n A B table s.size s.settings s.short s.waiting (lent g.B.LowerLayer.as_layer_below c.args.below) o c.args.count run _ c.run_of-run.ensures.most some equal _ c.in_err-copy_shown.ensures.refusals))

pub invariant_of-self-2 : goal.invariant_of-self-2
invariant_of-self-2 g c =
    let s = c.args.self.now in
    let A = g.S.Storage.bytes s.storages.first in
    let B = g.S.Storage.bytes s.storages.second in
    let f = g.S.Storage.features s.storages.first in
    let h = g.S.Storage.features s.storages.second in
    let n = g.S.Storage.fault_count s.storages.first + g.S.Storage.fault_count s.storages.second + s.storages.faults in
    let o = c.args.offset in
    let run = c.run_of-run.result in
    let table = s.table.items in
    let found = c.in_ok-origin.ensures.found in
    let at = rw c.deref.ensures.value at (found.0) in
    let equal = rw c.deref-2.ensures.value at c.run_of-run.ensures.equal in
    let ends = rw c.deref-2.ensures.value at c.run_of-run.ensures.ends in
    let none = sym c.storage_index.ensures ∙ c.in_default.is in
    let free = free_origin _ (found.1) none in
    let some = some_run table o run c.args.count _ at ends (omega (arith, c.if-count-eq0.false)) in
    let inside = rw c.deref-2.ensures.value at c.run_of-run.ensures.inside in
    record { fits = s.fits; bounded = s.bounded; filled = s.filled; granular = s.granular; waits_apart = waits_apart table o run _ _ free (inside some) equal }

pub returns-clause-prepared : goal.returns-clause-prepared
returns-clause-prepared g c =
    let s = c.args.self.now in
    let A = g.S.Storage.bytes s.storages.first in
    let B = g.S.Storage.bytes s.storages.second in
    let f = g.S.Storage.features s.storages.first in
    let h = g.S.Storage.features s.storages.second in
    let n = g.S.Storage.fault_count s.storages.first + g.S.Storage.fault_count s.storages.second + s.storages.faults in
    let o = c.args.offset in
    let run = c.run_of-run.result in
    let table = s.table.items in
    let found = c.in_ok-origin.ensures.found in
    let at = rw c.deref.ensures.value at (found.0) in
    let equal = rw c.deref-2.ensures.value at c.run_of-run.ensures.equal in
    let ends = rw c.deref-2.ensures.value at c.run_of-run.ensures.ends in
    let none = sym c.storage_index.ensures ∙ c.in_default.is in
    let free = free_origin _ (found.1) none in
    let t = c.copy_shown.new.storages in
    let A' = g.S.Storage.bytes t.first in
    let B' = g.S.Storage.bytes t.second in
    let n' = g.S.Storage.fault_count t.first + g.S.Storage.fault_count t.second + t.faults in
    let e = c.copy_shown.ensures in
    let m = c.to_commit.ensures in
    prepared_apart f h (g.S.Storage.features t.first) (g.S.Storage.features t.second) n n' A B A' B' table s.size s.settings s.short s.waiting o c.args.count run _ _ c.args.overwrite _ _ c.to_commit.result
    e.first_features e.second_features at c.run_of-run.ensures.most equal ends m.storage m.offset m.length m.state
    (λ k tells over. shown_copy _ (at_index A B) table A' o run _ free equal (c.in_ok-copy_shown.ensures.copied (and_left f.keeps_data h.keeps_data k) tells over))

pub returns-clause-call : goal.returns-clause-call
returns-clause-call g c =
    let s = c.args.self.now in
    let A = g.S.Storage.bytes s.storages.first in
    let B = g.S.Storage.bytes s.storages.second in
    let f = g.S.Storage.features s.storages.first in
    let h = g.S.Storage.features s.storages.second in
    let n = g.S.Storage.fault_count s.storages.first + g.S.Storage.fault_count s.storages.second + s.storages.faults in
    let o = c.args.offset in
    let run = c.run_of-run.result in
    let table = s.table.items in
    let found = c.in_ok-origin.ensures.found in
    let at = rw c.deref.ensures.value at (found.0) in
    let equal = rw c.deref-2.ensures.value at c.run_of-run.ensures.equal in
    let ends = rw c.deref-2.ensures.value at c.run_of-run.ensures.ends in
    let none = sym c.storage_index.ensures ∙ c.in_default.is in
    let free = free_origin _ (found.1) none in
    let t = c.copy_shown.new.storages in
    let A' = g.S.Storage.bytes t.first in
    let B' = g.S.Storage.bytes t.second in
    let n' = g.S.Storage.fault_count t.first + g.S.Storage.fault_count t.second + t.faults in
    let e = c.copy_shown.ensures in
    copy_prepared f h (g.S.Storage.features t.first) (g.S.Storage.features t.second) n n' A B A' B' table s.size s.settings s.short (lent g.B.LowerLayer.as_layer_below c.args.below) o c.args.count run
    e.first_features e.second_features e.second c.run_of-run.ensures.most (free_at table o run _ free equal) e.outside e.no_shorter e.no_longer
    c.to_commit.result s.waiting _ c.copy_shown.result e.faults
