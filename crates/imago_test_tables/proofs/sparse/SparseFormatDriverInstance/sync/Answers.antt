-- SPDX-License-Identifier: MIT
use Rattle.std.proofs.Common.{◌+◌, arith, refl}
use Rattle.imago_test_tables.specs.Sparse.{sparse_view, never_fails}
use Rattle.imago_test_tables.proofs.SparseSteps.{same_stores, sparse_faults, sparse_flush_refused}
use Rattle.imago_test_tables.proofs.sparse.SparseFormatDriverInstance.sync.Goals as goal

pub returns : goal.returns
returns g c =
    let s = c.args.self.now in
    let e = c.sync.ensures in
    record {
      performed = (e.performed, refl);
      unchanged = same_stores _ _ _ _ _ _ _ _ _ _ s.table.items s.size s.settings s.short s.waiting e.first e.second e.first_features e.second_features;
      pending = rw (e.first, e.first_features, e.second_features) refl;
      causes = record { causes = λ op o n r x. x; copied = λ op o n p x. x };
      lengths = record { no_shorter = λ i. rw (e.first, e.second) (omega arith); no_longer = λ i. rw (e.first, e.second) (omega arith) };
      faults = sparse_faults _ _ _ (never_fails s.settings) c.sync.result e.faults;
      refusals = sparse_flush_refused (sparse_view (g.S.Storage.features s.storages.first) (g.S.Storage.features s.storages.second) (g.S.Storage.fault_count s.storages.first + g.S.Storage.fault_count s.storages.second + s.storages.faults) (g.S.Storage.bytes s.storages.first) (g.S.Storage.bytes s.storages.second) s.table.items s.size s.settings s.short s.waiting) (λ x. x) c.sync.result e.only;
    }
