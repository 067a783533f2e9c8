-- SPDX-License-Identifier: MIT
use Rattle.std.proofs.Common.{◌+◌, arith, refl, sym, ◌∙◌, inl, inr}
use Rattle.imago_drivers.specs.LayerBelow.{lent}
use Rattle.imago_test_tables.specs.Sparse.{sparse_view}
use Rattle.imago_test_tables.proofs.SparseSteps.{same_table, growth_refused, not_offered}
use Rattle.imago_test_tables.proofs.sparse.SparseFormatDriverInstance.resize_grow.Goals as goal

pub returns-in-Err-clause-call : goal.returns-in-Err-clause-call
returns-in-Err-clause-call g c =
    let s = c.args.self.now in
    record {
      grown = tt;
      idle = λ h. absurd (omega (arith, h, c.if-new_size-self.false));
      unchanged = same_table _ _ _ _ _ s.table.items _ s.size s.settings s.short s.waiting c.in-Err.ensures.unchanged;
      nothing_pending = c.requires.spent;
      no_longer = λ i. omega arith;
      kind = record { abilities = refl; store_count = refl; store_features = λ i. refl };
      faults = record { later = omega arith; reliable = λ e. refl; device = λ e. let x = c.in-Err.ensures.memory in let z : ⊥ = cc in absurd z };
      refusals = rw c.in-Err.ensures.memory (λ x. x);
    }

pub returns-then-self-clause-call : goal.returns-then-self-clause-call
returns-then-self-clause-call g c =
    let s = c.args.self.now in
    growth_refused (sparse_view (g.S.Storage.features s.storages.first) (g.S.Storage.features s.storages.second) (g.S.Storage.fault_count s.storages.first + g.S.Storage.fault_count s.storages.second + s.storages.faults)
    (g.S.Storage.bytes s.storages.first) (g.S.Storage.bytes s.storages.second) s.table.items s.size s.settings s.short s.waiting)
    (lent g.B.LowerLayer.as_layer_below c.args._below) c.args.mode c.args.new_size (omega (arith, c.if-new_size-self.false)) c.requires.spent (not_offered s.short c.args.mode (inl c.if-self.true))

pub returns-in_default-clause-call : goal.returns-in_default-clause-call
returns-in_default-clause-call g c =
    let s = c.args.self.now in
    growth_refused (sparse_view (g.S.Storage.features s.storages.first) (g.S.Storage.features s.storages.second) (g.S.Storage.fault_count s.storages.first + g.S.Storage.fault_count s.storages.second + s.storages.faults)
    (g.S.Storage.bytes s.storages.first) (g.S.Storage.bytes s.storages.second) s.table.items s.size s.settings s.short s.waiting)
    (lent g.B.LowerLayer.as_layer_below c.args._below) c.args.mode c.args.new_size (omega (arith, c.if-new_size-self.false)) c.requires.spent (not_offered s.short c.args.mode (inr (sym c.new_origin.ensures ∙ c.in_default.is)))
