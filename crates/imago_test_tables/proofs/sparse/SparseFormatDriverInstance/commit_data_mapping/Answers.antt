-- SPDX-License-Identifier: MIT
use Rattle.std.proofs.Common.{rules, ◌+◌, ◌&&◌, arith, refl, sym, ◌∙◌, None, true, false}
use Rattle.imago_drivers.proofs.Stays.{stays_itself}
use Rattle.imago_test_tables.specs.Pair.{at_index}
use Rattle.imago_test_tables.specs.Sparse.{sparse_pending}
use Rattle.imago_test_tables.specs.SparseLaws.{sparse_causes}
use Rattle.imago_test_tables.proofs.CommitSteps.{own_is_known, own_has_state, commit_nothing, commit_done, commit_reaches, commit_framed, commit_settled, no_plan, rose}
use Rattle.imago_test_tables.proofs.StaySteps.{commit_stays}
use Rattle.imago_test_tables.proofs.sparse.SparseFormatDriverInstance.commit_data_mapping.Goals as goal

pub returns-in_default-clause-call : goal.returns-in_default-clause-call
returns-in_default-clause-call g c =
    let s = c.args.self.now in
    commit_nothing _ s c.args.mapping (sym c.into_state.ensures ∙ c.in_default.is) (sparse_causes _ _ _ _ _ s.table.items s.size s.settings s.short s.waiting)

pub returns-then-not-own-clause-call : goal.returns-then-not-own-clause-call
returns-then-not-own-clause-call g c = record {
  foreign = search rules;
  untouched = search rules;
  done = search rules;
  torn = search rules;
  own_spent = search rules;
  others_stay = search rules;
  reaches = search rules;
  settled = search rules;
  lengths = search rules;
  framed = search rules;
  faults = search rules;
  refusals = search rules;
  outside = stays_itself _ _ _;
}

pub returns-in_default-fail_commit_after-clause-call : goal.returns-in_default-fail_commit_after-clause-call
returns-in_default-fail_commit_after-clause-call g c =
    let s = c.args.self.now in
    let m = c.args.mapping in
    let A = g.S.Storage.bytes s.storages.first in
    let B = g.S.Storage.bytes s.storages.second in
    let f = g.S.Storage.features s.storages.first in
    let h = g.S.Storage.features s.storages.second in
    let n = g.S.Storage.fault_count s.storages.first + g.S.Storage.fault_count s.storages.second + s.storages.faults in
    let own = (c.is_waiting-own.ensures).0 c.if-not-own.false in
    let fill = rw (c.offset-start.ensures, c.length-count.ensures) at c.put_run.ensures in
    record {
      foreign = (λ e. let z : ⊥ = cc in absurd z, λ x. absurd (own_is_known (sparse_pending (f.keeps_data && h.keeps_data) A s.waiting) m m.state refl own x));
      untouched = λ e. let z : ⊥ = cc in absurd z;
      done = commit_done f h n n A B s.table.items _ s.size s.settings s.short m.length s.waiting m m.state false refl own fill (omega arith) (λ e. refl);
      torn = λ e. tt;
      own_spent = λ e. refl;
      others_stay = λ e. absurd (own_has_state _ m own e);
      reaches = commit_reaches f h n n A B s.table.items _ s.size s.settings s.short m.offset m.length fill s.waiting None;
      settled = λ o e. commit_settled f h n n A B s.table.items _ s.size s.settings s.short m.offset m.length fill o m.length;
      lengths = record { no_shorter = λ i. omega arith; no_longer = λ i. omega arith };
      framed = commit_framed f h n n A B s.table.items _ s.size s.settings s.short m.offset m.length fill s.waiting None;
      faults = record { later = omega arith; reliable = λ e. refl; device = λ e. let z : ⊥ = cc in absurd z };
      refusals = tt;
      outside = commit_stays (at_index A B) (f.keeps_data && h.keeps_data) s.table.items _ A m.length
          s.waiting m m.state refl own fill (omega arith);
    }

pub returns-clause-call : goal.returns-clause-call
returns-clause-call g c =
    let s = c.args.self.now in
    let m = c.args.mapping in
    let A = g.S.Storage.bytes s.storages.first in
    let B = g.S.Storage.bytes s.storages.second in
    let f = g.S.Storage.features s.storages.first in
    let h = g.S.Storage.features s.storages.second in
    let n = g.S.Storage.fault_count s.storages.first + g.S.Storage.fault_count s.storages.second + s.storages.faults in
    let own = (c.is_waiting-own.ensures).0 c.if-not-own.false in
    let made = c.min.result in
    let fill = rw (c.offset-start.ensures) at c.put_run-2.ensures in
    record {
      foreign = (λ e. let z : ⊥ = cc in absurd z, λ x. absurd (own_is_known (sparse_pending (f.keeps_data && h.keeps_data) A s.waiting) m m.state refl own x));
      untouched = λ e. let z : ⊥ = cc in absurd z;
      done = tt;
      torn = λ e. commit_done f h n (g.S.Storage.fault_count s.storages.first + g.S.Storage.fault_count s.storages.second + c.saturating_add-self.result) A B s.table.items _ s.size s.settings s.short made s.waiting m m.state true refl own fill (omega (arith, c.min.ensures, c.length-count.ensures)) (λ x. let z : ⊥ = cc in absurd z);
      own_spent = λ e. refl;
      others_stay = λ e. absurd (own_has_state _ m own e);
      reaches = commit_reaches f h n (g.S.Storage.fault_count s.storages.first + g.S.Storage.fault_count s.storages.second + c.saturating_add-self.result) A B s.table.items _ s.size s.settings s.short m.offset made fill s.waiting None;
      settled = tt;
      lengths = record { no_shorter = λ i. omega arith; no_longer = λ i. omega arith };
      framed = commit_framed f h n (g.S.Storage.fault_count s.storages.first + g.S.Storage.fault_count s.storages.second + c.saturating_add-self.result) A B s.table.items _ s.size s.settings s.short m.offset made fill s.waiting None;
      faults = record {
        later = omega (arith, c.saturating_add-self.ensures);
        reliable = λ e. absurd (no_plan _ s.settings.fail_commit_after _ e c.in-Some-fail_commit_after.is);
        device = λ e. rose n c.saturating_add-self.result s.storages.faults (g.S.Storage.fault_count s.storages.first + g.S.Storage.fault_count s.storages.second) refl c.saturating_add-self.ensures;
      };
      refusals = tt;
      outside = commit_stays (at_index A B) (f.keeps_data && h.keeps_data) s.table.items _ A made
          s.waiting m m.state refl own fill (omega (arith, c.min.ensures, c.length-count.ensures));
    }
