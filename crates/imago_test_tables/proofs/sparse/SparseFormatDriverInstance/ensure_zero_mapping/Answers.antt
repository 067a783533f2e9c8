-- SPDX-License-Identifier: MIT
use Rattle.std.proofs.Common.{rules, refl, ◌+◌}
use Rattle.imago_drivers.specs.Operation.{Zero}
use Rattle.imago_drivers.proofs.Stays.{stays_itself}
use Rattle.imago_test_tables.proofs.ZeroSteps.{zeroed}
use Rattle.imago_test_tables.proofs.sparse.SparseFormatDriverInstance.ensure_zero_mapping.Goals as goal

pub returns-then-not-self-clause-call : goal.returns-then-not-self-clause-call
returns-then-not-self-clause-call g c =
    let s = c.args.self.now in
    let e = c.put_part.ensures in
    zeroed (g.S.Storage.features s.storages.first) (g.S.Storage.features s.storages.second) (g.S.Storage.fault_count s.storages.first + g.S.Storage.fault_count s.storages.second + s.storages.faults)
    (g.S.Storage.bytes s.storages.first) (g.S.Storage.bytes s.storages.second) s.table.items c.put_part.new.table.items s.size s.settings s.short s.waiting c.args.offset c.args.count Zero
    c.requires.spent (rw c.if-not-self.true (refl, refl)) c.put_part.result e.answered e.filled e.torn e.only e.barred e.beyond

pub returns-then-not-has_granule-clause-call : goal.returns-then-not-has_granule-clause-call
returns-then-not-has_granule-clause-call g c = record {
  done = search rules;
  causes = search rules;
  reaches = search rules;
  nothing_pending = search rules;
  lengths = search rules;
  framed = search rules;
  faults = search rules;
  refusals = search rules;
  outside = stays_itself _ _ _;
}

pub returns-clause-call : goal.returns-clause-call
returns-clause-call g c = record {
  done = search rules;
  causes = search rules;
  reaches = search rules;
  nothing_pending = search rules;
  lengths = search rules;
  framed = search rules;
  faults = search rules;
  refusals = search rules;
  outside = stays_itself _ _ _;
}
