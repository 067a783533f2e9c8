-- SPDX-License-Identifier: MIT
use Rattle.std.proofs.Common.{rules}
use Rattle.std.specs.Prelude.{length}
use Rattle.imago_test_drivers.specs.declared.test_driver.TestDriver.TheVariants as T
use Rattle.imago_test_drivers.specs.TestDriver.{test_view}
use Rattle.imago_test_drivers.proofs.Variants.{foreign_at, causes_at, refusals_at}
use Rattle.imago_test_drivers.proofs.test_driver.TestDriverFormatDriverInstance.write_prepared.Goals as goal

pub returns-in-Raw-clause-foreign : goal.returns-in-Raw-clause-foreign
returns-in-Raw-clause-foreign g c =
    let s = g.S.Storage in
    foreign_at (test_view s.features s.fault_count s.bytes) c.in-Raw.is c.args.mapping.now _ c.write_prepared.ensures.foreign

pub returns-in-Choppy-clause-foreign : goal.returns-in-Choppy-clause-foreign
returns-in-Choppy-clause-foreign g c =
    let s = g.S.Storage in
    foreign_at (test_view s.features s.fault_count s.bytes) c.in-Choppy.is c.args.mapping.now _ c.write_prepared-in-Choppy.ensures.foreign

pub returns-in-Raw-clause-call : goal.returns-in-Raw-clause-call
returns-in-Raw-clause-call g c = record {
  written = search rules;
  torn = search rules;
  round = search rules;
  causes =
      let s = g.S.Storage in
      let v = test_view s.features s.fault_count s.bytes in
      causes_at v c.in-Raw.is c.args.mapping.now (v (T.Raw c.write_prepared.new.self)) c.args.at (length c.args.source.now) c.write_prepared.result c.write_prepared.ensures.call.causes;
  reaches = search rules;
  storages = search rules;
  framed = rw c.in-Raw.is c.write_prepared.ensures.call.framed;
  refusals =
      let s = g.S.Storage in
      refusals_at (test_view s.features s.fault_count s.bytes) c.in-Raw.is c.args.mapping.now c.args.at (length c.args.source.now) c.write_prepared.result c.write_prepared.ensures.call.refusals;
}

pub returns-in-Choppy-clause-call : goal.returns-in-Choppy-clause-call
returns-in-Choppy-clause-call g c = record {
  written = search rules;
  torn = search rules;
  round = search rules;
  causes =
      let s = g.S.Storage in
      let v = test_view s.features s.fault_count s.bytes in
      let x = c.write_prepared-in-Choppy in
      causes_at v c.in-Choppy.is c.args.mapping.now (v (T.Choppy x.new.self)) c.args.at (length c.args.source.now) x.result x.ensures.call.causes;
  reaches = search rules;
  storages = search rules;
  framed = rw c.in-Choppy.is c.write_prepared-in-Choppy.ensures.call.framed;
  refusals =
      let s = g.S.Storage in
      let x = c.write_prepared-in-Choppy in
      refusals_at (test_view s.features s.fault_count s.bytes) c.in-Choppy.is c.args.mapping.now c.args.at (length c.args.source.now) x.result x.ensures.call.refusals;
}
