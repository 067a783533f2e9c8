-- SPDX-License-Identifier: MIT
use Rattle.std.proofs.Common.{rules}
use Rattle.imago_test_drivers.proofs.test_driver.TestDriverFormatDriverInstance.ensure_data_mapping.Goals as goal

pub returns-in-Raw-clause-call : goal.returns-in-Raw-clause-call
returns-in-Raw-clause-call g c = record {
  mapped = search rules;
  changed = search rules;
  causes = search rules;
  outside = rw c.in-Raw.is c.ensure_data_mapping.ensures.call.outside;
  leaves = search rules;
  storages = search rules;
  framed = rw c.in-Raw.is c.ensure_data_mapping.ensures.call.framed;
  refusals = rw c.in-Raw.is c.ensure_data_mapping.ensures.call.refusals;
}

pub returns-in-Choppy-clause-call : goal.returns-in-Choppy-clause-call
returns-in-Choppy-clause-call g c = record {
  mapped = search rules;
  changed = search rules;
  causes = search rules;
  outside = rw c.in-Choppy.is c.ensure_data_mapping-in-Choppy.ensures.call.outside;
  leaves = search rules;
  storages = search rules;
  framed = rw c.in-Choppy.is c.ensure_data_mapping-in-Choppy.ensures.call.framed;
  refusals = rw c.in-Choppy.is c.ensure_data_mapping-in-Choppy.ensures.call.refusals;
}
