-- SPDX-License-Identifier: MIT
use Rattle.std.proofs.Common.{rules}
use Rattle.imago_test_drivers.proofs.test_driver.TestDriverFormatDriverInstance.write_mapped.Goals as goal

pub write_mapped-requires-clause-mapped : goal.write_mapped-requires-clause-mapped
write_mapped-requires-clause-mapped g c = rw c.in-Raw.is at c.requires.mapped

pub write_mapped-requires-in-Choppy-clause-mapped : goal.write_mapped-requires-in-Choppy-clause-mapped
write_mapped-requires-in-Choppy-clause-mapped g c = rw c.in-Choppy.is at c.requires.mapped

pub returns-in-Raw-clause-call : goal.returns-in-Raw-clause-call
returns-in-Raw-clause-call g c = record {
  written = search rules;
  torn = search rules;
  causes = rw c.in-Raw.is c.write_mapped.ensures.call.causes;
  leaves = search rules;
  storages = search rules;
  framed = rw c.in-Raw.is c.write_mapped.ensures.call.framed;
  refusals = rw c.in-Raw.is c.write_mapped.ensures.call.refusals;
}

pub returns-in-Choppy-clause-call : goal.returns-in-Choppy-clause-call
returns-in-Choppy-clause-call g c = record {
  written = search rules;
  torn = search rules;
  causes = rw c.in-Choppy.is c.write_mapped-in-Choppy.ensures.call.causes;
  leaves = search rules;
  storages = search rules;
  framed = rw c.in-Choppy.is c.write_mapped-in-Choppy.ensures.call.framed;
  refusals = rw c.in-Choppy.is c.write_mapped-in-Choppy.ensures.call.refusals;
}
