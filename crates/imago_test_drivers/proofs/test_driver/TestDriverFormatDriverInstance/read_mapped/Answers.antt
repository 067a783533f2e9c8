-- SPDX-License-Identifier: MIT
use Rattle.imago_test_drivers.proofs.test_driver.TestDriverFormatDriverInstance.read_mapped.Goals as goal

pub returns-in-Raw-clause-refusals : goal.returns-in-Raw-clause-refusals
returns-in-Raw-clause-refusals g c = rw c.in-Raw.is c.read_mapped.ensures.refusals

pub returns-in-Choppy-clause-refusals : goal.returns-in-Choppy-clause-refusals
returns-in-Choppy-clause-refusals g c = rw c.in-Choppy.is c.read_mapped-in-Choppy.ensures.refusals
