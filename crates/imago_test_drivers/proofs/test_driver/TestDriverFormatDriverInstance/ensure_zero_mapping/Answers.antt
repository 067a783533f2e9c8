-- SPDX-License-Identifier: MIT
use Rattle.imago_test_drivers.proofs.test_driver.TestDriverFormatDriverInstance.ensure_zero_mapping.Goals as goal

pub returns-in-Raw-clause-call : goal.returns-in-Raw-clause-call
returns-in-Raw-clause-call g c = rw c.in-Raw.is c.ensure_zero_mapping.ensures.call

pub returns-in-Choppy-clause-call : goal.returns-in-Choppy-clause-call
returns-in-Choppy-clause-call g c = rw c.in-Choppy.is c.ensure_zero_mapping-in-Choppy.ensures.call
