-- SPDX-License-Identifier: MIT
use Rattle.imago_test_drivers.proofs.test_driver.TestDriverFormatDriverInstance.discard_to_zero.Goals as goal

pub returns-in-Raw-clause-call : goal.returns-in-Raw-clause-call
returns-in-Raw-clause-call g c = rw c.in-Raw.is c.discard_to_zero.ensures.call

pub returns-in-Choppy-clause-call : goal.returns-in-Choppy-clause-call
returns-in-Choppy-clause-call g c = rw c.in-Choppy.is c.discard_to_zero-in-Choppy.ensures.call
