-- SPDX-License-Identifier: MIT
use Rattle.imago_test_drivers.proofs.test_driver.TestDriverFormatDriverInstance.discard_to_backing.Goals as goal

pub returns-in-Raw-clause-call : goal.returns-in-Raw-clause-call
returns-in-Raw-clause-call g c = rw c.in-Raw.is c.discard_to_backing.ensures.call

pub returns-in-Raw-clause-performed : goal.returns-in-Raw-clause-performed
returns-in-Raw-clause-performed g c = rw c.in-Raw.is c.discard_to_backing.ensures.performed

pub returns-in-Choppy-clause-call : goal.returns-in-Choppy-clause-call
returns-in-Choppy-clause-call g c = rw c.in-Choppy.is c.discard_to_backing-in-Choppy.ensures.call

pub returns-in-Choppy-clause-performed : goal.returns-in-Choppy-clause-performed
returns-in-Choppy-clause-performed g c = rw c.in-Choppy.is c.discard_to_backing-in-Choppy.ensures.performed
