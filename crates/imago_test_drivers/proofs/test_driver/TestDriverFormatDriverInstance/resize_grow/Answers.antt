-- SPDX-License-Identifier: MIT
use Rattle.imago_test_drivers.proofs.test_driver.TestDriverFormatDriverInstance.resize_grow.Goals as goal

pub returns-in-Raw-clause-call : goal.returns-in-Raw-clause-call
returns-in-Raw-clause-call g c = rw c.in-Raw.is c.resize_grow.ensures.call

pub returns-in-Choppy-clause-call : goal.returns-in-Choppy-clause-call
returns-in-Choppy-clause-call g c = rw c.in-Choppy.is c.resize_grow-in-Choppy.ensures.call
