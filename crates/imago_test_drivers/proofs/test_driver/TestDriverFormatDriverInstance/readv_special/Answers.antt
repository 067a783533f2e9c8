-- SPDX-License-Identifier: MIT
use Rattle.imago_test_drivers.proofs.test_driver.TestDriverFormatDriverInstance.readv_special.Goals as goal

pub returns-in-Raw-clause-refusals : goal.returns-in-Raw-clause-refusals
returns-in-Raw-clause-refusals g c = rw c.in-Raw.is c.readv_special.ensures.refusals

pub returns-in-Pattern-clause-refusals : goal.returns-in-Pattern-clause-refusals
returns-in-Pattern-clause-refusals g c = rw c.in-Pattern.is c.readv_special-in-Pattern.ensures.refusals

pub returns-in-Choppy-clause-refusals : goal.returns-in-Choppy-clause-refusals
returns-in-Choppy-clause-refusals g c = rw c.in-Choppy.is c.readv_special-in-Choppy.ensures.refusals
