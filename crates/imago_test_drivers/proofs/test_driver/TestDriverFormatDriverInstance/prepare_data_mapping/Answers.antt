-- SPDX-License-Identifier: MIT
use Rattle.imago_test_drivers.proofs.test_driver.TestDriverFormatDriverInstance.prepare_data_mapping.Goals as goal

pub returns-in-Raw-clause-call : goal.returns-in-Raw-clause-call
returns-in-Raw-clause-call g c = rw c.in-Raw.is c.prepare_data_mapping.ensures.call

pub returns-in-Choppy-clause-prepared : goal.returns-in-Choppy-clause-prepared
returns-in-Choppy-clause-prepared g c = rw c.in-Choppy.is c.prepare_data_mapping-in-Choppy.ensures.prepared

pub returns-in-Choppy-clause-call : goal.returns-in-Choppy-clause-call
returns-in-Choppy-clause-call g c = rw c.in-Choppy.is c.prepare_data_mapping-in-Choppy.ensures.call
