-- SPDX-License-Identifier: MIT
use Rattle.imago_any_driver.proofs.any.AnyDriverFormatDriverInstance.ensure_data_mapping.Goals as goal

pub returns-in-Raw-clause-call : goal.returns-in-Raw-clause-call
returns-in-Raw-clause-call g c = rw c.in-Raw.is c.ensure_data_mapping.ensures.call

pub returns-in-Cow-clause-call : goal.returns-in-Cow-clause-call
returns-in-Cow-clause-call g c = rw c.in-Cow.is c.ensure_data_mapping-in-Cow.ensures.call
