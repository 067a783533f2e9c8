-- SPDX-License-Identifier: MIT
use Rattle.imago_any_driver.proofs.any.AnyDriverFormatDriverInstance.prepare_data_mapping.Goals as goal

pub returns-in-Raw-clause-prepared : goal.returns-in-Raw-clause-prepared
returns-in-Raw-clause-prepared g c = rw c.in-Raw.is c.prepare_data_mapping.ensures.prepared

pub returns-in-Raw-clause-call : goal.returns-in-Raw-clause-call
returns-in-Raw-clause-call g c = rw c.in-Raw.is c.prepare_data_mapping.ensures.call

pub returns-in-Cow-clause-prepared : goal.returns-in-Cow-clause-prepared
returns-in-Cow-clause-prepared g c = rw c.in-Cow.is c.prepare_data_mapping-in-Cow.ensures.prepared

pub returns-in-Cow-clause-call : goal.returns-in-Cow-clause-call
returns-in-Cow-clause-call g c = rw c.in-Cow.is c.prepare_data_mapping-in-Cow.ensures.call
