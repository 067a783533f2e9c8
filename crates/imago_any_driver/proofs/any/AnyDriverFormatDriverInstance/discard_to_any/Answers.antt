-- SPDX-License-Identifier: MIT
use Rattle.imago_any_driver.proofs.any.AnyDriverFormatDriverInstance.discard_to_any.Goals as goal

pub returns-in-Raw-clause-call : goal.returns-in-Raw-clause-call
returns-in-Raw-clause-call g c = rw c.in-Raw.is c.discard_to_any.ensures.call

pub returns-in-Raw-clause-performed : goal.returns-in-Raw-clause-performed
returns-in-Raw-clause-performed g c = rw c.in-Raw.is c.discard_to_any.ensures.performed

pub returns-in-Cow-clause-call : goal.returns-in-Cow-clause-call
returns-in-Cow-clause-call g c = rw c.in-Cow.is c.discard_to_any-in-Cow.ensures.call

pub returns-in-Cow-clause-performed : goal.returns-in-Cow-clause-performed
returns-in-Cow-clause-performed g c = rw c.in-Cow.is c.discard_to_any-in-Cow.ensures.performed
